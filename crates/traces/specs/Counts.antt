-- How many bytes, interruptions and faults are to come.
use Rattle.std.specs.Prelude.{ℕ, ◌+◌, ◌-◌, min, List, [], ◌∷◌}
use Rattle.links.specs.Items.{Effect, gives, passes, ends}
use Rattle.traces.specs.declared.Left.{Left}
use Rattle.traces.specs.declared.Step.{Step}
use Rattle.traces.specs.declared.Step.TheVariants.{Bytes, Interruption, Fault}

-- nothing
abbrev pub nothing : Left
nothing = record { bytes = 0; interruptions = 0; faults = 0 }

-- two counts together
abbrev pub both : Left → Left → Left
both l m = record { bytes = l.bytes + m.bytes; interruptions = l.interruptions + m.interruptions; faults = l.faults + m.faults }

-- what an effect counts for: a byte that is had or taken, an interruption, or a fault
abbrev pub worth : {X : Type 0} → Effect X → Left
worth (gives x) = record { bytes = 1; interruptions = 0; faults = 0 }
worth passes = record { bytes = 0; interruptions = 1; faults = 0 }
worth (ends e) = record { bytes = 0; interruptions = 0; faults = 1 }

-- what is left, where a list is to come
abbrev pub tally : {X Y : Type 0} → (X → Effect Y) → List X → Left
tally effect [] = nothing
tally effect (x ∷ xs) = both (worth (effect x)) (tally effect xs)

-- what a step comes to, where there are so many bytes for it
abbrev pub step_left : ℕ → Step → Left
step_left room (Bytes n) = record { bytes = min n room; interruptions = 0; faults = 0 }
step_left room Interruption = record { bytes = 0; interruptions = 1; faults = 0 }
step_left room (Fault k) = record { bytes = 0; interruptions = 0; faults = 1 }

-- how many bytes a step leaves to those behind it
abbrev pub room_behind : ℕ → Step → ℕ
room_behind room (Bytes n) = room - n
room_behind room Interruption = room
room_behind room (Fault k) = room

-- what steps come to
abbrev pub steps_left : ℕ → List Step → Left
steps_left room [] = nothing
steps_left room (step ∷ steps) = both (step_left room step) (steps_left (room_behind room step) steps)
