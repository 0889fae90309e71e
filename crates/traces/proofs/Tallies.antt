-- Counts of lists, put together.
use Rattle.std.proofs.Common.{◌≡◌, ℕ, ◌+◌, List, [], ◌∷◌, ◌++◌, sym, refl, ap, ◌∙◌, zero-add, add_assoc}
use Rattle.links.specs.Items.{Effect}
use Rattle.traces.specs.Counts.{nothing, both, worth, tally}
use Rattle.traces.specs.declared.Left.{Left}

-- counts with the same parts
pub same_left : {l m : Left} → l.bytes ≡ m.bytes → l.interruptions ≡ m.interruptions → l.faults ≡ m.faults → l ≡ m
same_left b i f k = record { bytes = b k; interruptions = i k; faults = f k }

-- so many bytes, and nothing else
abbrev pub only_bytes : ℕ → Left
only_bytes n = record { bytes = n; interruptions = 0; faults = 0 }

pub nothing_first : (l : Left) → both nothing l ≡ l
nothing_first l = same_left (zero-add l.bytes) (zero-add l.interruptions) (zero-add l.faults)

pub both_assoc : (l m n : Left) → both (both l m) n ≡ both l (both m n)
both_assoc l m n = same_left (add_assoc l.bytes m.bytes n.bytes) (add_assoc l.interruptions m.interruptions n.interruptions) (add_assoc l.faults m.faults n.faults)

-- a list in front of another
pub tally_append : {X Y : Type 0} (effect : X → Effect Y) (xs ys : List X) → tally effect (xs ++ ys) ≡ both (tally effect xs) (tally effect ys)
tally_append effect [] ys = sym (nothing_first (tally effect ys))
tally_append effect (x ∷ xs) ys = ap (both (worth (effect x))) (tally_append effect xs ys) ∙ sym (both_assoc (worth (effect x)) (tally effect xs) (tally effect ys))

-- bytes in front of others: so many more bytes are counted
pub more_bytes : {X Y : Type 0} (effect : X → Effect Y) (front others : List X) (n : ℕ) (l : Left) → tally effect front ≡ only_bytes n → l ≡ tally effect others →
    record { bytes = n + l.bytes; interruptions = l.interruptions; faults = l.faults } ≡ tally effect (front ++ others)
more_bytes effect front others n l first behind =
    let all = tally_append effect front others in
    rw (all, first, sym behind) (same_left refl (sym (zero-add l.interruptions)) (sym (zero-add l.faults)))
