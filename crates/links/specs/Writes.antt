-- What one write does to a sink that stands at `before`: it then stands at `after`.
use Rattle.std.specs.Prelude.{◌≡◌, ℕ, ◌<◌, ◌≤◌, List, ◌∷◌, ◌++◌, length, take, drop, replicate, Ok, Err, Result}
use Rattle.links.specs.Slots.{Slot, place, interrupts, fails, Stand}
use Rattle.links.specs.declared.LinkFault.{LinkFault}
use Rattle.links.specs.declared.Moved.{Moved}
use Rattle.links.specs.declared.Moved.TheVariants.{Bytes, Interrupted}

-- n bytes are taken: at most those handed in, and at least one if there is any and any slot is to come.
-- The places used stood in front, so that they end before the next other slot.
pub record Takes (before : Stand) (bytes : List ℕ) (n : ℕ) (after : Stand) : Type 0 where
  pub most : n ≤ length bytes
  pub least : 0 < length bytes → 0 < length before.room → 0 < n
  pub used : before.room ≡ replicate n place ++ after.room
  pub at_home : after.home ≡ before.home
  pub accepts : after.accepted ≡ before.accepted ++ take n bytes
  pub keeps : after.beyond ≡ drop n before.beyond

-- the slot in front is answered and spent, and no byte is taken
pub record Spends (slot : Slot) (before : Stand) (bytes : List ℕ) (after : Stand) : Type 0 where
  pub handed : 0 < length bytes
  pub spent : before.room ≡ slot ∷ after.room
  pub at_home : after.home ≡ before.home
  pub accepts : after.accepted ≡ before.accepted
  pub keeps : after.beyond ≡ before.beyond

-- what a write answers tells what it did
abbrev pub Writes : Stand → List ℕ → Result Moved LinkFault → Stand → Type 0
Writes before bytes (Ok (Bytes n)) after = Takes before bytes n after
Writes before bytes (Ok Interrupted) after = Spends interrupts before bytes after
Writes before bytes (Err e) after = Spends (fails e.number) before bytes after
