-- What is to be had from a sink, as a finite list, and where a sink stands.
use Rattle.std.specs.Prelude.{ℕ, List, ◌++◌}
use Rattle.links.specs.Refusals.{sink_faults}
use Rattle.links.specs.Items.{Effect, gives, passes, ends}

-- places for a byte, interruptions and numbered faults
pub data Slot : Type 0 where
  place : Slot
  interrupts : Slot
  fails : ℕ → Slot

-- the effect of a slot on who has bytes to send
abbrev pub slot_effect : Slot → Effect Unit
slot_effect place = gives tt
slot_effect interrupts = passes
slot_effect (fails k) = ends (sink_faults k)

-- a sink: the name of the memory that its bytes go to, the bytes accepted, what that memory holds past them, and what is to come
pub record Stand : Type 0 where
  pub home : ℕ
  pub accepted : List ℕ
  pub beyond : List ℕ
  pub room : List Slot

-- what the memory of a sink holds
abbrev pub holds : Stand → List ℕ
holds s = s.accepted ++ s.beyond
