-- What is to come from a source, as a finite list, and what each item of it does.
use Rattle.std.specs.Prelude.{ℕ}
use Rattle.lines.specs.Refusals.{Refusal}
use Rattle.links.specs.Refusals.{source_faults}

-- bytes, interruptions and numbered faults
pub data Item : Type 0 where
  byte : ℕ → Item
  interruption : Item
  fault : ℕ → Item

-- what an item in front does to a call that wants X: it is had, it is passed over, or it ends the call with a refusal
pub data Effect (X : Type 0) : Type 0 where
  gives : X → Effect X
  passes : Effect X
  ends : Refusal → Effect X

-- the effect of an item on who wants bytes: all that is said of items elsewhere is said by it
abbrev pub effect : Item → Effect ℕ
effect (byte b) = gives b
effect interruption = passes
effect (fault k) = ends (source_faults k)
