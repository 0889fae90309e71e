-- Steps, one behind the other.
use Rattle.std.specs.Prelude.{List, [], ◌∷◌}

-- a step leads from a place to a place, by a mark
pub data Along {S M : Type 0} (goes : S → M → S → Type 0) : S → List M → S → Type 0 where
  at_end : {a : S} → Along goes a [] a
  next : {a b c : S} {m : M} {ms : List M} → goes a m b → Along goes b ms c → Along goes a (m ∷ ms) c
