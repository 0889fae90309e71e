-- The cut: how a list of items is divided into units, each a line or a refusal.
use Rattle.std.specs.Prelude.{ℕ, zero, suc, List, [], ◌∷◌, Ok, Err, Result}
use Rattle.lines.specs.Refusals.{Refusal}
use Rattle.lines.specs.Format.{Line, payload}
use Rattle.lines.specs.Decoding.{Prefix, marks, wants, prefix, limited}
use Rattle.links.specs.Items.{Item}
use Rattle.links.specs.Collect.{collect}

-- a unit: its line or its refusal, and what is left of the list behind it
pub record UnitTaken : Type 0 where
  pub line : Result Line Refusal
  pub rest : List Item

abbrev pub unit : Result Line Refusal → List Item → UnitTaken
unit l items = record { line = l; rest = items }

-- the line l, if the collecting of its bytes was answered so
abbrev pub line_if : Result Unit Refusal → Line → Result Line Refusal
line_if (Ok _) l = Ok l
line_if (Err e) l = Err e

-- the unit under what its prefix announces: a refused prefix ends it there
abbrev pub by_prefix : Result Prefix Refusal → List Item → UnitTaken
by_prefix (Ok (marks l)) items = unit (Ok l) items
by_prefix (Ok (wants n)) items = unit (line_if (collect n items).answer (payload (collect n items).got)) (collect n items).rest
by_prefix (Err e) items = unit (Err e) items

abbrev pub by_answer : Result Unit Refusal → List ℕ → List Item → UnitTaken
by_answer (Ok _) p items = by_prefix (limited (prefix p)) items
by_answer (Err e) p items = unit (Err e) items

-- the first unit: four bytes, and then what they want
abbrev pub first_unit : List Item → UnitTaken
first_unit items = by_answer (collect 4 items).answer (collect 4 items).got (collect 4 items).rest

-- what is left of the list behind its first n units
abbrev pub after : ℕ → List Item → List Item
after zero items = items
after (suc n) items = after n (first_unit items).rest

-- the first n units of the list
abbrev pub units : ℕ → List Item → List (Result Line Refusal)
units zero items = []
units (suc n) items = (first_unit items).line ∷ units n (first_unit items).rest
