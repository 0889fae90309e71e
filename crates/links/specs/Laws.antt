-- What holds of the cut of every list.
use Rattle.std.specs.Prelude.{◌≡◌, ℕ, ◌<◌, List, [], ◌∷◌, ◌++◌, map, length, Ok, Err}
use Rattle.lines.specs.Format.{Line, Encodes}
use Rattle.links.specs.Refusals.{ended}
use Rattle.links.specs.Items.{Item, byte, Effect, gives, passes, ends, effect}
use Rattle.links.specs.Cut.{unit, first_unit}

-- an item in front of others, unless it is passed over
abbrev pub kept : Effect ℕ → Item → List Item → List Item
kept (gives b) item items = item ∷ items
kept passes item items = items
kept (ends e) item items = item ∷ items

-- a list without what is passed over
abbrev pub uninterrupted : List Item → List Item
uninterrupted [] = []
uninterrupted (item ∷ items) = kept (effect item) item (uninterrupted items)

pub record Cuts : Type 0 where
  -- a unit is a front of the list, and takes something unless the list is empty
  pub fronts : (items : List Item) → (taken : List Item) × (items ≡ taken ++ (first_unit items).rest) × (0 < length items → 0 < length taken)
  -- past the end each further unit is empty, and refused as ended
  pub past_the_end : first_unit [] ≡ unit (Err ended) []
  -- interruptions change no unit
  pub passed_over : (items : List Item) → first_unit (uninterrupted items) ≡ unit (first_unit items).line (uninterrupted (first_unit items).rest)
  -- the bytes of a line, whatever follows them, are that line
  pub lines : (l : Line) (bs : List ℕ) (items : List Item) → Encodes l bs → first_unit (map byte bs ++ items) ≡ unit (Ok l) items
