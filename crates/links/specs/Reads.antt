-- What one read of a source does: `items` is what was to come and `rest` what is still to come,
-- `memory` is the memory handed in and `after` what it holds then.
use Rattle.std.specs.Prelude.{◌≡◌, ℕ, ◌<◌, ◌≤◌, List, ◌∷◌, ◌++◌, map, length, take, drop, Ok, Err, Result}
use Rattle.links.specs.Items.{Item, byte, interruption, fault}
use Rattle.links.specs.declared.LinkFault.{LinkFault}
use Rattle.links.specs.declared.Moved.{Moved}
use Rattle.links.specs.declared.Moved.TheVariants.{Bytes, Interrupted}

-- n bytes are given: at most those asked for, and at least one if any is asked for and any item is to come.
-- They stood in front, so that they end before the next other item, and memory past them is unchanged.
pub record Gives (items : List Item) (memory : List ℕ) (n : ℕ) (rest : List Item) (after : List ℕ) : Type 0 where
  pub most : n ≤ length memory
  pub least : 0 < length memory → 0 < length items → 0 < n
  pub given : items ≡ map byte (take n after) ++ rest
  pub beyond : drop n after ≡ drop n memory

-- the item in front is answered and spent, and memory is unchanged
pub record Spends (item : Item) (items : List Item) (memory : List ℕ) (rest : List Item) (after : List ℕ) : Type 0 where
  pub asked : 0 < length memory
  pub spent : items ≡ item ∷ rest
  pub kept : after ≡ memory

-- what a read answers tells what it did
abbrev pub Reads : List Item → List ℕ → Result Moved LinkFault → List Item → List ℕ → Type 0
Reads items memory (Ok (Bytes n)) rest after = Gives items memory n rest after
Reads items memory (Ok Interrupted) rest after = Spends interruption items memory rest after
Reads items memory (Err e) rest after = Spends (fault e.number) items memory rest after
