-- The first n bytes of a list of items, whatever pieces a source gives them in.
use Rattle.std.specs.Prelude.{◌≡◌, ℕ, zero, suc, List, [], ◌∷◌, ◌++◌, length, drop, Ok, Err, Result}
use Rattle.lines.specs.Refusals.{Refusal}
use Rattle.links.specs.Refusals.{ended}
use Rattle.links.specs.Items.{Item, Effect, gives, passes, ends, effect}

-- the bytes that were had, why not all of them if so, and what is left of the list
pub record Collected : Type 0 where
  pub got : List ℕ
  pub answer : Result Unit Refusal
  pub rest : List Item

-- nothing more is had
abbrev pub stops : Result Unit Refusal → List Item → Collected
stops r items = record { got = []; answer = r; rest = items }

-- what is collected, behind bytes that were had before
abbrev pub behind : List ℕ → Collected → Collected
behind front c = record { got = front ++ c.got; answer = c.answer; rest = c.rest }

-- one item, by its effect: `next` is what comes of the rest with a byte less, `same` what comes of it with as many
abbrev pub by_effect : Effect ℕ → Collected → Collected → List Item → Collected
by_effect (gives b) next same items = behind (b ∷ []) next
by_effect passes next same items = same
by_effect (ends e) next same items = stops (Err e) items

-- n bytes; the end of the list refuses what is still wanted
abbrev pub collect : ℕ → List Item → Collected
collect zero items = stops (Ok tt) items
collect (suc n) [] = stops (Err ended) []
collect (suc n) (item ∷ items) = by_effect (effect item) (collect n items) (collect (suc n) items) items

-- a memory was to be filled: `answer` is the answer, `after` what it holds then, and `rest` what is still to come
pub record Collects (items : List Item) (memory : List ℕ) (answer : Result Unit Refusal) (rest : List Item) (after : List ℕ) : Type 0 where
  pub answers : (collect (length memory) items).answer ≡ answer
  pub holds : after ≡ (collect (length memory) items).got ++ drop (length (collect (length memory) items).got) memory
  pub leaves : (collect (length memory) items).rest ≡ rest
