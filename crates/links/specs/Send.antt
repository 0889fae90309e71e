-- What comes of sending bytes to a sink, whatever pieces it takes.
use Rattle.std.specs.Prelude.{◌≡◌, ℕ, List, [], ◌∷◌, ◌++◌, length, drop, Ok, Err, Result}
use Rattle.lines.specs.Refusals.{Refusal}
use Rattle.links.specs.Refusals.{takes_none}
use Rattle.links.specs.Items.{Effect, gives, passes, ends}
use Rattle.links.specs.Slots.{Slot, slot_effect, Stand}

-- the bytes accepted, why not all of them if so, and what is left of the list
pub record Sent : Type 0 where
  pub accepted : List ℕ
  pub answer : Result Unit Refusal
  pub left : List Slot

-- nothing more is accepted
abbrev pub ceases : Result Unit Refusal → List Slot → Sent
ceases r slots = record { accepted = []; answer = r; left = slots }

-- what is accepted, behind bytes that were accepted before
abbrev pub joined : List ℕ → Sent → Sent
joined front r = record { accepted = front ++ r.accepted; answer = r.answer; left = r.left }

-- one slot, by its effect: `next` is what comes of the other bytes, `same` what comes of all of them behind it
abbrev pub slot_by : Effect Unit → ℕ → Sent → Sent → List Slot → Sent
slot_by (gives _) b next same slots = joined (b ∷ []) next
slot_by passes b next same slots = same
slot_by (ends e) b next same slots = ceases (Err e) slots

-- the bytes go to the places in order; the end of the list refuses what is still to be sent
abbrev pub send : List ℕ → List Slot → Sent
send [] slots = ceases (Ok tt) slots
send (b ∷ bytes) [] = ceases (Err takes_none) []
send (b ∷ bytes) (slot ∷ slots) = slot_by (slot_effect slot) b (send bytes slots) (send (b ∷ bytes) slots) slots

-- where a sink stands behind that
abbrev pub stand_behind : Stand → Sent → Stand
stand_behind s r = record { home = s.home; accepted = s.accepted ++ r.accepted; beyond = drop (length r.accepted) s.beyond; room = r.left }

abbrev pub pushed : List ℕ → Stand → Stand
pushed bytes s = stand_behind s (send bytes s.room)

-- the bytes are sent to a sink that stands at `before`: `answer` is the answer, and it then stands at `after`
pub record Sends (before : Stand) (bytes : List ℕ) (answer : Result Unit Refusal) (after : Stand) : Type 0 where
  pub answers : (send bytes before.room).answer ≡ answer
  pub stands : pushed bytes before ≡ after
