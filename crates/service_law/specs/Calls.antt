-- A service: a reader's making, and then any list of calls on one source, those of its sessions among them.
use Rattle.std.specs.Prelude.{◌≡◌, ℕ, zero, suc, Bool, true, false, if◌then◌else◌, List, [], ◌∷◌, Some, None, Option, Result, ◌==◌, slice_get}
use Rattle.lines.specs.Refusals.{Refusal}
use Rattle.lines.specs.Format.{Line}
use Rattle.links.specs.Items.{Item}
use Rattle.rules.specs.Handlers.{Rule}
use Rattle.rules.specs.Readers.{Stops, new_reader, verdict, answer, left_in, read_after, peek_after, edited_in, edit_answer, edit_after}
use Rattle.rules.specs.Readers as readers
use Rattle.rules.specs.Sessions.{Session, with_reader, begun, data_line_answer, peeked_data, Filling, Filled, FillingCall}
use Rattle.rules.specs.Sessions as sessions
use Rattle.service_law.specs.Along.{Along}

-- Calls

-- the calls that fill nothing, with what they are handed
pub data Plain : Type 0 where
  read_line : Plain
  peek_line : Plain
  replace_and_truncate : ℕ → ℕ → Plain
  reset : Plain
  reset_with : Stops → Plain
  fail_on_err_lines : Bool → Plain
  stopped_at : Plain
  begin : Bool → Plain
  leave : Plain
  set_progress_handler : Bool → Plain
  consume : ℕ → Plain
  read_data_line : Plain
  peek_data_line : Plain

-- a call that fills is handed one of the handlers, by its index
pub data Call : Type 0 where
  plain : Plain → Call
  handed : ℕ → Filling → Call

pub data Answer : Type 0 where
  done : Answer
  line : Option (Result Line Refusal) → Answer
  edit : Result Unit Refusal → Answer
  marker : Option Line → Answer
  filled : Filled → Answer
  no_handler : Answer

-- a reader's calls are made outside a session, a session's inside it; two calls both have
pub data Side : Type 0 where
  outside : Side
  within : Side
  either : Side

abbrev pub plain_side : Plain → Side
plain_side read_line = outside
plain_side peek_line = outside
plain_side (replace_and_truncate position b) = outside
plain_side reset = outside
plain_side (reset_with s) = either
plain_side (fail_on_err_lines on) = outside
plain_side stopped_at = either
plain_side (begin on) = outside
plain_side leave = within
plain_side (set_progress_handler on) = within
plain_side (consume n) = within
plain_side read_data_line = within
plain_side peek_data_line = within

abbrev pub side : Call → Side
side (plain c) = plain_side c
side (handed k c) = within

abbrev pub May : Bool → Side → Type 0
May inside outside = inside ≡ false
May inside within = inside ≡ true
May inside either = Unit {0}

abbrev pub inside_after : Plain → Bool → Bool
inside_after (begin on) inside = true
inside_after leave inside = false
inside_after c inside = inside

-- Handlers by their index

abbrev pub handler_at : {H : Type 0} → ℕ → List H → Option H
handler_at k hs = slice_get hs k

abbrev pub at_index : {H : Type 0} → ℕ → (H → H) → List H → List H
at_index k f [] = []
at_index zero f (h ∷ hs) = f h ∷ hs
at_index (suc k) f (h ∷ hs) = h ∷ at_index k f hs

-- States

-- whether a session is open; reader, bands and window; what the source has left; and the state of each handler.
-- Outside a session bands are off and there is no window.
pub record State (H : Type 0) : Type 0 where
  pub inside : Bool
  pub session : Session
  pub left : List Item
  pub handlers : List H

abbrev pub new_service : {H : Type 0} → Stops → List Item → List H → State H
new_service s items hs = record { inside = false; session = begun false (new_reader s); left = items; handlers = hs }

-- Calls that fill nothing, by the rule of each

abbrev pub answered : Plain → Session → List Item → Answer
answered read_line s items = line (answer (verdict s.reader items))
answered peek_line s items = line (answer (verdict s.reader items))
answered (replace_and_truncate position b) s items = edit (edit_answer (edited_in position b s.reader.phase))
answered stopped_at s items = marker (readers.stopped_at s.reader.phase)
answered read_data_line s items = line (data_line_answer (s.window.cap == 0) (answer (verdict s.reader items)))
answered peek_data_line s items = line (peeked_data (answer (verdict s.reader items)))
answered c s items = done

abbrev pub session_after : Plain → Session → List Item → Session
session_after read_line s items = with_reader s (read_after s.reader items)
session_after peek_line s items = with_reader s (peek_after s.reader items)
session_after (replace_and_truncate position b) s items = with_reader s (edit_after s.reader (edited_in position b s.reader.phase))
session_after reset s items = with_reader s (readers.reset s.reader)
session_after (reset_with stops) s items = with_reader s (readers.reset_with stops s.reader)
session_after (fail_on_err_lines on) s items = with_reader s (readers.fail_on_err_lines on s.reader)
session_after stopped_at s items = s
session_after (begin on) s items = begun on s.reader
session_after leave s items = begun false (sessions.left s)
session_after (set_progress_handler on) s items = sessions.set_progress_handler on s
session_after (consume n) s items = sessions.consume n s
session_after read_data_line s items = if s.window.cap == 0 then with_reader s (read_after s.reader items) else s
session_after peek_data_line s items = with_reader s (peek_after s.reader items)

abbrev pub left_after : Plain → Session → List Item → List Item
left_after read_line s items = left_in s.reader.phase items
left_after peek_line s items = left_in s.reader.phase items
left_after read_data_line s items = if s.window.cap == 0 then left_in s.reader.phase items else items
left_after peek_data_line s items = left_in s.reader.phase items
left_after c s items = items

abbrev pub after_plain : {H : Type 0} → Plain → State H → State H
after_plain c a =
    record a {
      inside = inside_after c a.inside;
      session = session_after c a.session a.left;
      left = left_after c a.session a.left;
    }

-- One call leads from a state to a state. A call that fills is made with the handler that it names; one that names none does nothing.
pub data Step {H : Type 0} (rule : Rule H) : State H → Call → Answer → State H → Type 0 where
  plainly : {a b : State H} {c : Plain} {ans : Answer} →
      May a.inside (plain_side c) → ans ≡ answered c a.session a.left → b ≡ after_plain c a → Step rule a (plain c) ans b
  with_handler : {a b : State H} {k : ℕ} {c : Filling} {h h' : H} {f : Filled} {s : Session} {rest : List Item} →
      a.inside ≡ true → handler_at k a.handlers ≡ Some h → FillingCall rule c a.session a.left h f s rest h' →
      b ≡ record { inside = true; session = s; left = rest; handlers = at_index k (λ x. h') a.handlers } → Step rule a (handed k c) (filled f) b
  without_handler : {a b : State H} {k : ℕ} {c : Filling} →
      a.inside ≡ true → handler_at k a.handlers ≡ None → b ≡ a → Step rule a (handed k c) no_handler b

-- calls with their answers, one behind the other
abbrev pub Runs : {H : Type 0} → Rule H → State H → List (Call × Answer) → State H → Type 0
Runs rule a calls b = Along (λ a c b. Step rule a c.0 c.1 b) a calls b
