-- Worked runs of a reader.
use Rattle.std.specs.Prelude.{◌≡◌, ℕ, true, false, List, map, Some, None, Ok, Err, codes, Option, Result}
use Rattle.lines.specs.Refusals.{Refusal, refused}
use Rattle.lines.specs.Format.{Line, payload, flush}
use Rattle.links.specs.Items.{Item, byte}
use Rattle.rules.specs.Readers.{Stops, Reader, the_line, the_message, ready, new_reader, verdict, answer, left_in, read_after, peek_after}
use Rattle.rules.specs.Readers.{reset, reset_with, fail_on_err_lines, edited_in, edit_answer, edit_after, replaced, stopped_at}

-- Runs

-- stop at flush alone, and at nothing
abbrev pub at_flush_only : Stops
at_flush_only = record { at_flush = true; at_delimiter = false; at_response_end = false }

abbrev pub at_nothing : Stops
at_nothing = record { at_flush = false; at_delimiter = false; at_response_end = false }

-- a reader, and the list of its source
pub record Place : Type 0 where
  pub reader : Reader
  pub items : List Item

abbrev pub from : Stops → List ℕ → Place
from s bytes = record { reader = new_reader s; items = map byte bytes }

-- what the next read_line or peek_line answers
abbrev pub next : Place → Option (Result Line Refusal)
next p = answer (verdict p.reader p.items)

-- behind a read_line, and behind a peek_line
abbrev pub read : Place → Place
read p = record { reader = read_after p.reader p.items; items = left_in p.reader.phase p.items }

abbrev pub peeked : Place → Place
peeked p = record { reader = peek_after p.reader p.items; items = left_in p.reader.phase p.items }

-- behind a call that only the reader knows of
abbrev pub then : (Reader → Reader) → Place → Place
then f p = record p { reader = f p.reader }

-- behind an edit
abbrev pub edited : ℕ → ℕ → Reader → Reader
edited position b r = edit_after r (edited_in position b r.phase)

abbrev pub edit : ℕ → ℕ → Place → Result Unit Refusal
edit position b p = edit_answer (edited_in position b p.reader.phase)

-- Their beginnings

abbrev pub two_lines : Place
two_lines = from at_flush_only (codes "0005a00000005b")

abbrev pub damaged : Place
damaged = from at_nothing (codes "zzzz0005a")

abbrev pub hello : Place
hello = peeked (from at_nothing (codes "0009hello"))

abbrev pub a_flush : Place
a_flush = peeked (from at_nothing (codes "0000"))

abbrev pub an_error : Place
an_error = from at_nothing (codes "0009ERR x")

pub record Examples : Type 0 where
  -- a stop marker gives None; behind a reset the reading goes on, and ends with 6
  pub first_line : next two_lines ≡ Some (Ok (payload (codes "a")))
  pub at_the_marker : next (read two_lines) ≡ None
  pub names_it : stopped_at (read (read two_lines)).reader.phase ≡ Some flush
  pub still_done : next (read (read two_lines)) ≡ None
  pub goes_on : next (then reset (read (read two_lines))) ≡ Some (Ok (payload (codes "b")))
  pub at_the_end : next (read (then reset (read (read two_lines)))) ≡ Some (Err (refused 6 None))
  -- a refused unit is given by the peek that took it, and the reader is ready again
  pub damage : next damaged ≡ Some (Err (refused 1 None))
  pub ready_again : (peeked damaged).reader.phase ≡ ready
  pub behind_it : next (peeked damaged) ≡ Some (Ok (payload (codes "a")))
  -- a held line is edited twice, shown as edited, and handed on so
  pub first_edit : next (then (edited 3 112) hello) ≡ Some (Ok (payload (codes "help")))
  pub second_edit : next (then (edited 1 105) (then (edited 3 112) hello)) ≡ Some (Ok (payload (codes "hi")))
  pub shows_edit : (then (edited 3 112) hello).reader.view ≡ the_line (payload (codes "help"))
  -- an edit is refused where no line is held, at the payload's length, and of a marker
  pub nothing_held : edit 0 112 two_lines ≡ Err (refused 16 None)
  pub past_payload : edit 5 112 hello ≡ Err (refused 16 None)
  pub of_marker : edit 0 112 a_flush ≡ Err (refused 16 None)
  -- a held stop marker and a held ERR line are handed on, though stop set and flag now match them
  pub held_marker : next (then (reset_with at_flush_only) a_flush) ≡ Some (Ok flush)
  pub held_error : next (then (fail_on_err_lines true) (peeked an_error)) ≡ Some (Ok (payload (codes "ERR x")))
  -- an ERR line under the flag gives 8, shows its message, and leaves the reader done, stopped at no marker
  pub error_line : next (then (fail_on_err_lines true) an_error) ≡ Some (Err (refused 8 None))
  pub shows_message : (read (then (fail_on_err_lines true) an_error)).reader.view ≡ the_message (codes "x")
  pub then_done : next (read (then (fail_on_err_lines true) an_error)) ≡ None
  pub at_no_marker : stopped_at (read (then (fail_on_err_lines true) an_error)).reader.phase ≡ None
  -- replace drops a held line, and leaves the view
  pub drops_held : next (then replaced hello) ≡ Some (Err (refused 6 None))
  pub keeps_view : (then replaced hello).reader.view ≡ the_line (payload (codes "hello"))
