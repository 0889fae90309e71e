-- Worked runs of a session.
use Rattle.std.specs.Prelude.{◌≡◌, ℕ, true, false, List, [], ◌∷◌, ◌++◌, map, Some, None, Ok, Err, codes, Option, Result}
use Rattle.lines.specs.Refusals.{Refusal, refused}
use Rattle.lines.specs.Format.{Line, payload, flush, delimiter}
use Rattle.links.specs.Items.{Item, byte}
use Rattle.rules.specs.Handlers.{TextBand, progress, error, Rule, quiet, strict, Logged, log}
use Rattle.rules.specs.Readers.{Phase, ready, holds, stopped, View, nothing, the_line, new_reader, after, reset_with}
use Rattle.rules.specs.Sessions.{to_handler, by_bands, band_rule, Window, no_window, window_at, consumed, Session, with_reader, with_window, begun, left}
use Rattle.rules.specs.Sessions.{consume, set_progress_handler, ReadDataLine, PeekDataLine, Filling, fill_buf, read, read_line_to_string, Filled, shows, counts, FillingCall}
use Rattle.rules.specs.Examples.{at_flush_only}

-- Runs

-- a session, and the list of its source
pub record Standing : Type 0 where
  pub session : Session
  pub items : List Item

-- bands are on, and flush is a stop marker
abbrev pub standing : Phase → View → Window → List ℕ → Standing
standing p v w bytes = record { session = with_window (begun true (after (new_reader at_flush_only) p v)) w; items = map byte bytes }

abbrev pub from : List ℕ → Standing
from bytes = standing ready nothing no_window bytes

-- behind a call that only the session knows of
abbrev pub then : (Session → Session) → Standing → Standing
then f p = record p { session = f p.session }

abbrev pub without_bands : Standing → Standing
without_bands p = then (set_progress_handler false) p

-- a call that fills: from p, with the handler's state at h, it answers a, and leads to p' and h'
abbrev pub Calls : {H : Type 0} → Rule H → Filling → Standing → H → Filled → Standing → H → Type 0
Calls rule call p h a p' h' = FillingCall rule call p.session p.items h a p'.session p'.items h'

abbrev pub Fills : {H : Type 0} → Rule H → Standing → H → Result (List ℕ) Refusal → Standing → H → Type 0
Fills rule p h a p' h' = Calls rule fill_buf p h (shows a) p' h'

-- calls at which quiet is told no text; the text that is appended to is t, and then t'
abbrev pub FillsTo : Standing → Result (List ℕ) Refusal → Standing → Type 0
FillsTo p a p' = Fills quiet p 0 a p' 0

abbrev pub ReadsTo : List ℕ → Standing → ℕ → List ℕ → Standing → Type 0
ReadsTo memory p n memory' p' = Calls quiet (read memory) p 0 (counts (Ok n) memory') p' 0

abbrev pub AppendsTo : ℕ → Standing → Result ℕ Refusal → List ℕ → Standing → Type 0
AppendsTo room p a t' p' = Calls quiet (read_line_to_string room (codes "t")) p 0 (counts a t') p' 0

-- calls that fill nothing
abbrev pub ReadsLine : Standing → Option (Result Line Refusal) → Standing → Type 0
ReadsLine p a p' = ReadDataLine p.session p.items a p'.session p'.items

abbrev pub PeeksLine : Standing → Option (Result Line Refusal) → Standing → Type 0
PeeksLine p a p' = PeekDataLine p.session p.items a p'.session p'.items

-- Where they lead

-- behind a payload that was read; and with the bytes of band 1 in the window, unread
abbrev pub behind : List ℕ → Window → List ℕ → Standing
behind d w bytes = standing ready (the_line (payload d)) w bytes

abbrev pub opened : List ℕ → List ℕ → Standing
opened d bytes = behind (1 ∷ d) (window_at 5 d) bytes

-- a window of one byte that was read to its end; and one that was appended to a text
abbrev pub at_end : Window
at_end = record { pos = 6; cap = 6; unread = [] }

abbrev pub used : Window
used = record { pos = 5; cap = 0; unread = [] }

abbrev pub read_out : List ℕ → Standing
read_out bytes = behind (codes "\u{1}a") at_end bytes

-- at a marker that is no stop marker; at one that is; and with the reading resumed behind that
abbrev pub at_marker : Phase → List ℕ → Standing
at_marker p bytes = standing p (the_line delimiter) no_window bytes

abbrev pub closed : List ℕ → Standing
closed bytes = standing (stopped flush) nothing no_window bytes

abbrev pub resumed : Standing → Standing
resumed p = then (λ s. with_reader s (reset_with at_flush_only s.reader)) p

-- a handler that counts, and stops at an error
abbrev pub counting : Rule ℕ
counting = record { moves = quiet.moves; goes_on = λ n band t. strict.goes_on tt band t }

-- the memory of a log: written, and free places behind it; and of one that ceased
abbrev pub memory : List ℕ → List ℕ → Logged
memory written free = record { written = written; beyond = free; ceased = false }

abbrev pub ceased_in : List ℕ → List ℕ → Logged
ceased_in written free = record (memory written free) { ceased = true }

pub record SessionExamples : Type 0 where
  -- a window is shown while it has unread bytes; a keepalive between two windows is passed over
  pub first_window : FillsTo (from (codes "0006\u{1}a0005\u{1}0006\u{1}b")) (Ok (codes "a")) (opened (codes "a") (codes "0005\u{1}0006\u{1}b"))
  pub still_shown : FillsTo (opened (codes "a") (codes "0005\u{1}")) (Ok (codes "a")) (opened (codes "a") (codes "0005\u{1}"))
  pub consumes_window : then (consume 1) (opened (codes "a") (codes "0005\u{1}0006\u{1}b")) ≡ read_out (codes "0005\u{1}0006\u{1}b")
  pub second_window : FillsTo (read_out (codes "0005\u{1}0006\u{1}b")) (Ok (codes "b")) (opened (codes "b") [])
  -- bands off, the whole payload is the window
  pub whole_payload : FillsTo (without_bands (from (codes "0006\u{2}a"))) (Ok (codes "\u{2}a")) (without_bands (behind (codes "\u{2}a") (window_at 4 (codes "\u{2}a")) []))
  -- empty texts are told, and the fill goes on; a text loses the one newline that ends it
  pub counts_empty_texts : Fills quiet (from (codes "0005\u{2}0005\u{3}0006\u{1}a")) 0 (Ok (codes "a")) (opened (codes "a") []) 2
  pub logs_empty_texts : Fills log (from (codes "0005\u{2}0005\u{3}0006\u{1}a")) (memory [] (codes "......")) (Ok (codes "a")) (opened (codes "a") []) (memory (codes "\u{2}\0\0\u{3}\0\0") [])
  pub loses_newline : band_rule by_bands (payload (codes "\u{2}a\n")) ≡ to_handler progress (codes "a")
  pub loses_one : band_rule by_bands (payload (codes "\u{3}a\n\n")) ≡ to_handler error (codes "a\n")
  -- a handler that stops was told the text, the line is taken, and pos and cap stay
  pub strict_stops : Fills strict (read_out (codes "0006\u{3}x0005b")) tt (Err (refused 11 None)) (behind (codes "\u{3}x") at_end (codes "0005b")) tt
  pub told_before : Fills counting (read_out (codes "0006\u{3}x0005b")) 0 (Err (refused 11 None)) (behind (codes "\u{3}x") at_end (codes "0005b")) 1
  pub strict_goes_on : Fills strict (from (codes "0006\u{2}x0006\u{1}a")) tt (Ok (codes "a")) (opened (codes "a") []) tt
  -- a log writes band byte, length and text; what does not fit is not written, nor anything after it
  pub logs_text : Fills log (from (codes "0006\u{2}x0006\u{1}a")) (memory [] (codes ".....")) (Ok (codes "a")) (opened (codes "a") []) (memory (codes "\u{2}\0\u{1}x") (codes "."))
  pub no_room_to_log : Fills log (from (codes "0006\u{3}x0005\u{2}")) (memory (codes "\u{2}\0\0") (codes "...")) (Err (refused 11 None)) (behind (codes "\u{3}x") no_window (codes "0005\u{2}")) (ceased_in (codes "\u{2}\0\0") (codes "..."))
  pub logs_no_more : Fills log (from (codes "0005\u{2}0005b")) (ceased_in (codes "\u{2}\0\0") (codes "...")) (Err (refused 11 None)) (behind (codes "\u{2}") no_window (codes "0005b")) (ceased_in (codes "\u{2}\0\0") (codes "..."))
  pub stays_as_it_is : (written free : List ℕ) (band : TextBand) (t : List ℕ) → log.moves (ceased_in written free) band t ≡ ceased_in written free
  pub stops_ever_after : (written free : List ℕ) (band : TextBand) (t : List ℕ) → log.goes_on (ceased_in written free) band t ≡ false
  -- a marker that is no stop marker is refused, with bands and without; and so is a fourth band
  pub marker_on_bands : FillsTo (from (codes "00010005a")) (Err (refused 9 None)) (at_marker ready (codes "0005a"))
  pub marker_in_data : FillsTo (without_bands (from (codes "00010005a"))) (Err (refused 12 None)) (without_bands (at_marker ready (codes "0005a")))
  pub band_four : FillsTo (from (codes "0006\u{4}a")) (Err (refused 10 (Some 4))) (behind (codes "\u{4}a") no_window [])
  -- whole lines are refused while cap is not 0, up to a fill that meets None
  pub refuses_line : ReadsLine (opened (codes "a") (codes "0005b")) (Some (Err (refused 13 None))) (opened (codes "a") (codes "0005b"))
  pub refuses_at_end : ReadsLine (read_out (codes "0005b")) (Some (Err (refused 13 None))) (read_out (codes "0005b"))
  pub refuses_text : AppendsTo 9 (read_out (codes "0006\u{1}b")) (Err (refused 13 None)) (codes "t") (read_out (codes "0006\u{1}b"))
  pub fill_meets_none : FillsTo (read_out (codes "00000005b")) (Ok []) (closed (codes "0005b"))
  pub none_then : ReadsLine (closed (codes "0005b")) None (closed (codes "0005b"))
  pub line_then : ReadsLine (resumed (closed (codes "0005b"))) (Some (Ok (payload (codes "b")))) (behind (codes "b") no_window [])
  pub text_at_none : AppendsTo 9 (closed []) (Ok 0) (codes "t") (closed [])
  -- a window that is no text, or does not fit, stays open, and the text stays
  pub no_text : AppendsTo 9 (from (codes "0006\u{1}" ++ (255 ∷ []))) (Err (refused 14 None)) (codes "t") (opened (255 ∷ []) [])
  pub no_room : AppendsTo 1 (from (codes "0006\u{1}a")) (Err (refused 15 None)) (codes "t") (opened (codes "a") [])
  -- a window that was appended leaves pos, which a consume makes 0
  pub appends_window : AppendsTo 2 (from (codes "0006\u{1}a")) (Ok 1) (codes "ta") (behind (codes "\u{1}a") used [])
  pub consume_then : consumed 1 used ≡ no_window
  pub consume_saturates : consumed 9 (window_at 5 (codes "a")) ≡ at_end
  -- a memory is filled from its front; reading into no bytes takes a line too
  pub reads_to_front : ReadsTo (codes "...") (from (codes "0006\u{1}a")) 1 (codes "a..") (read_out [])
  pub reads_no_bytes : ReadsTo [] (from (codes "0006\u{1}a")) 0 [] (opened (codes "a") [])
  -- a marker that is looked at stays held
  pub peeks_at_marker : PeeksLine (from (codes "00010005a")) None (at_marker (holds delimiter) (codes "0005a"))
  pub reads_marker : ReadsLine (at_marker (holds delimiter) (codes "0005a")) (Some (Ok delimiter)) (at_marker ready (codes "0005a"))
  -- behind a refused unit the reader is not done and holds nothing, and the next line is read
  pub damage : FillsTo (from (codes "zzzz0005a")) (Err (refused 1 None)) (from (codes "0005a"))
  pub line_behind_damage : ReadsLine (from (codes "0005a")) (Some (Ok (payload (codes "a")))) (behind (codes "a") no_window [])
  -- a session that is left resets its reader, and its unread bytes are gone
  pub resets_reader : left (closed []).session ≡ after (new_reader at_flush_only) ready nothing
  pub unread_gone : FillsTo (then (λ s. begun true (left s)) (opened (codes "a") (codes "0006\u{1}b"))) (Ok (codes "b")) (opened (codes "b") [])
