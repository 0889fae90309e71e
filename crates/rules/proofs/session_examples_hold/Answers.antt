use Rattle.std.proofs.Common.{◌≡◌, true, false, List, [], ◌∷◌, Ok, refl, arith}
use Rattle.std.specs.Prelude.{nat_lt}
use Rattle.hex_digits.specs.Digits.{length_field}
use Rattle.utf8.specs.Rfc3629.{Octets, none, utf8_1}
use Rattle.links.specs.Items.{Item}
use Rattle.rules.specs.Handlers.{Rule}
use Rattle.rules.specs.Readers.{Reader, verdict, left_in, read_after}
use Rattle.rules.specs.Sessions.{Place, Way, way_of, Window, Session, destination, passes, moved, Fills, ends, goes_on, fill_answer, fill_window, FillBuf, has_bytes}
use Rattle.rules.specs.Sessions.{with_window, Filling, fill_buf, Filled, Uses, refused_fill, shows_window, copies, finds_no_text, finds_no_room, appends, stands_open, FillingCall, fills_first, finds_window}
use Rattle.rules.specs.Sessions as sessions
use Rattle.rules.proofs.session_examples_hold.Goals as goal

-- a fill ends at its first line
last : {H : Type 0} {rule : Rule H} {way : Way} {r : Reader} {items : List Item} {h : H} →
    passes rule h (destination way (verdict r items)) ≡ false →
    Fills rule way r items h (destination way (verdict r items)) (read_after r items) (left_in r.phase items) (moved rule h (destination way (verdict r items)))
last e = ends refl e (record { answers = refl; becomes = refl; leaves = refl }) refl

-- or goes on behind it
more : {H : Type 0} {rule : Rule H} {way : Way} {r r' : Reader} {items rest : List Item} {h h' : H} {place : Place} →
    passes rule h (destination way (verdict r items)) ≡ true →
    Fills rule way (read_after r items) (left_in r.phase items) (moved rule h (destination way (verdict r items))) place r' rest h' →
    Fills rule way r items h place r' rest h'
more e f = goes_on refl e (record { answers = refl; becomes = refl; leaves = refl }) refl f

-- a call fills, and uses what came of it
filled : {H : Type 0} {rule : Rule H} {call : Filling} {s : Session} {items rest : List Item} {h h' : H} {a : Filled} {place : Place} {r' : Reader} {w : Window} →
    stands_open call s.window ≡ false → nat_lt s.window.pos s.window.cap ≡ false → Fills rule (way_of s.bands) s.reader items h place r' rest h' →
    Uses call (fill_answer place) (fill_window s.window place) a w → FillingCall rule call s items h a (record s { reader = r'; window = w }) rest h'
filled e l f u = fills_first e (sessions.fills l f refl refl) u refl

-- a call sees the window that stands there
stands : {H : Type 0} {rule : Rule H} {s : Session} {items : List Item} {h : H} {a : Filled} {w : Window} →
    nat_lt s.window.pos s.window.cap ≡ true → Uses fill_buf (Ok s.window.unread) s.window a w → FillingCall rule fill_buf s items h a (with_window s w) items h
stands l u = fills_first refl (has_bytes l refl) u refl

-- a letter is text, and a byte of 255 is not
letter : Octets (97 ∷ [])
letter = utf8_1 97 [] (omega arith, omega arith) none

no_text_255 : Octets (255 ∷ []) → ⊥
no_text_255 (utf8_1 a s i o) = omega arith

pub returns : goal.returns
unfolding length_field
returns c =
    record {
      first_window = filled refl refl (last refl) shows_window;
      still_shown = stands refl shows_window;
      consumes_window = refl;
      second_window = filled refl refl (more refl (last refl)) shows_window;
      whole_payload = filled refl refl (last refl) shows_window;
      counts_empty_texts = filled refl refl (more refl (more refl (last refl))) shows_window;
      logs_empty_texts = filled refl refl (more refl (more refl (last refl))) shows_window;
      loses_newline = refl;
      loses_one = refl;
      strict_stops = filled refl refl (last refl) refused_fill;
      told_before = filled refl refl (last refl) refused_fill;
      strict_goes_on = filled refl refl (more refl (last refl)) shows_window;
      logs_text = filled refl refl (more refl (last refl)) shows_window;
      no_room_to_log = filled refl refl (last refl) refused_fill;
      logs_no_more = filled refl refl (last refl) refused_fill;
      stays_as_it_is = λ written free band t. refl;
      stops_ever_after = λ written free band t. refl;
      marker_on_bands = filled refl refl (last refl) refused_fill;
      marker_in_data = filled refl refl (last refl) refused_fill;
      band_four = filled refl refl (last refl) refused_fill;
      refuses_line = record { answers = refl; becomes = refl; leaves = refl };
      refuses_at_end = record { answers = refl; becomes = refl; leaves = refl };
      refuses_text = finds_window refl refl;
      fill_meets_none = filled refl refl (last refl) shows_window;
      none_then = record { answers = refl; becomes = refl; leaves = refl };
      line_then = record { answers = refl; becomes = refl; leaves = refl };
      text_at_none = filled refl refl (last refl) (appends none (omega arith));
      no_text = filled refl refl (last refl) (finds_no_text no_text_255);
      no_room = filled refl refl (last refl) (finds_no_room letter (omega arith));
      appends_window = filled refl refl (last refl) (appends letter (omega arith));
      consume_then = refl;
      consume_saturates = refl;
      reads_to_front = filled refl refl (last refl) (copies refl);
      reads_no_bytes = filled refl refl (last refl) (copies refl);
      peeks_at_marker = record { answers = refl; becomes = refl; leaves = refl };
      reads_marker = record { answers = refl; becomes = refl; leaves = refl };
      damage = filled refl refl (last refl) refused_fill;
      line_behind_damage = record { answers = refl; becomes = refl; leaves = refl };
      resets_reader = refl;
      unread_gone = filled refl refl (last refl) shows_window;
    }
