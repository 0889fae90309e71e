-- What each call that fills nothing does to units, windows and terms.
use Rattle.std.proofs.Common.{◌≡◌, ℕ, zero, suc, ◌-◌, Bool, true, false, cond, eqb, List, []}
use Rattle.std.proofs.Common.{◌∷◌, length, take, drop, Some, None, Option, sym, refl, ap, ◌∙◌, arith, length-take, length-drop, take-append-drop}
use Rattle.lines.specs.Format.{Line}
use Rattle.links.specs.Items.{Item}
use Rattle.rules.specs.Handlers.{Rule}
use Rattle.rules.specs.Readers.{Stops, Phase, Reader, verdict, answer, left_in, read_after, edited_in, edit_answer, edit_after}
use Rattle.rules.specs.Sessions.{whole, Window, no_window, Session, with_reader, data_line_answer}
use Rattle.rules.specs.Sessions as sessions
use Rattle.service_law.specs.Calls.{Plain, read_line, peek_line, replace_and_truncate, reset, reset_with, leave, begin, stopped_at, consume, read_data_line, peek_data_line}
use Rattle.service_law.specs.Calls.{Call, plain, State, May, plain_side, answered, session_after, left_after, after_plain}
use Rattle.service_law.specs.Calls as calls
use Rattle.service_law.specs.Marks.{UnitMark, edited, found, resumed, standing, given_to_windows}
use Rattle.service_law.specs.Marks.{WindowMark, seen, consumed, gone}
use Rattle.service_law.specs.Law.{Terms, terms_after, terms_of, Lawful}
use Rattle.service_law.specs.Law as law
use Rattle.service_law.proofs.Units.{Course, course}
use Rattle.service_law.proofs.Units as units
use Rattle.service_law.proofs.Windows.{opened_bytes}
use Rattle.service_law.proofs.Windows as windows
use Rattle.service_law.proofs.Reading.{read_marks, read_by, ShowsHeld, GivesNone, reads_whole, peek_marks, peeks, peek_by, whole_answer}

-- In every service the view shows the held line, a window has the bytes from pos to cap, and outside a session there is none

abbrev pub Long : Window → Type 0
Long w = length w.unread ≡ w.cap - w.pos

pub record Sound {H : Type 0} (a : State H) : Type 0 where
  pub shows_held : ShowsHeld a.session.reader
  pub long : Long a.session.window
  pub shut_outside : a.inside ≡ false → a.session.window ≡ no_window

pub new_sound : {H : Type 0} (s : Stops) (items : List Item) (hs : List H) → Sound (calls.new_service s items hs)
new_sound s items hs = record { shows_held = tt; long = refl; shut_outside = λ e. refl }

-- what befell on the way from a to b, where the terms are g
pub record Does {H : Type 0} (a : State H) (us : List UnitMark) (ws : List WindowMark) (g : Terms H) (b : State H) : Type 0 where
  pub lives : units.Lives (course a.session.reader a.left) us (course b.session.reader b.left)
  pub goes : windows.Lives a.session.window ws b.session.window
  pub opens : given_to_windows us ≡ opened_bytes ws
  pub terms : terms_of b ≡ g

-- what one call does
abbrev pub Accounts : {H : Type 0} → Rule H → State H → Call → List UnitMark → List WindowMark → State H → Type 0
Accounts rule a call us ws b = Does a us ws (terms_after rule (terms_of a) call us) b × Sound b

-- Edits

abbrev edit_marks_of : ℕ → ℕ → Phase → Option Line → List UnitMark
edit_marks_of position b p (Some l) = edited position b ∷ []
edit_marks_of position b p None = found (standing p) ∷ []

abbrev pub edit_marks : ℕ → ℕ → Reader → List UnitMark
edit_marks position b r = edit_marks_of position b r.phase (edited_in position b r.phase)

edits : (position b : ℕ) (r : Reader) (items : List Item) → ShowsHeld r → GivesNone r items (edit_marks position b r) (edit_after r (edited_in position b r.phase)) items
edits position b r items h = grind arith

edit_lawful : {H : Type 0} (rule : Rule H) (g : Terms H) (position b : ℕ) (r : Reader) →
    Lawful rule g (plain (replace_and_truncate position b)) (calls.edit (edit_answer (edited_in position b r.phase))) (edit_marks position b r) []
edit_lawful rule g position b r = grind (arith, law.edits, law.edits_nothing)

-- Windows

take_own : (n : ℕ) (u : List ℕ) → (take (length (take n u)) u ≡ take n u) × (drop (length (take n u)) u ≡ drop n u)
take_own zero u = (refl, refl)
take_own (suc n) [] = (refl, refl)
take_own (suc n) (b ∷ u) = (ap (λ x. b ∷ x) (take_own n u).0, (take_own n u).1)

-- pos stands where the first unread byte is
pub consumed_goes : (n : ℕ) (w : Window) → Long w → windows.Lives w (consumed (take n w.unread) ∷ []) (sessions.consumed n w)
consumed_goes n w h = grind (arith, take_own n w.unread, take-append-drop n w.unread, length-drop n w.unread)

pub consumed_fits : (n : ℕ) (w : Window) → Long w → sessions.consumed (length (take n w.unread)) w ≡ sessions.consumed n w
consumed_fits n w h = grind (arith, take_own n w.unread, length-take n w.unread)

pub consumed_long : (n : ℕ) (w : Window) → Long w → Long (sessions.consumed n w)
consumed_long n w h = let l = length-drop n w.unread in omega (arith, l, h)

-- Calls that fill nothing

abbrev pub plain_units : Plain → Session → List Item → List UnitMark
plain_units read_line s items = read_marks whole s.reader items
plain_units peek_line s items = peek_marks s.reader items
plain_units (replace_and_truncate position b) s items = edit_marks position b s.reader
plain_units reset s items = resumed ∷ []
plain_units (reset_with stops) s items = resumed ∷ []
plain_units stopped_at s items = found (standing s.reader.phase) ∷ []
plain_units leave s items = resumed ∷ []
plain_units read_data_line s items = cond (eqb s.window.cap 0) (read_marks whole s.reader items) []
plain_units peek_data_line s items = peek_marks s.reader items
plain_units c s items = []

abbrev pub plain_windows : Plain → Session → List WindowMark
plain_windows leave s = gone s.window.unread ∷ []
plain_windows (consume n) s = seen s.window ∷ consumed (take n s.window.unread) ∷ []
plain_windows read_data_line s = seen s.window ∷ []
plain_windows c s = []

plain_reads : (c : Plain) (s : Session) (items : List Item) → ShowsHeld s.reader → GivesNone s.reader items (plain_units c s items) (session_after c s items).reader (left_after c s items)
plain_reads read_line s items k = reads_whole s.reader items
plain_reads peek_line s items k = peeks s.reader items k
plain_reads (replace_and_truncate position b) s items k = edits position b s.reader items k
plain_reads read_data_line s items k = go (eqb s.window.cap 0)
  where
    go : (x : Bool) → GivesNone s.reader items (cond x (read_marks whole s.reader items) []) (cond x (with_reader s (read_after s.reader items)) s).reader (cond x (left_in s.reader.phase items) items)
    go true = reads_whole s.reader items
    go false = record { lives = refl; shows_held = k; gives = refl }
plain_reads peek_data_line s items k = peeks s.reader items k
plain_reads c s items k = grind arith

plain_opens : (c : Plain) (s : Session) → opened_bytes (plain_windows c s) ≡ []
plain_opens c s = grind arith

plain_goes : {H : Type 0} (c : Plain) (a : State H) → Sound a → May a.inside (plain_side c) → windows.Lives a.session.window (plain_windows c a.session) (session_after c a.session a.left).window
plain_goes (consume n) a k m = (refl, consumed_goes n a.session.window k.long)
plain_goes c a k m = grind arith

plain_long : (c : Plain) (s : Session) (items : List Item) → Long s.window → Long (session_after c s items).window
plain_long (consume n) s items k = consumed_long n s.window k
plain_long c s items k = grind arith

module _ {H : Type 0} (rule : Rule H) where
  pub plain_accounts : (c : Plain) (a : State H) → Sound a → May a.inside (plain_side c) → Accounts rule a (plain c) (plain_units c a.session a.left) (plain_windows c a.session) (after_plain c a)
  plain_accounts c a k m =
      let o = plain_reads c a.session a.left k.shows_held in (
        record { lives = o.lives; goes = plain_goes c a k m; opens = o.gives ∙ sym (plain_opens c a.session); terms = grind arith },
        record { shows_held = o.shows_held; long = plain_long c a.session a.left k.long; shut_outside = grind arith },
      )

  -- what the table of calls says of them
  marker_stands : (p : Phase) → law.marker_of (standing p) ≡ Rattle.rules.specs.Readers.stopped_at p
  marker_stands p = grind arith

  pub plain_lawful : (c : Plain) (a : State H) → Lawful rule (terms_of a) (plain c) (answered c a.session a.left) (plain_units c a.session a.left) (plain_windows c a.session)
  plain_lawful read_line a = rw (whole_answer (verdict a.session.reader a.left)) (law.reads (read_by whole a.session.reader a.left))
  plain_lawful peek_line a = law.peeks (peek_by a.session.reader a.left)
  plain_lawful (replace_and_truncate position b) a = edit_lawful rule (terms_of a) position b a.session.reader
  plain_lawful read_data_line a = go (eqb a.session.window.cap 0) refl
    where
      go : (x : Bool) → eqb a.session.window.cap 0 ≡ x →
          Lawful rule (terms_of a) (plain read_data_line) (calls.line (data_line_answer x (answer (verdict a.session.reader a.left)))) (cond x (read_marks whole a.session.reader a.left) []) (seen a.session.window ∷ [])
      go true e = rw (whole_answer (verdict a.session.reader a.left)) (law.reads_data e (read_by whole a.session.reader a.left))
      go false e = law.reads_no_data e
  plain_lawful stopped_at a = rw (← marker_stands a.session.reader.phase) law.names_marker
  plain_lawful peek_data_line a = law.peeks_data (peek_by a.session.reader a.left)
  plain_lawful c a = grind (arith, law.resets, law.resets_with, law.sets_flag, law.begins, law.leaves, law.sets_bands, law.consumes)
