-- The law of a service: what holds of the log of every service, told by what befell units and windows.
use Rattle.std.specs.Prelude.{◌≡◌, ℕ, ◌≤◌, Bool, true, false, List, [], ◌∷◌, ◌++◌, length, take, map, flat_map, fold, Some, None, Ok, Err, Option, Result, ◌==◌}
use Rattle.lines.specs.Refusals.{Refusal}
use Rattle.lines.specs.Format.{Line, payload}
use Rattle.links.specs.Items.{Item}
use Rattle.links.specs.Cut.{units, after}
use Rattle.rules.specs.Refusals.{window_open, not_held}
use Rattle.rules.specs.Handlers.{Rule}
use Rattle.rules.specs.Readers.{Stops, nothing, Verdict, hand, judged, answer}
use Rattle.rules.specs.Sessions.{Place, to_caller, to_window, to_none, to_refusal, Way, whole, way_of, band_rule, destination, Window, no_window}
use Rattle.rules.specs.Sessions.{passes, moved, fill_answer, fill_window, peeked_data, Filling, read, read_line_to_string, Filled, counts, refuses, stands_open, Uses}
use Rattle.service_law.specs.Calls.{Plain, read_line, peek_line, replace_and_truncate, reset, reset_with, fail_on_err_lines, stopped_at, begin, leave, set_progress_handler, consume, read_data_line, peek_data_line}
use Rattle.service_law.specs.Calls.{Call, plain, handed, Answer, done, line, edit, marker, filled, no_handler, side, May, inside_after, handler_at, at_index, State, new_service, Step, Runs}
use Rattle.service_law.specs.Marks.{Piece, Standing, free, has, UnitMark, took, shown, edited, reported, found, resumed, UnitsGo, taken, reports_of, as_edited, standing, held, viewed, given_to_windows, told}
use Rattle.service_law.specs.Marks.{WindowMark, opened, seen, consumed, appended, emptied, gone, WindowsGo, used}
use Rattle.service_law.specs.Marks as marks

-- Logs

-- a call, its answer, and what it did to units and windows
pub record Entry : Type 0 where
  pub call : Call
  pub answer : Answer
  pub units : List UnitMark
  pub windows : List WindowMark

abbrev pub said : List Entry → List (Call × Answer)
said log = map (λ e. (e.call, e.answer)) log

abbrev pub unit_marks : List Entry → List UnitMark
unit_marks log = flat_map (λ e. e.units) log

abbrev pub window_marks : List Entry → List WindowMark
window_marks log = flat_map (λ e. e.windows) log

-- Terms: what the calls themselves choose, and what the handlers have become

pub record Terms (H : Type 0) : Type 0 where
  pub stops : Stops
  pub flag : Bool
  pub inside : Bool
  pub bands : Bool
  pub handlers : List H

abbrev pub stops_after : Plain → Stops → Stops
stops_after (reset_with given) s = given
stops_after c s = s

abbrev pub flag_after : Plain → Bool → Bool
flag_after (fail_on_err_lines on) flag = on
flag_after c flag = flag

abbrev pub bands_after : Plain → Bool → Bool
bands_after (begin on) bands = on
bands_after leave bands = false
bands_after (set_progress_handler on) bands = on
bands_after c bands = bands

-- a handler that a call was handed is moved by the texts that the call reported; no other one is
abbrev pub terms_after : {H : Type 0} → Rule H → Terms H → Call → List UnitMark → Terms H
terms_after rule g (plain c) us =
    record g { stops = stops_after c g.stops; flag = flag_after c g.flag; inside = inside_after c g.inside; bands = bands_after c g.bands }
terms_after rule g (handed k c) us = record g { handlers = at_index k (λ h. told rule h us) g.handlers }

abbrev pub terms_behind : {H : Type 0} → Rule H → Terms H → List Entry → Terms H
terms_behind rule g log = fold (λ g e. terms_after rule g e.call e.units) g log

abbrev pub terms_of : {H : Type 0} → State H → Terms H
terms_of a =
    record { stops = a.session.reader.stops; flag = a.session.reader.flag; inside = a.inside; bands = a.session.bands; handlers = a.handlers }

-- The table of calls: what each one does, and answers

-- One read_line: the reader is done; or the held line is reported; or a unit is taken, judged by stop set and flag, and reported.
-- What is reported goes where the band rule sends it.
pub data ReadBy (s : Stops) (flag : Bool) (way : Way) : List UnitMark → Place → Type 0 where
  was_done : {m : Option Line} → ReadBy s flag way (shown (marks.done m) ∷ []) to_none
  of_held : {l : Line} → ReadBy s flag way (reported (Ok l) (band_rule way l) ∷ []) (band_rule way l)
  of_new : {u : Piece} → ReadBy s flag way (took u ∷ reported u (destination way (judged s flag u)) ∷ []) (destination way (judged s flag u))

-- one peek_line: the same, but a line is shown, and stays held
abbrev pub peeked : Piece → Verdict → UnitMark
peeked u (hand l) = shown (has (Ok l))
peeked u v = reported u (destination whole v)

pub data PeekBy (s : Stops) (flag : Bool) : List UnitMark → Option (Result Line Refusal) → Type 0 where
  was_done : {m : Option Line} → PeekBy s flag (shown (marks.done m) ∷ []) None
  of_held : {l : Line} → PeekBy s flag (shown (has (Ok l)) ∷ []) (Some (Ok l))
  of_new : {u : Piece} → PeekBy s flag (took u ∷ peeked u (judged s flag u) ∷ []) (answer (judged s flag u))

-- what a call answers that hands on whole lines
abbrev pub answer_at : Place → Option (Result Line Refusal)
answer_at (to_caller l) = Some (Ok l)
answer_at (to_refusal e) = Some (Err e)
answer_at place = None

-- an edit is refused where no line is held, of a marker, and at a position past the payload
abbrev pub NoEdit : Standing → ℕ → Type 0
NoEdit (has (Ok (payload d))) position = length d ≤ position
NoEdit a position = Unit {0}

-- the marker at which a reader is done, if any
abbrev pub marker_of : Standing → Option Line
marker_of (marks.done m) = m
marker_of a = None

-- a fill: lines by read_line, up to the first that goes to a place which a fill does not pass; h is the state of the handler
pub data FillBy {H : Type 0} (rule : Rule H) (s : Stops) (flag : Bool) (way : Way) : H → List UnitMark → Place → Type 0 where
  ends : {h : H} {us : List UnitMark} {place : Place} → ReadBy s flag way us place → passes rule h place ≡ false → FillBy rule s flag way h us place
  goes_on : {h : H} {us vs : List UnitMark} {place last : Place} →
      ReadBy s flag way us place → passes rule h place ≡ true → FillBy rule s flag way (moved rule h place) vs last → FillBy rule s flag way h (us ++ vs) last

-- the window is opened by the report that went to it, and emptied by one that went to None
abbrev pub window_mark : Place → List WindowMark
window_mark (to_window offset d) = opened offset d ∷ []
window_mark to_none = emptied ∷ []
window_mark place = []

-- fill_buf: the window w while bytes of it are unread, otherwise a fill
pub data Opens {H : Type 0} (rule : Rule H) (g : Terms H) (h : H) : Window → List UnitMark → List WindowMark → Result (List ℕ) Refusal → Window → Type 0 where
  had_bytes : {w : Window} {b : ℕ} {u : List ℕ} → w.unread ≡ b ∷ u → Opens rule g h w [] [] (Ok w.unread) w
  took_lines : {w : Window} {us : List UnitMark} {place : Place} → w.unread ≡ [] → FillBy rule g.stops g.flag (way_of g.bands) h us place →
      Opens rule g h w us (window_mark place) (fill_answer place) (fill_window w place)

-- read consumes what fits; read_line_to_string appends all of the window, unless it is refused
abbrev pub use_marks : Filling → Result (List ℕ) Refusal → Filled → List WindowMark
use_marks (read memory) (Ok u) f = consumed (take (length memory) u) ∷ []
use_marks (read_line_to_string room t) (Ok u) (counts (Ok n) t') = appended u ∷ []
use_marks call u f = []

pub data Lawful {H : Type 0} (rule : Rule H) (g : Terms H) : Call → Answer → List UnitMark → List WindowMark → Type 0 where
  reads : {us : List UnitMark} {place : Place} → ReadBy g.stops g.flag whole us place → Lawful rule g (plain read_line) (line (answer_at place)) us []
  peeks : {us : List UnitMark} {a : Option (Result Line Refusal)} → PeekBy g.stops g.flag us a → Lawful rule g (plain peek_line) (line a) us []
  edits : {position b : ℕ} → Lawful rule g (plain (replace_and_truncate position b)) (edit (Ok tt)) (edited position b ∷ []) []
  edits_nothing : {position b : ℕ} {a : Standing} → NoEdit a position → Lawful rule g (plain (replace_and_truncate position b)) (edit (Err not_held)) (found a ∷ []) []
  resets : Lawful rule g (plain reset) done (resumed ∷ []) []
  resets_with : {s : Stops} → Lawful rule g (plain (reset_with s)) done (resumed ∷ []) []
  sets_flag : {on : Bool} → Lawful rule g (plain (fail_on_err_lines on)) done [] []
  names_marker : {a : Standing} → Lawful rule g (plain stopped_at) (marker (marker_of a)) (found a ∷ []) []
  begins : {on : Bool} → Lawful rule g (plain (begin on)) done [] []
  leaves : {u : List ℕ} → Lawful rule g (plain leave) done (resumed ∷ []) (gone u ∷ [])
  sets_bands : {on : Bool} → Lawful rule g (plain (set_progress_handler on)) done [] []
  consumes : {n : ℕ} {w : Window} → Lawful rule g (plain (consume n)) done [] (seen w ∷ consumed (take n w.unread) ∷ [])
  reads_no_data : {w : Window} → (w.cap == 0) ≡ false → Lawful rule g (plain read_data_line) (line (Some (Err window_open))) [] (seen w ∷ [])
  reads_data : {us : List UnitMark} {place : Place} {w : Window} → (w.cap == 0) ≡ true → ReadBy g.stops g.flag whole us place →
      Lawful rule g (plain read_data_line) (line (answer_at place)) us (seen w ∷ [])
  peeks_data : {us : List UnitMark} {a : Option (Result Line Refusal)} → PeekBy g.stops g.flag us a → Lawful rule g (plain peek_data_line) (line (peeked_data a)) us []
  names_no_handler : {k : ℕ} {c : Filling} → handler_at k g.handlers ≡ None → Lawful rule g (handed k c) no_handler [] []
  finds_window : {k : ℕ} {c : Filling} {h : H} {w : Window} → handler_at k g.handlers ≡ Some h → stands_open c w ≡ true →
      Lawful rule g (handed k c) (filled (refuses c window_open)) [] (seen w ∷ [])
  fills : {k : ℕ} {c : Filling} {h : H} {w w' w'' : Window} {us : List UnitMark} {ws : List WindowMark} {u : Result (List ℕ) Refusal} {f : Filled} →
      handler_at k g.handlers ≡ Some h → stands_open c w ≡ false → Opens rule g h w us ws u w' → Uses c u w' f w'' →
      Lawful rule g (handed k c) (filled f) us (seen w ∷ (ws ++ use_marks c u f))

abbrev pub AllLawful : {H : Type 0} → Rule H → Terms H → List Entry → Type 0
AllLawful rule g [] = Unit {0}
AllLawful rule g (e ∷ log) =
    May g.inside (side e.call) × Lawful rule g e.call e.answer e.units e.windows × AllLawful rule (terms_after rule g e.call e.units) log

-- The law

-- units in order: a service over a source with the list `items` has the log, and is now at b
pub record UnitsInOrder {H : Type 0} (items : List Item) (log : List Entry) (b : State H) : Type 0 where
  -- the source has given exactly the units taken, which are the first of its cut
  pub taken_first : taken (unit_marks log) ≡ units (length (taken (unit_marks log))) items
  pub given : b.left ≡ after (length (taken (unit_marks log))) items
  -- those reported, in order, and then the held one if any, are those taken, as edited
  pub reported_once : reports_of (unit_marks log) ++ held b.session.reader.phase ≡ as_edited (unit_marks log)
  -- each is taken where none is held and the reader is not done, shown and edited while it is held, and reported once
  pub lives : UnitsGo free (unit_marks log) (standing b.session.reader.phase)
  -- the view shows what was shown or reported last
  pub view_last : b.session.reader.view ≡ viewed nothing (unit_marks log)

-- the band rule: each report went where its call's rule sends it, windows and handlers got nothing else, and the calls answered so
pub record BandRule {H : Type 0} (rule : Rule H) (stops : Stops) (items : List Item) (hs : List H) (log : List Entry) (b : State H) : Type 0 where
  -- each call did, and answered, what the table of calls says
  pub calls : AllLawful rule (terms_of (new_service stops items hs)) log
  -- stop set, flag and bands are those last chosen; each handler was moved once by each text of the calls that it was handed to, in order
  pub terms : terms_of b ≡ terms_behind rule (terms_of (new_service stops items hs)) log
  -- the bytes used, in order, and then the unread, are those that reports gave to windows
  pub consumed_once : used (window_marks log) ++ b.session.window.unread ≡ given_to_windows (unit_marks log)
  -- a window opens where no byte is unread; its bytes are used in order, none twice; the unread are gone with the session
  pub windows : WindowsGo no_window (window_marks log) b.session.window

pub record Law {H : Type 0} (rule : Rule H) (stops : Stops) (items : List Item) (hs : List H) (log : List Entry) (b : State H) : Type 0 where
  pub units_in_order : UnitsInOrder items log b
  pub band_rule : BandRule rule stops items hs log b

-- a service of these calls with these answers has an account of which the law holds
abbrev pub Accounted : {H : Type 0} → Rule H → Stops → List Item → List H → List (Call × Answer) → State H → Type 0
Accounted rule stops items hs calls b = (log : List Entry) × (said log ≡ calls) × Law rule stops items hs log b

-- the law holds of every service, after its making and after each of its calls
abbrev pub LawHolds : {H : Type 0} → Rule H → Type 0
LawHolds {H} rule = (stops : Stops) (items : List Item) (hs : List H) (calls : List (Call × Answer)) (b : State H) →
    Runs rule (new_service stops items hs) calls b → Accounted rule stops items hs calls b

-- the law loses nothing: a log of which it holds is a service's, and ends in the same state
abbrev pub LawIsExact : {H : Type 0} → Rule H → Type 0
LawIsExact {H} rule = (stops : Stops) (items : List Item) (hs : List H) (log : List Entry) (b : State H) →
    Law rule stops items hs log b → Runs rule (new_service stops items hs) (said log) b

-- the calls are deterministic: from one state, the same call has the same answer and leads to the same state
abbrev pub CallsFixed : {H : Type 0} → Rule H → Type 0
CallsFixed {H} rule = (a b c : State H) (call : Call) (x y : Answer) → Step rule a call x b → Step rule a call y c → (x ≡ y) × (b ≡ c)

-- so are lists of calls: from one state, the same calls in one order have the same answers and lead to the same state
abbrev pub RunsFixed : {H : Type 0} → Rule H → Type 0
RunsFixed {H} rule = (a b c : State H) (xs ys : List (Call × Answer)) → map (λ x. x.0) xs ≡ map (λ y. y.0) ys →
    Runs rule a xs b → Runs rule a ys c → (xs ≡ ys) × (b ≡ c)
