-- The session: where the band rule sends a line, the window, and what each call of a session does.
use Rattle.std.specs.Prelude.{◌≡◌, ℕ, ◌+◌, ◌<◌, ◌≤◌, min, Bool, true, false, not, ◌&&◌, if◌then◌else◌, List, [], ◌∷◌, ◌++◌, length, take, drop, Some, None, Ok, Err, Option, Result, ◌==◌, nat_lt}
use Rattle.utf8.specs.Rfc3629.{Octets}
use Rattle.lines.specs.Refusals.{Refusal}
use Rattle.lines.specs.Format.{Line, payload, payload_of, text, Band, on, line_band}
use Rattle.links.specs.Items.{Item}
use Rattle.rules.specs.Refusals.{error_line, handler_stops, marker_in_data, window_open, not_text, no_room}
use Rattle.rules.specs.Handlers.{TextBand, progress, error, Rule}
use Rattle.rules.specs.Readers.{Reader, Verdict, hand, fail, refuse, verdict, answer, left_in, read_after, peek_after, ComesTo, ReadLine, reset}

-- Places

-- where a unit that is reported goes: to the caller as a line; to the window, which begins at an offset of the line; to the handler;
-- to an answer None; to a refusal; or nowhere, as a keepalive
pub data Place : Type 0 where
  to_caller : Line → Place
  to_window : ℕ → List ℕ → Place
  to_handler : TextBand → List ℕ → Place
  to_none : Place
  to_refusal : Refusal → Place
  dropped : Place

-- lines are handed on whole; by their bands; or as data, bands being off
pub data Way : Type 0 where
  whole : Way
  by_bands : Way
  as_data : Way

abbrev pub way_of : Bool → Way
way_of true = by_bands
way_of false = as_data

-- band 1 opens the window behind its band byte; with nothing there it is a keepalive
abbrev pub data_place : List ℕ → Place
data_place [] = dropped
data_place (b ∷ d) = to_window 5 (b ∷ d)

-- bands 2 and 3 are told as texts, also where nothing stands behind the band byte
abbrev pub band_place : Result Band Refusal → Place
band_place (Ok (on b d)) = if b == 1 then data_place d else if b == 2 then to_handler progress (text d) else to_handler error (text d)
band_place (Err e) = to_refusal e

-- without bands the whole payload is the window
abbrev pub plain_place : Option (List ℕ) → Place
plain_place (Some d) = to_window 4 d
plain_place None = to_refusal marker_in_data

-- the band rule
abbrev pub band_rule : Way → Line → Place
band_rule whole l = to_caller l
band_rule by_bands l = band_place (line_band l)
band_rule as_data l = plain_place (payload_of l)

-- where a reading call sends what it reports
abbrev pub destination : Way → Verdict → Place
destination way (hand l) = band_rule way l
destination way (fail m) = to_refusal error_line
destination way (refuse e) = to_refusal e
destination way v = to_none

-- State

-- a window: from pos to cap in the bytes of a line, its prefix counted, and the bytes that stand there unread
pub record Window : Type 0 where
  pub pos : ℕ
  pub cap : ℕ
  pub unread : List ℕ

abbrev pub no_window : Window
no_window = record { pos = 0; cap = 0; unread = [] }

abbrev pub window_at : ℕ → List ℕ → Window
window_at offset d = record { pos = offset; cap = offset + length d; unread = d }

-- consuming saturates
abbrev pub consumed : ℕ → Window → Window
consumed n w = record w { pos = min (w.pos + n) w.cap; unread = drop n w.unread }

-- a window that was appended to a text: cap becomes 0, and pos keeps its value
abbrev pub appended : Window → Window
appended w = record w { cap = 0; unread = [] }

pub record Session : Type 0 where
  pub reader : Reader
  pub bands : Bool
  pub window : Window

abbrev pub with_reader : Session → Reader → Session
with_reader s r = record s { reader = r }

abbrev pub with_window : Session → Window → Session
with_window s w = record s { window = w }

-- a session begins with bands on or off, and without a window
abbrev pub begun : Bool → Reader → Session
begun bands r = record { reader = r; bands = bands; window = no_window }

-- however it is left, its reader is reset
abbrev pub left : Session → Reader
left s = reset s.reader

-- Calls that fill nothing

abbrev pub consume : ℕ → Session → Session
consume n s = with_window s (consumed n s.window)

abbrev pub set_progress_handler : Bool → Session → Session
set_progress_handler bands s = record s { bands = bands }

-- read_data_line hands on the whole line, and is refused while cap is not 0
abbrev pub data_line_answer : Bool → Option (Result Line Refusal) → Option (Result Line Refusal)
data_line_answer true a = a
data_line_answer false a = Some (Err window_open)

abbrev pub ReadDataLine : Session → List Item → Option (Result Line Refusal) → Session → List Item → Type 0
ReadDataLine s items a s' rest =
    ComesTo (data_line_answer (s.window.cap == 0) (answer (verdict s.reader items))) (if s.window.cap == 0 then with_reader s (read_after s.reader items) else s)
    (if s.window.cap == 0 then left_in s.reader.phase items else items) a s' rest

-- peek_data_line answers None for a marker, which stays held if it was no stop
abbrev pub data_only : Line → Option (Result Line Refusal)
data_only (payload d) = Some (Ok (payload d))
data_only l = None

abbrev pub peeked_data : Option (Result Line Refusal) → Option (Result Line Refusal)
peeked_data (Some (Ok l)) = data_only l
peeked_data (Some (Err e)) = Some (Err e)
peeked_data None = None

abbrev pub PeekDataLine : Session → List Item → Option (Result Line Refusal) → Session → List Item → Type 0
PeekDataLine s items a s' rest = ComesTo (peeked_data (answer (verdict s.reader items))) (with_reader s (peek_after s.reader items)) (left_in s.reader.phase items) a s' rest

-- Filling

-- what a fill goes on behind: a keepalive, and a text at which the handler goes on
abbrev pub passes : {H : Type 0} → Rule H → H → Place → Bool
passes rule h (to_handler band t) = rule.goes_on h band t
passes rule h dropped = true
passes rule h place = false

-- a text moves the state of the handler once
abbrev pub moved : {H : Type 0} → Rule H → H → Place → H
moved rule h (to_handler band t) = rule.moves h band t
moved rule h place = h

-- lines are read, each going where the band rule sends it, up to the first that goes to a place which a fill does not pass
pub data Fills {H : Type 0} (rule : Rule H) (way : Way) : Reader → List Item → H → Place → Reader → List Item → H → Type 0 where
  ends : {r r' : Reader} {items rest : List Item} {h h' : H} {a : Option (Result Line Refusal)} {place : Place} →
      place ≡ destination way (verdict r items) → passes rule h place ≡ false → ReadLine r items a r' rest → h' ≡ moved rule h place →
      Fills rule way r items h place r' rest h'
  goes_on : {r r' r'' : Reader} {items rest rest' : List Item} {h h' h'' : H} {a : Option (Result Line Refusal)} {place last : Place} →
      place ≡ destination way (verdict r items) → passes rule h place ≡ true → ReadLine r items a r' rest → h' ≡ moved rule h place →
      Fills rule way r' rest h' last r'' rest' h'' →
      Fills rule way r items h last r'' rest' h''

-- what a fill answers, by the place at which it ended: the window's bytes, none at None, or a refusal
abbrev pub fill_answer : Place → Result (List ℕ) Refusal
fill_answer (to_window offset d) = Ok d
fill_answer (to_handler band t) = Err handler_stops
fill_answer (to_refusal e) = Err e
fill_answer place = Ok []

-- the window behind it: at None both pos and cap become 0, and a refused fill leaves them
abbrev pub fill_window : Window → Place → Window
fill_window w (to_window offset d) = window_at offset d
fill_window w to_none = no_window
fill_window w place = w

-- fill_buf shows the window while pos is below cap, and fills otherwise
pub data FillBuf {H : Type 0} (rule : Rule H) : Session → List Item → H → Result (List ℕ) Refusal → Session → List Item → H → Type 0 where
  has_bytes : {s : Session} {items : List Item} {h : H} {a : Result (List ℕ) Refusal} →
      nat_lt s.window.pos s.window.cap ≡ true → a ≡ Ok s.window.unread → FillBuf rule s items h a s items h
  fills : {s s' : Session} {items rest : List Item} {h h' : H} {a : Result (List ℕ) Refusal} {place : Place} {r' : Reader} →
      nat_lt s.window.pos s.window.cap ≡ false → Fills rule (way_of s.bands) s.reader items h place r' rest h' →
      a ≡ fill_answer place → s' ≡ record s { reader = r'; window = fill_window s.window place } →
      FillBuf rule s items h a s' rest h'

-- Calls that fill

-- fill_buf itself; read into a memory; read_line_to_string into a text with its room
pub data Filling : Type 0 where
  fill_buf : Filling
  read : List ℕ → Filling
  read_line_to_string : ℕ → List ℕ → Filling

-- what they answer: the window's bytes; or a count, with the memory or text as it then is
pub data Filled : Type 0 where
  shows : Result (List ℕ) Refusal → Filled
  counts : Result ℕ Refusal → List ℕ → Filled

-- a refusal leaves memory and text as they were
abbrev pub refuses : Filling → Refusal → Filled
refuses fill_buf e = shows (Err e)
refuses (read memory) e = counts (Err e) memory
refuses (read_line_to_string room t) e = counts (Err e) t

-- bytes are copied to the front of a memory
abbrev pub copied : List ℕ → List ℕ → List ℕ
copied bytes memory = bytes ++ drop (length bytes) memory

-- what a call does with the answer of fill_buf and the window behind it
pub data Uses : Filling → Result (List ℕ) Refusal → Window → Filled → Window → Type 0 where
  refused_fill : {call : Filling} {e : Refusal} {w : Window} → Uses call (Err e) w (refuses call e) w
  shows_window : {u : List ℕ} {w : Window} → Uses fill_buf (Ok u) w (shows (Ok u)) w
  copies : {memory u fits : List ℕ} {w : Window} → fits ≡ take (length memory) u →
      Uses (read memory) (Ok u) w (counts (Ok (length fits)) (copied fits memory)) (consumed (length fits) w)
  finds_no_text : {room : ℕ} {t u : List ℕ} {w : Window} → (Octets u → ⊥) → Uses (read_line_to_string room t) (Ok u) w (counts (Err not_text) t) w
  finds_no_room : {room : ℕ} {t u : List ℕ} {w : Window} → Octets u → room < length t + length u → Uses (read_line_to_string room t) (Ok u) w (counts (Err no_room) t) w
  appends : {room : ℕ} {t u : List ℕ} {w : Window} → Octets u → length t + length u ≤ room → Uses (read_line_to_string room t) (Ok u) w (counts (Ok (length u)) (t ++ u)) (appended w)

-- whether a call is refused while cap is not 0
abbrev pub wants_no_window : Filling → Bool
wants_no_window (read_line_to_string room t) = true
wants_no_window call = false

-- whether the window stands against a call
abbrev pub stands_open : Filling → Window → Bool
stands_open call w = wants_no_window call && not (w.cap == 0)

pub data FillingCall {H : Type 0} (rule : Rule H) (call : Filling) : Session → List Item → H → Filled → Session → List Item → H → Type 0 where
  finds_window : {s : Session} {items : List Item} {h : H} {a : Filled} →
      stands_open call s.window ≡ true → a ≡ refuses call window_open → FillingCall rule call s items h a s items h
  fills_first : {s s' s'' : Session} {items rest : List Item} {h h' : H} {u : Result (List ℕ) Refusal} {a : Filled} {w : Window} →
      stands_open call s.window ≡ false → FillBuf rule s items h u s' rest h' → Uses call u s'.window a w → s'' ≡ with_window s' w →
      FillingCall rule call s items h a s'' rest h'
