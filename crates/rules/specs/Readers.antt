-- The reader: its state, and what each of its calls does with it and with the list of its source.
use Rattle.std.specs.Prelude.{◌≡◌, ℕ, Bool, true, false, if◌then◌else◌, List, [], ◌∷◌, ◌++◌, length, take, Some, None, Ok, Err, Option, Result, nat_lt}
use Rattle.lines.specs.Refusals.{Refusal}
use Rattle.lines.specs.Format.{Line, payload, flush, delimiter, response_end, and_then, payload_of, message}
use Rattle.links.specs.Items.{Item}
use Rattle.links.specs.Cut.{first_unit}
use Rattle.rules.specs.Refusals.{error_line, not_held}

-- State

-- the stop set: which markers end the reading
pub record Stops : Type 0 where
  pub at_flush : Bool
  pub at_delimiter : Bool
  pub at_response_end : Bool

-- whether a line is a marker of the stop set
abbrev pub stops_at : Stops → Line → Bool
stops_at s (payload d) = false
stops_at s flush = s.at_flush
stops_at s delimiter = s.at_delimiter
stops_at s response_end = s.at_response_end

-- a reader is ready; or holds a line that was looked at; or is done, at a stop marker or after an ERR line
pub data Phase : Type 0 where
  ready : Phase
  holds : Line → Phase
  stopped : Line → Phase
  failed : Phase

-- what the one view shows: nothing, a line, or the message of an ERR line
pub data View : Type 0 where
  nothing : View
  the_line : Line → View
  the_message : List ℕ → View

pub record Reader : Type 0 where
  pub stops : Stops
  pub flag : Bool
  pub phase : Phase
  pub view : View

-- a new reader has the given stop set, and nothing else on
abbrev pub new_reader : Stops → Reader
new_reader s = record { stops = s; flag = false; phase = ready; view = nothing }

-- What comes of a unit

-- what a reading call comes to: the reader was done; a stop marker; a line to be handed on; an ERR line under the flag; a refused unit
pub data Verdict : Type 0 where
  idle : Verdict
  stop : Line → Verdict
  hand : Line → Verdict
  fail : List ℕ → Verdict
  refuse : Refusal → Verdict

-- a line under the flag: one that has a message fails
abbrev pub by_flag : Bool → Line → Option (List ℕ) → Verdict
by_flag true l (Some m) = fail m
by_flag flag l o = hand l

-- a unit just taken is judged by the stop set, and then by the flag
abbrev pub judged : Stops → Bool → Result Line Refusal → Verdict
judged s flag (Err e) = refuse e
judged s flag (Ok l) = if stops_at s l then stop l else by_flag flag l (and_then (payload_of l) message)

-- a reader that is ready takes the next unit; a held line is handed on without a look at stop set or flag
abbrev pub verdict_in : Stops → Bool → Phase → List Item → Verdict
verdict_in s flag ready items = judged s flag (first_unit items).line
verdict_in s flag (holds l) items = hand l
verdict_in s flag p items = idle

abbrev pub verdict : Reader → List Item → Verdict
verdict r items = verdict_in r.stops r.flag r.phase items

-- only a reader that is ready takes something from its source
abbrev pub left_in : Phase → List Item → List Item
left_in ready items = (first_unit items).rest
left_in p items = items

-- what a reading call answers
abbrev pub answer : Verdict → Option (Result Line Refusal)
answer (hand l) = Some (Ok l)
answer (fail m) = Some (Err error_line)
answer (refuse e) = Some (Err e)
answer v = None

-- what the view then shows
abbrev pub shown : Verdict → View
shown (hand l) = the_line l
shown (fail m) = the_message m
shown v = nothing

-- the phase behind a read, and behind a peek, which keeps the line that it took
abbrev pub read_phase : Phase → Verdict → Phase
read_phase p idle = p
read_phase p (stop l) = stopped l
read_phase p (fail m) = failed
read_phase p v = ready

abbrev pub peek_phase : Phase → Verdict → Phase
peek_phase p idle = p
peek_phase p (stop l) = stopped l
peek_phase p (hand l) = holds l
peek_phase p (fail m) = failed
peek_phase p (refuse e) = ready

-- Calls: each relates the reader and the list before, the answer, and the reader and the list after

abbrev pub after : Reader → Phase → View → Reader
after r p v = record r { phase = p; view = v }

-- the reader behind a read_line, and behind a peek_line
abbrev pub read_after : Reader → List Item → Reader
read_after r items = after r (read_phase r.phase (verdict r items)) (shown (verdict r items))

abbrev pub peek_after : Reader → List Item → Reader
peek_after r items = after r (peek_phase r.phase (verdict r items)) (shown (verdict r items))

-- what a reading call comes to: its answer, the state behind it, and what is left of the list
pub record ComesTo {S : Type 0} (the_answer : Option (Result Line Refusal)) (state : S) (left : List Item) (a : Option (Result Line Refusal)) (s : S) (rest : List Item) : Type 0 where
  pub answers : a ≡ the_answer
  pub becomes : s ≡ state
  pub leaves : rest ≡ left

abbrev pub ReadLine : Reader → List Item → Option (Result Line Refusal) → Reader → List Item → Type 0
ReadLine r items a r' rest = ComesTo (answer (verdict r items)) (read_after r items) (left_in r.phase items) a r' rest

abbrev pub PeekLine : Reader → List Item → Option (Result Line Refusal) → Reader → List Item → Type 0
PeekLine r items a r' rest = ComesTo (answer (verdict r items)) (peek_after r items) (left_in r.phase items) a r' rest

-- the byte at a position becomes the payload's last
abbrev pub shortened : ℕ → ℕ → List ℕ → List ℕ
shortened position b d = take position d ++ (b ∷ [])

-- an edit of a line that is held: its line, or none where it is refused
abbrev pub edited_line : ℕ → ℕ → Line → Option Line
edited_line position b (payload d) = if nat_lt position (length d) then Some (payload (shortened position b d)) else None
edited_line position b l = None

abbrev pub edited_in : ℕ → ℕ → Phase → Option Line
edited_in position b (holds l) = edited_line position b l
edited_in position b p = None

-- the edited line is held and shown; a refused edit changes nothing
abbrev pub edit_answer : Option Line → Result Unit Refusal
edit_answer (Some l) = Ok tt
edit_answer None = Err not_held

abbrev pub edit_after : Reader → Option Line → Reader
edit_after r (Some l) = after r (holds l) (the_line l)
edit_after r None = r

pub record ReplaceAndTruncate (r : Reader) (position b : ℕ) (a : Result Unit Refusal) (r' : Reader) : Type 0 where
  pub answers : a ≡ edit_answer (edited_in position b r.phase)
  pub becomes : r' ≡ edit_after r (edited_in position b r.phase)

-- a reset ends being done, and nothing else
abbrev pub resumed : Phase → Phase
resumed (holds l) = holds l
resumed p = ready

abbrev pub reset : Reader → Reader
reset r = after r (resumed r.phase) r.view

abbrev pub reset_with : Stops → Reader → Reader
reset_with s r = record r { stops = s; phase = resumed r.phase }

abbrev pub fail_on_err_lines : Bool → Reader → Reader
fail_on_err_lines on r = record r { flag = on }

-- the marker at which a reader is done, if any
abbrev pub stopped_at : Phase → Option Line
stopped_at (stopped l) = Some l
stopped_at p = None

-- a replaced reader is a new one, with the old stop set and view
abbrev pub replaced : Reader → Reader
replaced r = record r { flag = false; phase = ready }

-- What holds of every reader: stopped_at names a marker of the stop set. That a reader which is done holds no line is in its phases.
abbrev pub SoundIn : Stops → Phase → Type 0
SoundIn s (stopped l) = stops_at s l ≡ true
SoundIn s p = Unit {0}

abbrev pub Sound : Reader → Type 0
Sound r = SoundIn r.stops r.phase
