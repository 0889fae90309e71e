-- Sending: the lines that each call of an encoder and of a writer sends, what it answers, and what its sink accepts.
use Rattle.std.specs.Prelude.{◌≡◌, ℕ, zero, suc, ◌+◌, List, [], ◌∷◌, ◌++◌, length, take, drop, map, if◌then◌else◌, Some, None, Ok, Err, Option, Result, codes, ◌==◌, nat_lt, slice_get}
use Rattle.lines.specs.declared.Channel.{Channel}
use Rattle.lines.specs.Meaning.{channel_of}
use Rattle.lines.specs.Refusals.{Refusal}
use Rattle.lines.specs.Format.{Line, payload, flush, delimiter, response_end, most_data, framed, encoded}
use Rattle.links.specs.Slots.{Slot, Stand}
use Rattle.links.specs.Send.{send, stand_behind}
use Rattle.rules.specs.Refusals.{exceeds, no_data}

-- Encoders

-- a call of an encoder, with what it is handed
pub data Encoding : Type 0 where
  flush_line : Encoding
  delimiter_line : Encoding
  response_end_line : Encoding
  data_line : List ℕ → Encoding
  text_line : List ℕ → Encoding
  error_line : List ℕ → Encoding
  band_line : Channel → List ℕ → Encoding

-- a payload of prefix, data and suffix is refused where it exceeds the limit, and then where there is no data
abbrev pub framed_line : List ℕ → List ℕ → List ℕ → Result Line Refusal
framed_line before d behind =
    let total = length before + (length d + length behind) in
    if nat_lt most_data total then Err (exceeds total) else if length d == 0 then Err no_data else Ok (framed before d behind)

-- the line that an encoder sends, or the refusal that comes before it uses its sink
abbrev pub line_to_send : Encoding → Result Line Refusal
line_to_send flush_line = Ok flush
line_to_send delimiter_line = Ok delimiter
line_to_send response_end_line = Ok response_end
line_to_send (data_line d) = framed_line [] d []
line_to_send (text_line d) = framed_line [] d (10 ∷ [])
line_to_send (error_line d) = framed_line (codes "ERR ") d []
line_to_send (band_line k d) = framed_line (channel_of k ∷ []) d []

-- Writers

-- a writer sends its input as it is, or each piece with a newline behind it
pub data Mode : Type 0 where
  binary : Mode
  text : Mode

abbrev pub piece_size : Mode → ℕ
piece_size binary = 65516
piece_size text = 65515

abbrev pub ending : Mode → List ℕ
ending binary = []
ending text = 10 ∷ []

-- d in pieces of n bytes, and then what is left; there are no more pieces than bytes
abbrev pub pieces_among : ℕ → ℕ → List ℕ → List (List ℕ)
pieces_among zero n d = []
pieces_among (suc more) n [] = []
pieces_among (suc more) n (b ∷ d) = take n (b ∷ d) ∷ pieces_among more n (drop n (b ∷ d))

abbrev pub pieces : ℕ → List ℕ → List (List ℕ)
pieces n d = pieces_among (length d) n d

-- the lines of a writer's input, which are none where there is no input
abbrev pub input_lines : Mode → List ℕ → Result (List Line) Refusal
input_lines mode d = if length d == 0 then Err no_data else Ok (map (λ p. payload (p ++ ending mode)) (pieces (piece_size mode) d))

-- Lines on their way to a sink

-- the bytes accepted, the lines accepted whole, why not all of them if so, and what is left of the sink's list
pub record LinesSent : Type 0 where
  pub accepted : List ℕ
  pub whole : List Line
  pub answer : Result Unit Refusal
  pub left : List Slot

-- nothing is sent
abbrev pub unsent : Result Unit Refusal → List Slot → LinesSent
unsent r slots = record { accepted = []; whole = []; answer = r; left = slots }

-- behind a line that is accepted whole come the others; behind any other nothing more is sent
abbrev pub line_first : Line → List ℕ → Result Unit Refusal → List Slot → LinesSent → LinesSent
line_first l bytes (Ok _) slots others = record others { accepted = bytes ++ others.accepted; whole = l ∷ others.whole }
line_first l bytes (Err e) slots others = record { accepted = bytes; whole = []; answer = Err e; left = slots }

abbrev pub send_lines : List Line → List Slot → LinesSent
send_lines [] slots = unsent (Ok tt) slots
send_lines (l ∷ ls) slots =
    line_first l (send (encoded l) slots).accepted (send (encoded l) slots).answer (send (encoded l) slots).left
    (send_lines ls (send (encoded l) slots).left)

abbrev pub send_planned : Result (List Line) Refusal → List Slot → LinesSent
send_planned (Ok ls) slots = send_lines ls slots
send_planned (Err e) slots = unsent (Err e) slots

-- Calls

-- the calls that use a sink, and those of writers that do not; a writer is named by its index
pub data Call : Type 0 where
  encode : Encoding → Call
  new_writer : Call
  enable : Mode → ℕ → Call
  write : ℕ → List ℕ → Call

pub data Answer : Type 0 where
  counts : Result ℕ Refusal → Answer
  done : Answer
  no_writer : Answer

-- the modes of the writers, and where the sink stands
pub record Sender : Type 0 where
  pub modes : List Mode
  pub sink : Stand

abbrev pub set_at : ℕ → Mode → List Mode → List Mode
set_at k m [] = []
set_at zero m (x ∷ modes) = m ∷ modes
set_at (suc k) m (x ∷ modes) = x ∷ set_at k m modes

abbrev pub modes_after : Call → List Mode → List Mode
modes_after new_writer modes = modes ++ (binary ∷ [])
modes_after (enable m k) modes = set_at k m modes
modes_after call modes = modes

-- what a call has to send: the lines of an encoder or of a writer, or none
abbrev pub one_line : Result Line Refusal → Result (List Line) Refusal
one_line (Ok l) = Ok (l ∷ [])
one_line (Err e) = Err e

abbrev pub written_by : Option Mode → List ℕ → Result (List Line) Refusal
written_by (Some mode) d = input_lines mode d
written_by None d = Ok []

abbrev pub plan : List Mode → Call → Result (List Line) Refusal
plan modes (encode e) = one_line (line_to_send e)
plan modes (write k d) = written_by (slice_get modes k) d
plan modes call = Ok []

-- what it answers: an encoder the bytes of its line, a writer those of its input
abbrev pub count_if : Result Unit Refusal → ℕ → Result ℕ Refusal
count_if (Ok _) n = Ok n
count_if (Err e) n = Err e

abbrev pub line_size : Result Line Refusal → ℕ
line_size (Ok l) = length (encoded l)
line_size (Err e) = 0

abbrev pub answer_of_writer : Option Mode → Result Unit Refusal → ℕ → Answer
answer_of_writer (Some mode) r n = counts (count_if r n)
answer_of_writer None r n = no_writer

abbrev pub answer_of_mode : Option Mode → Answer
answer_of_mode (Some mode) = done
answer_of_mode None = no_writer

abbrev pub answer_of : List Mode → Call → Result Unit Refusal → Answer
answer_of modes (encode e) r = counts (count_if r (line_size (line_to_send e)))
answer_of modes (write k d) r = answer_of_writer (slice_get modes k) r (length d)
answer_of modes (enable m k) r = answer_of_mode (slice_get modes k)
answer_of modes new_writer r = done

-- where a sink stands behind lines sent to it
abbrev pub stand_after : Stand → LinesSent → Stand
stand_after s sent = stand_behind s (record { accepted = sent.accepted; answer = sent.answer; left = sent.left })

-- one call: `whole` are the lines that the sink accepted whole
pub record Sends (before : Sender) (call : Call) (a : Answer) (whole : List Line) (after : Sender) : Type 0 where
  pub answers : a ≡ answer_of before.modes call (send_planned (plan before.modes call) before.sink.room).answer
  pub accepts : whole ≡ (send_planned (plan before.modes call) before.sink.room).whole
  pub becomes : after ≡ record { modes = modes_after call before.modes; sink = stand_after before.sink (send_planned (plan before.modes call) before.sink.room) }

-- calls with their answers, one behind the other, and the lines accepted whole by all of them
pub data SendsAll : Sender → List (Call × Answer) → List Line → Sender → Type 0 where
  at_end : {s : Sender} → SendsAll s [] [] s
  next : {s t u : Sender} {call : Call} {a : Answer} {ls ms : List Line} {calls : List (Call × Answer)} →
      Sends s call a ls t → SendsAll t calls ms u → SendsAll s ((call, a) ∷ calls) (ls ++ ms) u
