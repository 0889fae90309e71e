-- The law of sending: which bytes a sink accepts, and that a reader of these bytes gets the lines back.
use Rattle.std.specs.Prelude.{◌≡◌, ℕ, ◌+◌, ◌<◌, List, [], ◌∷◌, ◌++◌, length, map, replicate, Ok, Err, Result}
use Rattle.lines.specs.Refusals.{Refusal}
use Rattle.lines.specs.Format.{Line, encoded}
use Rattle.lines.specs.Decoding.{prefix, limited}
use Rattle.links.specs.Refusals.{ended}
use Rattle.links.specs.Items.{Item, byte}
use Rattle.links.specs.Cut.{units}
use Rattle.links.specs.Laws.{uninterrupted}
use Rattle.rules.specs.Sending.{Call, Answer, Sender, answer_of, plan, send_planned, modes_after, stand_after, SendsAll}

-- Bytes accepted

-- what comes of calls: their answers, the lines accepted whole, and the modes and the sink behind them
pub record Outcome : Type 0 where
  pub answers : List Answer
  pub whole : List Line
  pub after : Sender

abbrev pub behind_call : Sender → Call → Sender
behind_call s call = record { modes = modes_after call s.modes; sink = stand_after s.sink (send_planned (plan s.modes call) s.sink.room) }

abbrev pub call_first : Answer → List Line → Outcome → Outcome
call_first a ls o = record o { answers = a ∷ o.answers; whole = ls ++ o.whole }

abbrev pub outcome : Sender → List Call → Outcome
outcome s [] = record { answers = []; whole = []; after = s }
outcome s (call ∷ calls) =
    call_first (answer_of s.modes call (send_planned (plan s.modes call) s.sink.room).answer) (send_planned (plan s.modes call) s.sink.room).whole
    (outcome (behind_call s call) calls)

-- bytes that are these lines, one after the other, with parts of lines between them
pub data Parts : List ℕ → List Line → Type 0 where
  no_line : Parts [] []
  whole_line : {bytes : List ℕ} {ls : List Line} (l : Line) → Parts bytes ls → Parts (encoded l ++ bytes) (l ∷ ls)
  part_of_line : {bytes : List ℕ} {ls : List Line} (l : Line) (front rest : List ℕ) →
      encoded l ≡ front ++ rest → 0 < length rest → Parts bytes ls → Parts (front ++ bytes) ls

-- Lines return

-- a line that was accepted whole, or four bytes that are refused as a prefix, planted beside the lines
pub data Planted : Type 0 where
  a_line : Line → Planted
  a_prefix : List ℕ → Refusal → Planted

abbrev pub bytes_of : List Planted → List ℕ
bytes_of [] = []
bytes_of (a_line l ∷ ps) = encoded l ++ bytes_of ps
bytes_of (a_prefix p e ∷ ps) = p ++ bytes_of ps

abbrev pub lines_of : List Planted → List Line
lines_of [] = []
lines_of (a_line l ∷ ps) = l ∷ lines_of ps
lines_of (a_prefix p e ∷ ps) = lines_of ps

abbrev pub units_of : List Planted → List (Result Line Refusal)
units_of [] = []
units_of (a_line l ∷ ps) = Ok l ∷ units_of ps
units_of (a_prefix p e ∷ ps) = Err e ∷ units_of ps

-- each planted prefix is refused as it says
abbrev pub ArePrefixes : List Planted → Type 0
ArePrefixes [] = Unit {0}
ArePrefixes (a_line l ∷ ps) = ArePrefixes ps
ArePrefixes (a_prefix p e ∷ ps) = (length p ≡ 4) × (limited (prefix p) ≡ Err e) × ArePrefixes ps

-- the lines ls come back, with any refused prefixes planted between them: a source of exactly these bytes, in any pieces and with any
-- interruptions, is cut into those lines and refusals, in that order, and past its end every unit is refused as ended
abbrev pub LinesReturn : List Line → Type 0
LinesReturn ls =
    (ps : List Planted) → lines_of ps ≡ ls → ArePrefixes ps → (items : List Item) → uninterrupted items ≡ map byte (bytes_of ps) →
    (more : ℕ) → units (length ps + more) items ≡ units_of ps ++ replicate more (Err ended)

-- The law

pub record SendingLaw (before : Sender) (calls : List (Call × Answer)) (whole : List Line) (after : Sender) : Type 0 where
  -- answers, lines accepted whole, and where the sink then stands are those that the calls and the sink's list fix
  pub bytes_accepted : outcome before (map (λ c. c.0) calls) ≡ record { answers = map (λ c. c.1) calls; whole = whole; after = after }
  -- the bytes accepted are those lines, in order, with parts of lines between them, and they are accepted behind those before
  pub in_order : (bytes : List ℕ) × (after.sink.accepted ≡ before.sink.accepted ++ bytes) × Parts bytes whole
  -- the lines accepted whole come back
  pub lines_return : LinesReturn whole

-- the law holds of every list of calls, on every sink, with any writers
abbrev pub SendingLawHolds : Type 0
SendingLawHolds = (before after : Sender) (calls : List (Call × Answer)) (whole : List Line) → SendsAll before calls whole after → SendingLaw before calls whole after
