-- Trials: logs of wrong services, of which the laws are to hold of none.
use Rattle.std.specs.Prelude.{◌≡◌, ℕ, ◌<◌, true, List, [], ◌∷◌, ◌++◌, length, map, Some, None, Ok, Err, codes}
use Rattle.lines.specs.Refusals.{refused}
use Rattle.lines.specs.Format.{Line, payload}
use Rattle.links.specs.Items.{byte}
use Rattle.rules.specs.Handlers.{quiet}
use Rattle.rules.specs.Sessions.{fill_buf, read, shows, counts}
use Rattle.rules.specs.Examples.{at_nothing}
use Rattle.rules.specs.Sending.{binary, write, Sender}
use Rattle.rules.specs.Sending as sending
use Rattle.service_law.specs.Calls.{Call, Answer, State, plain, handed, read_line, peek_line, begin, consume, done, line, filled}
use Rattle.service_law.specs.Law.{Accounted}
use Rattle.sending_law.specs.Law.{SendingLaw}

-- A trial is a service that stops at no marker, with one handler, `quiet`, which has counted nothing: the bytes of its source, and calls with their answers.

-- the law holds of an account of such calls and answers, which ends at b
abbrev pub Lawful : List ℕ → List (Call × Answer) → State ℕ → Type 0
Lawful bytes calls b = Accounted quiet at_nothing (map byte bytes) (0 ∷ []) calls b

-- wrong answers: it holds of an account of the right ones to the same calls, and of no account of these, wherever it ends
pub record Distinguishes (bytes : List ℕ) (right wrong : List (Call × Answer)) : Type 0 where
  pub same_calls : map (λ x. x.0) right ≡ map (λ x. x.0) wrong
  pub right_one : (b : State ℕ) × Lawful bytes right b
  pub no_wrong_one : (b : State ℕ) → Lawful bytes wrong b → ⊥

-- a wrong end: it holds of an account of these calls and answers, and of none at whose end `part` of the state is x
pub record NeverEnds {X : Type 0} (bytes : List ℕ) (calls : List (Call × Answer)) (part : State ℕ → X) (x : X) : Type 0 where
  pub right_one : (b : State ℕ) × Lawful bytes calls b
  pub no_wrong_one : (b : State ℕ) → Lawful bytes calls b → part b ≡ x → ⊥

-- The sources

-- two lines, each a payload of one byte
abbrev pub two_lines : List ℕ
two_lines = codes "0005a0005b"

-- two lines on band 1, each with one byte
abbrev pub two_windows : List ℕ
two_windows = codes "0006" ++ (1 ∷ 97 ∷ []) ++ codes "0006" ++ (1 ∷ 98 ∷ [])

-- a text on band 2, and then a line on band 1
abbrev pub text_first : List ℕ → List ℕ
text_first t = t ++ codes "0006" ++ (1 ∷ 97 ∷ [])

-- the text is "hi"; or nothing stands behind its band byte
abbrev pub hi : List ℕ
hi = text_first (codes "0007" ++ (2 ∷ codes "hi"))

abbrev pub empty_text : List ℕ
empty_text = text_first (codes "0005" ++ (2 ∷ []))

-- The calls

-- what a reading call answers that hands on the payload d
abbrev pub letter : List ℕ → Answer
letter d = line (Some (Ok (payload d)))

abbrev pub reads : Answer → Call × Answer
reads a = (plain read_line, a)

abbrev pub peeks : Answer → Call × Answer
peeks a = (plain peek_line, a)

-- a session begins with bands on
abbrev pub begins : Call × Answer
begins = (plain (begin true), done)

-- a fill shows these bytes
abbrev pub fill_shows : List ℕ → Call × Answer
fill_shows d = (handed 0 fill_buf, filled (shows (Ok d)))

-- a session and its first fill; two fills, the one byte of the first window being consumed between them; a read into no bytes
abbrev pub first_fill : List (Call × Answer)
first_fill = begins ∷ fill_shows (codes "a") ∷ []

abbrev pub two_fills : List ℕ → List ℕ → List (Call × Answer)
two_fills d e = begins ∷ fill_shows d ∷ (plain (consume 1), done) ∷ fill_shows e ∷ []

abbrev pub empty_read : List (Call × Answer)
empty_read = begins ∷ (handed 0 (read []), filled (counts (Ok 0) [])) ∷ []

-- A writer in binary mode is handed d, and answers with the length of all of it, while only the line l was accepted whole
abbrev pub OneLineSent : List ℕ → Line → Sender → Sender → Type 0
OneLineSent d l before after = SendingLaw before ((write 0 d, sending.Answer.counts (Ok (length d))) ∷ []) (l ∷ []) after

pub record NoTrialIsLawful : Type 0 where
  -- a handler is never told the text
  pub untold : NeverEnds hi first_fill (λ b. b.handlers) (0 ∷ [])
  -- a handler is told the text twice
  pub told_twice : NeverEnds hi first_fill (λ b. b.handlers) (2 ∷ [])
  -- a text of no bytes is passed over as a keepalive is
  pub empty_text_dropped : NeverEnds empty_text first_fill (λ b. b.handlers) (0 ∷ [])
  -- a peek forgets: the read behind it answers the second line
  pub peek_forgets : Distinguishes two_lines (peeks (letter (codes "a")) ∷ reads (letter (codes "a")) ∷ []) (peeks (letter (codes "a")) ∷ reads (letter (codes "b")) ∷ [])
  -- one read takes both lines from the source
  pub drained_early : NeverEnds two_lines (reads (letter (codes "a")) ∷ []) (λ b. b.left) []
  -- None, or 6, before anything was taken
  pub none_at_once : Distinguishes two_lines (reads (letter (codes "a")) ∷ []) (reads (line None) ∷ [])
  pub ended_at_once : Distinguishes two_lines (reads (letter (codes "a")) ∷ []) (reads (line (Some (Err (refused 6 None)))) ∷ [])
  -- the first line is reported twice
  pub line_twice : Distinguishes two_lines (reads (letter (codes "a")) ∷ reads (letter (codes "b")) ∷ []) (reads (letter (codes "a")) ∷ reads (letter (codes "a")) ∷ [])
  -- the second window is shown first
  pub windows_swapped : Distinguishes two_windows (two_fills (codes "a") (codes "b")) (two_fills (codes "b") (codes "a"))
  -- a read into no bytes takes nothing from the source
  pub empty_read_takes_none : NeverEnds two_windows empty_read (λ b. b.left) (map byte two_windows)
  -- a writer sends one line of more bytes than a line has room for, and counts all of them
  pub rest_only_counted : (d : List ℕ) (l : Line) (before after : Sender) → 65516 < length d → before.modes ≡ binary ∷ [] → OneLineSent d l before after → ⊥
