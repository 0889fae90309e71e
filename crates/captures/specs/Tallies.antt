-- The lines of a capture, one after another.
use Rattle.std.specs.Prelude.{◌≡◌, ℕ, ◌+◌, ◌<◌, max, List, length, drop, Ok, Err, Result}
use Rattle.lines.specs.Format.{Line, payload, flush, delimiter, response_end}
use Rattle.lines.specs.Decoding.{complete, streamed, decoded}
use Rattle.lines.specs.Meaning.{decode_refusal}
use Rattle.captures.specs.declared.tally.Lines.{Lines}
use Rattle.lines.specs.declared.decode.DecodeFault.{DecodeFault}

-- all lines of a count
abbrev pub total : Lines → ℕ
total t = t.payloads + (t.flushes + (t.delimiters + t.response_ends))

-- the count of no lines
abbrev pub none : Lines
none = record { payloads = 0; longest = 0; flushes = 0; delimiters = 0; response_ends = 0 }

-- a count with one line more, of n bytes
abbrev pub with_line : Lines → Line → ℕ → Lines
with_line t (payload d) n = record { payloads = t.payloads + 1; longest = max t.longest n; flushes = t.flushes; delimiters = t.delimiters; response_ends = t.response_ends }
with_line t flush n = record { payloads = t.payloads; longest = max t.longest n; flushes = t.flushes + 1; delimiters = t.delimiters; response_ends = t.response_ends }
with_line t delimiter n = record { payloads = t.payloads; longest = max t.longest n; flushes = t.flushes; delimiters = t.delimiters + 1; response_ends = t.response_ends }
with_line t response_end n = record { payloads = t.payloads; longest = max t.longest n; flushes = t.flushes; delimiters = t.delimiters; response_ends = t.response_ends + 1 }

-- the first n bytes of s are lines, and t counts them
pub data Decodes : List ℕ → ℕ → Lines → Type 0 where
  begins : (s : List ℕ) (t : Lines) → t ≡ none → Decodes s 0 t
  goes_on : (s : List ℕ) (n m : ℕ) (l : Line) (t u : Lines) → Decodes s n t → streamed (drop n s) ≡ Ok (complete l m) → u ≡ with_line t l m → Decodes s (n + m) u

-- no bytes are left in r, or they begin with no line, for this reason
abbrev pub Ends : List ℕ → Result Unit DecodeFault → Type 0
Ends r (Ok u) = length r ≡ 0
Ends r (Err e) = (0 < length r) × (decoded r ≡ Err (decode_refusal e))
