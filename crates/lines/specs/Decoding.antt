-- What bytes at hand are: a line, a part of one, or refused.
use Rattle.std.specs.Prelude.{ℕ, ◌+◌, ◌-◌, ◌<◌, ◌≤◌, cond, List, length, take, drop, Some, None, Ok, Err, Option, Result, ◌==◌, nat_lt}
use Rattle.lines.specs.Refusals.{Refusal, not_hex, length_three, empty_line, too_long, missing}
use Rattle.hex_digits.specs.Digits.{length_field}
use Rattle.lines.specs.Format.{Line, payload, flush, delimiter, response_end, most_data, most_line}

-- what a prefix announces: a marker, or how many bytes of payload follow
pub data Prefix : Type 0 where
  marks : Line → Prefix
  wants : ℕ → Prefix

-- the bytes at hand: a line with the bytes that it takes, or a part of one, with the bytes that it needs
pub data Streamed : Type 0 where
  complete : Line → ℕ → Streamed
  incomplete : ℕ → Streamed

-- what a prefix of that value announces; there is no upper limit here
abbrev pub announced : ℕ → Result Prefix Refusal
announced n =
    cond (n == 0) (Ok (marks flush))
    (cond (n == 1) (Ok (marks delimiter))
    (cond (n == 2) (Ok (marks response_end))
    (cond (n == 3) (Err length_three)
    (cond (n == 4) (Err empty_line) (Ok (wants (n - 4)))))))

abbrev pub announced_by : Option ℕ → Result Prefix Refusal
announced_by None = Err not_hex
announced_by (Some n) = announced n

-- what a prefix announces
abbrev pub prefix : List ℕ → Result Prefix Refusal
prefix p = announced_by (length_field p)

-- a payload that would make a line longer than the limit is refused, with the length of that line
abbrev pub limited : Result Prefix Refusal → Result Prefix Refusal
limited (Err e) = Err e
limited (Ok (marks l)) = Ok (marks l)
limited (Ok (wants w)) = cond (nat_lt most_line (w + 4)) (Err (too_long (w + 4))) (Ok (wants w))

-- the bytes s under what their prefix announces
abbrev pub streamed_by : List ℕ → Result Prefix Refusal → Result Streamed Refusal
streamed_by s (Err e) = Err e
streamed_by s (Ok (marks l)) = Ok (complete l 4)
streamed_by s (Ok (wants w)) =
    cond (nat_lt (length s) (w + 4)) (Ok (incomplete (w + 4 - length s)))
    (Ok (complete (payload (take w (drop 4 s))) (w + 4)))

-- the bytes s: fewer than four are a part of a line whatever they are
abbrev pub streamed : List ℕ → Result Streamed Refusal
streamed s = cond (nat_lt (length s) 4) (Ok (incomplete (4 - length s))) (streamed_by s (limited (prefix (take 4 s))))

abbrev pub whole : Result Streamed Refusal → Result Line Refusal
whole (Err e) = Err e
whole (Ok (complete l n)) = Ok l
whole (Ok (incomplete n)) = Err (missing n)

-- the line that s begins with, all of it wanted
abbrev pub decoded : List ℕ → Result Line Refusal
decoded s = whole (streamed s)

-- the data line of a payload, within the limit
abbrev pub data_line : List ℕ → Result Line Refusal
data_line d = cond (nat_lt most_data (length d)) (Err (too_long (length d))) (Ok (payload d))

-- a complete line takes at least its prefix, and no more than the n bytes at hand; a part needs at least one
abbrev pub Within : ℕ → Streamed → Type 0
Within n (complete l taken) = (4 ≤ taken) × (taken ≤ n)
Within n (incomplete needed) = 0 < needed

-- a payload that is wanted has at least one byte, and no more than the limit
abbrev pub Fits : Prefix → Type 0
Fits (marks l) = Unit {0}
Fits (wants w) = (0 < w) × (w ≤ most_data)
