-- The packet line format, from gitprotocol-common, gitprotocol-v2 (the markers) and gitprotocol-pack (the bands).
use Rattle.std.specs.Prelude.{◌≡◌, ℕ, ◌+◌, ◌-◌, ◌<◌, ◌≤◌, cond, ◌&&◌, List, [], ◌∷◌, ◌++◌, length, take, drop, Some, None, Ok, Err, codes, Option, Result, ◌==◌, nat_le, slice_index}
use Rattle.hex_digits.specs.Digits.{hex, length_field}
use Rattle.lines.specs.Refusals.{Refusal, no_band, unknown_band}

-- Lines

-- a line: data with its payload, or one of the three markers
pub data Line : Type 0 where
  payload : List ℕ → Line
  flush : Line
  delimiter : Line
  response_end : Line

-- the longest payload, and the longest line with its prefix
abbrev pub most_data : ℕ
most_data = 65516

abbrev pub most_line : ℕ
most_line = 65520

-- Lines and their bytes

-- bs are the bytes of a line: four digits with the length of all, and 1 to 65,516 bytes of payload; a marker is digits alone, of value 0, 1 or 2
abbrev pub Encodes : Line → List ℕ → Type 0
Encodes (payload d) bs = (p : List ℕ) × (bs ≡ p ++ d) × (length_field p ≡ Some (length d + 4)) × (0 < length d) × (length d ≤ most_data)
Encodes flush bs = length_field bs ≡ Some 0
Encodes delimiter bs = length_field bs ≡ Some 1
Encodes response_end bs = length_field bs ≡ Some 2

-- the bytes that are written for a line, the digits in lower case
abbrev pub encoded : Line → List ℕ
encoded (payload d) = hex (length d + 4) ++ d
encoded flush = hex 0
encoded delimiter = hex 1
encoded response_end = hex 2

-- prefix, data and suffix make one payload
abbrev pub framed : List ℕ → List ℕ → List ℕ → Line
framed before d behind = payload (before ++ (d ++ behind))

-- an error line: ERR, a blank, and the message
abbrev pub error_line : List ℕ → Line
error_line d = framed (codes "ERR ") d []

-- a text line: a newline always ends it
abbrev pub text_line : List ℕ → Line
text_line d = framed [] d (10 ∷ [])

-- a line on a band: the band byte, and the data
abbrev pub band_line : ℕ → List ℕ → Line
band_line b d = framed (b ∷ []) d []

-- What a line holds

abbrev pub and_then : {X Y : Type 0} → Option X → (X → Option Y) → Option Y
and_then None f = None
and_then (Some x) f = f x

abbrev pub payload_of : Line → Option (List ℕ)
payload_of (payload d) = Some d
payload_of flush = None
payload_of delimiter = None
payload_of response_end = None

-- the message of a payload that begins with ERR and a blank
abbrev pub message : List ℕ → Option (List ℕ)
message d =
    cond (nat_le 4 (length d) && (slice_index d 0 == 69 && (slice_index d 1 == 82 && (slice_index d 2 == 82 && slice_index d 3 == 32))))
    (Some (drop 4 d))
    None

-- a text, without the one newline that may end it
abbrev pub text : List ℕ → List ℕ
text d = cond (slice_index d (length d - 1) == 10) (take (length d - 1) d) d

-- Bands

-- what came on a band, by its number: 1 data, 2 progress, 3 error
pub data Band : Type 0 where
  on : ℕ → List ℕ → Band

-- the band that a byte tells
abbrev pub channel : ℕ → Result ℕ Refusal
channel b = cond (nat_le 1 b && nat_le b 3) (Ok b) (Err (unknown_band b))

-- the band of a payload: its first byte tells it, and the rest came on it
abbrev pub band : List ℕ → Result Band Refusal
band [] = Err no_band
band (b ∷ rest) = cond (nat_le 1 b && nat_le b 3) (Ok (on b rest)) (Err (unknown_band b))

-- the band of a line; a marker has none
abbrev pub line_band : Line → Result Band Refusal
line_band (payload d) = band d
line_band flush = Err no_band
line_band delimiter = Err no_band
line_band response_end = Err no_band
