-- Hexadecimal digits, and the field of four of them that begins a packet line.
use Rattle.std.specs.Prelude.{ℕ, ◌+◌, ◌-◌, ◌*◌, ◌/◌, ◌%◌, cond, ◌&&◌, List, [], ◌∷◌, length, Some, None, Option, ◌==◌, nat_le, nat_lt, slice_index}

-- the value of a hexadecimal digit: 0-9, a-f or A-F
abbrev pub digit : ℕ → Option ℕ
digit c =
    cond (nat_le 48 c && nat_le c 57) (Some (c - 48))
    (cond (nat_le 97 c && nat_le c 102) (Some (c - 87))
    (cond (nat_le 65 c && nat_le c 70) (Some (c - 55)) None))

-- a high and a low part of a number, the low one below base; none where either is none
abbrev pub joined : ℕ → Option ℕ → Option ℕ → Option ℕ
joined base (Some high) (Some low) = Some (base * high + low)
joined base (Some high) None = None
joined base None low = None

-- the number that a prefix writes, if it is four digits: pkt-len
unfoldable pub length_field : List ℕ → Option ℕ
length_field s =
    cond (length s == 4)
    (joined 256 (joined 16 (digit (slice_index s 0)) (digit (slice_index s 1))) (joined 16 (digit (slice_index s 2)) (digit (slice_index s 3))))
    None

-- the digit of a number below 16, in lower case
abbrev pub hex_digit_of : ℕ → ℕ
hex_digit_of d = cond (nat_lt d 10) (48 + d) (87 + d)

-- the four digits of a number below 65,536
abbrev pub hex : ℕ → List ℕ
hex n = hex_digit_of (n / 4096) ∷ hex_digit_of (n / 256 % 16) ∷ hex_digit_of (n / 16 % 16) ∷ hex_digit_of (n % 16) ∷ []
