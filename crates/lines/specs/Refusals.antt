-- The refusals of this layer, by the numbers of docs/REFUSALS.md.
use Rattle.std.specs.Prelude.{ℕ, List, ◌++◌, codes, Some, None, Option}
use Rattle.std.specs.Fmt.{decimal}

-- a refusal is a number of the table, and the value that comes with it, if its row has one
pub data Refusal : Type 0 where
  refused : ℕ → Option ℕ → Refusal

-- the number of a refusal
abbrev pub number_of : Refusal → ℕ
number_of (refused n v) = n

-- the value of a refusal
abbrev pub value_of : Refusal → Option ℕ
value_of (refused n v) = v

-- how a refusal is written: its number, and behind a blank its value
abbrev pub written : Refusal → List ℕ
written (refused n None) = decimal n
written (refused n (Some v)) = decimal n ++ (codes " " ++ decimal v)

-- a prefix that is not four hexadecimal digits
abbrev pub not_hex : Refusal
not_hex = refused 1 None

-- a prefix of value 3, which would end inside itself
abbrev pub length_three : Refusal
length_three = refused 2 None

-- a prefix of value 4, a line of no payload
abbrev pub empty_line : Refusal
empty_line = refused 3 None

-- a length above the limit, with that length
abbrev pub too_long : ℕ → Refusal
too_long n = refused 4 (Some n)

-- a part of a line where a whole one is wanted, with the bytes that are missing
abbrev pub missing : ℕ → Refusal
missing n = refused 5 (Some n)

-- a marker, or a payload of no bytes, where a band is wanted
abbrev pub no_band : Refusal
no_band = refused 9 None

-- a band byte other than 1, 2 and 3, with that byte
abbrev pub unknown_band : ℕ → Refusal
unknown_band b = refused 10 (Some b)
