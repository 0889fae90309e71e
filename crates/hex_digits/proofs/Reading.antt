-- Digits that are written are read back.
use Rattle.std.proofs.Common.{◌≡◌, ℕ, ◌<◌, ◌⊎◌, List, length, get_or, Some, None, arith}
use Rattle.std.proofs.lemmas.Bool.Decides.{nat_tests}
use Rattle.hex_digits.specs.Digits.{digit, joined, hex_digit_of, hex, length_field}

pub digit_written : (d : ℕ) → d < 16 → digit (hex_digit_of d) ≡ Some d
digit_written d h = grind (arith, nat_tests)

pub number_written : (n : ℕ) → n < 65536 → length_field (hex n) ≡ Some n
unfolding length_field
number_written n h = grind (arith, digit_written)

-- a length field has four bytes
pub four_bytes : (p : List ℕ) (n : ℕ) → length_field p ≡ Some n → length p ≡ 4
unfolding length_field
four_bytes p n h = grind (arith, nat_tests)

-- four bytes by their two halves
pub by_halves : (p : List ℕ) → length p ≡ 4 →
    length_field p ≡ joined 256 (joined 16 (digit (get_or p 0 0)) (digit (get_or p 1 0))) (joined 16 (digit (get_or p 2 0)) (digit (get_or p 3 0)))
unfolding length_field
by_halves p h = grind (arith, nat_tests)

-- other than four bytes are no length field
pub no_field : (p : List ℕ) → (length p < 4) ⊎ (4 < length p) → length_field p ≡ None
unfolding length_field
no_field p h = grind (arith, nat_tests)
