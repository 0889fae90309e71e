-- How bytes are printed.
use Rattle.std.specs.Prelude.{◌≡◌, ℕ, ◌/◌, ◌%◌, Bool, true, false, cond, ◌&&◌, ◌||◌, List, [], ◌∷◌, ◌++◌, codes, ◌==◌, nat_le, encode_utf8}
use Rattle.std.specs.Fmt.{digit_glyph}
use Rattle.entries.specs.declared.payload.Spelling.{Spelling}
use Rattle.entries.specs.declared.payload.Spelling.TheVariants.{Same, Escaped, Hex}

-- a byte that stands in text: NUL, a band byte, tab, newline, carriage return, printable ASCII, or a part of a character beyond ASCII
abbrev pub plain : ℕ → Bool
plain b = nat_le b 3 || (b == 9 || (b == 10 || (b == 13 || ((nat_le 32 b && nat_le b 126) || nat_le 128 b))))

abbrev pub Plain : ℕ → Type 0
Plain b = plain b ≡ true

-- the spelling of a byte between quotes: \0 \t \n \r \" \\, printable ASCII as it is, and \x with two digits
abbrev pub spelling : ℕ → Spelling
spelling b =
    cond (b == 0) (Escaped 48)
    (cond (b == 9) (Escaped 116)
    (cond (b == 10) (Escaped 110)
    (cond (b == 13) (Escaped 114)
    (cond (b == 34) (Escaped 34)
    (cond (b == 92) (Escaped 92)
    (cond (nat_le 32 b && nat_le b 126) (Same b) (Hex b)))))))

-- the characters of a spelling; digits are in lower case
abbrev pub written : Spelling → List ℕ
written (Same c) = encode_utf8 c
written (Escaped c) = codes "\\" ++ encode_utf8 c
written (Hex b) = codes "\\x" ++ (digit_glyph false (b / 16) ∷ digit_glyph false (b % 16) ∷ [])
