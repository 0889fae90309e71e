-- The hash FNV-1a of 64 bits.
use Rattle.std.specs.Prelude.{ℕ, ◌*◌, ◌%◌, ◌^◌, List, fold, bit_xor}

-- one more byte
abbrev pub mixed : ℕ → ℕ → ℕ
mixed h b = bit_xor h b * 0x100_0000_01b3 % 2 ^ 64

abbrev pub fnv : List ℕ → ℕ
fnv bs = fold mixed 0xcbf2_9ce4_8422_2325 bs
