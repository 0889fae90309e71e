-- UTF-8, by the grammar of RFC 3629, section 4.
use Rattle.std.specs.Prelude.{◌≡◌, ℕ, ◌≤◌, ◌⊎◌, List, [], ◌∷◌}

-- an octet from lo to hi
abbrev pub In : ℕ → ℕ → ℕ → Type 0
In lo hi b = (lo ≤ b) × (b ≤ hi)

-- UTF8-tail = %x80-BF
abbrev pub Tail : ℕ → Type 0
Tail b = In 128 191 b

-- UTF8-3 without its last tail: %xE0 %xA0-BF / %xE1-EC UTF8-tail / %xED %x80-9F / %xEE-EF UTF8-tail
abbrev pub Three : ℕ → ℕ → Type 0
Three a b = ((a ≡ 224) × In 160 191 b) ⊎ ((In 225 236 a × Tail b) ⊎ (((a ≡ 237) × In 128 159 b) ⊎ (In 238 239 a × Tail b)))

-- UTF8-4 without its last two tails: %xF0 %x90-BF / %xF1-F3 UTF8-tail / %xF4 %x80-8F
abbrev pub Four : ℕ → ℕ → Type 0
Four a b = ((a ≡ 240) × In 144 191 b) ⊎ ((In 241 243 a × Tail b) ⊎ ((a ≡ 244) × In 128 143 b))

-- UTF8-octets = *( UTF8-1 / UTF8-2 / UTF8-3 / UTF8-4 )
pub data Octets : List ℕ → Type 0 where
  none : Octets []
  utf8_1 : (a : ℕ) (s : List ℕ) → In 0 127 a → Octets s → Octets (a ∷ s)
  utf8_2 : (a b : ℕ) (s : List ℕ) → In 194 223 a → Tail b → Octets s → Octets (a ∷ b ∷ s)
  utf8_3 : (a b c : ℕ) (s : List ℕ) → Three a b → Tail c → Octets s → Octets (a ∷ b ∷ c ∷ s)
  utf8_4 : (a b c d : ℕ) (s : List ℕ) → Four a b → Tail c → Tail d → Octets s → Octets (a ∷ b ∷ c ∷ d ∷ s)
