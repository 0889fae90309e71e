-- The grammar has exactly the octets that the standard library's encoding of characters gives.
use Rattle.std.proofs.Common.{◌≡◌, ℕ, ◌+◌, ◌-◌, ◌*◌, ◌/◌, ◌%◌, ◌<◌, ◌≤◌, true, ◌⊎◌, List, [], ◌∷◌, ◌++◌, IsUtf8, subst, inl, inr, arith}
use Rattle.std.proofs.Math.Utf8.{scalar, scalars, encode, encodes, scalar_cases}
use Rattle.std.proofs.lemmas.Bool.{cases_lt}
use Rattle.std.proofs.lemmas.Str.{IsUtf8-append, IsUtf8-encode, IsUtf8-nil}
use Rattle.std.proofs.lemmas.Bool.Decides.{nat_tests}
use Rattle.utf8.specs.Rfc3629.{In, Tail, Three, Four, Octets, none, utf8_1, utf8_2, utf8_3, utf8_4}
use Rattle.utf8.specs.Str.{SameGrammar}

-- below the surrogates, or from them to the last code
abbrev Scalar : ℕ → Type 0
Scalar c = (c < 55296) ⊎ ((57344 ≤ c) × (c < 1114112))

is_scalar : (c : ℕ) → Scalar c → scalar c ≡ true
is_scalar c h = grind (arith, nat_tests)

-- the encoding in each of its four ranges
encode_1 : (c : ℕ) → c < 128 → encode c ≡ c ∷ []
unfolding encode
encode_1 c h = grind (arith, nat_tests)

encode_2 : (c : ℕ) → 128 ≤ c → c < 2048 → encode c ≡ (192 + c / 64) ∷ (128 + c % 64) ∷ []
unfolding encode
encode_2 c l h = grind (arith, nat_tests)

encode_3 : (c : ℕ) → 2048 ≤ c → c < 65536 → encode c ≡ (224 + c / 4096) ∷ (128 + c / 64 % 64) ∷ (128 + c % 64) ∷ []
unfolding encode
encode_3 c l h = grind (arith, nat_tests)

encode_4 : (c : ℕ) → 65536 ≤ c → encode c ≡ (240 + c / 262144) ∷ (128 + c / 4096 % 64) ∷ (128 + c / 64 % 64) ∷ (128 + c % 64) ∷ []
unfolding encode
encode_4 c l = grind (arith, nat_tests)

-- the octets p of a character in front of a text
text_char : (c : ℕ) (p s : List ℕ) → Scalar c → encode c ≡ p → IsUtf8 s → IsUtf8 (p ++ s)
text_char c p s h e u = IsUtf8-append p s (subst IsUtf8 e (IsUtf8-encode c (is_scalar c h))) u

-- the codes that two, three and four octets spell
abbrev code_2 : ℕ → ℕ → ℕ
code_2 a b = (a - 192) * 64 + (b - 128)

abbrev code_3 : ℕ → ℕ → ℕ → ℕ
code_3 a b c = (a - 224) * 4096 + (b - 128) * 64 + (c - 128)

abbrev code_4 : ℕ → ℕ → ℕ → ℕ → ℕ
code_4 a b c d = (a - 240) * 262144 + (b - 128) * 4096 + (c - 128) * 64 + (d - 128)

spelt_2 : (a b : ℕ) → In 194 223 a → Tail b → encode (code_2 a b) ≡ a ∷ b ∷ []
spelt_2 a b h k = grind (arith, encode_2)

spelt_3 : (a b c : ℕ) → In 224 239 a → Tail b → Tail c → 2048 ≤ code_3 a b c → encode (code_3 a b c) ≡ a ∷ b ∷ c ∷ []
spelt_3 a b c h k l m = grind (arith, encode_3)

spelt_4 : (a b c d : ℕ) → In 240 244 a → Tail b → Tail c → Tail d → 65536 ≤ code_4 a b c d → encode (code_4 a b c d) ≡ a ∷ b ∷ c ∷ d ∷ []
spelt_4 a b c d h k l m n = grind (arith, encode_4)

-- what the grammar says of the first two octets, in one range each, and of the code
three_code : (a b c : ℕ) → Three a b → Tail c → In 224 239 a × Tail b × (2048 ≤ code_3 a b c) × Scalar (code_3 a b c)
three_code a b c h k = grind arith

four_code : (a b c d : ℕ) → Four a b → Tail c → Tail d → In 240 244 a × Tail b × (65536 ≤ code_4 a b c d) × Scalar (code_4 a b c d)
four_code a b c d h k l = grind arith

pub to_text : (s : List ℕ) → Octets s → IsUtf8 s
to_text s none = IsUtf8-nil
to_text s (utf8_1 a t h o) = text_char a (a ∷ []) t (inl (omega arith)) (encode_1 a (omega arith)) (to_text t o)
to_text s (utf8_2 a b t h k o) = text_char (code_2 a b) (a ∷ b ∷ []) t (inl (omega arith)) (spelt_2 a b h k) (to_text t o)
to_text s (utf8_3 a b c t h k o) =
    let w = three_code a b c h k in text_char (code_3 a b c) (a ∷ b ∷ c ∷ []) t w.3 (spelt_3 a b c w.0 w.1 k w.2) (to_text t o)
to_text s (utf8_4 a b c d t h k l o) =
    let w = four_code a b c d h k l in text_char (code_4 a b c d) (a ∷ b ∷ c ∷ d ∷ []) t w.3 (spelt_4 a b c d w.0 w.1 k l w.2) (to_text t o)

-- the first two octets of an encoding, by the ranges of the grammar
three_of : (c : ℕ) → 2048 ≤ c → c < 65536 → Scalar c → Three (224 + c / 4096) (128 + c / 64 % 64)
three_of c l h s = grind arith

four_of : (c : ℕ) → 65536 ≤ c → c < 1114112 → Four (240 + c / 262144) (128 + c / 4096 % 64)
four_of c l h = grind arith

below_top : (c : ℕ) → Scalar c → c < 1114112
below_top c h = grind arith

octets_char : (c : ℕ) (s : List ℕ) → Scalar c → Octets s → Octets (encode c ++ s)
octets_char c s k o = by (cases_lt c 128) (cases_lt c 2048) (cases_lt c 65536)
  where
    tail : (n : ℕ) → Tail (128 + n % 64)
    tail n = (omega arith, omega arith)

    by : (c < 128) ⊎ (128 ≤ c) → (c < 2048) ⊎ (2048 ≤ c) → (c < 65536) ⊎ (65536 ≤ c) → Octets (encode c ++ s)
    by (inl h) _ _ = rw (encode_1 c h) (utf8_1 c s (omega arith, omega arith) o)
    by (inr l) (inl h) _ = rw (encode_2 c l h) (utf8_2 (192 + c / 64) _ s (omega arith, omega arith) (tail c) o)
    by (inr _) (inr l) (inl h) = rw (encode_3 c l h) (utf8_3 _ _ _ s (three_of c l h k) (tail c) o)
    by (inr _) (inr _) (inr l) = rw (encode_4 c l) (utf8_4 _ _ _ _ s (four_of c l (below_top c k)) (tail (c / 64)) (tail c) o)

from_codes : (cs : List ℕ) → scalars cs ≡ true → Octets (encodes cs)
from_codes [] h = none
from_codes (c ∷ cs) h =
    let p : scalar c ≡ true = grind arith in
    let q : scalars cs ≡ true = grind arith in
    octets_char c (encodes cs) (scalar_cases c p) (from_codes cs q)

pub same_grammar : SameGrammar
same_grammar s = (to_text s, λ u. subst Octets u.1.1 (from_codes u.0 u.1.0))
