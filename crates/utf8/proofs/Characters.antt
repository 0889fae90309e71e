-- Whole characters at the front of octets.
use Rattle.std.proofs.Common.{◌≡◌, ℕ, zero, suc, ◌+◌, ◌-◌, ◌<◌, ◌≤◌, Bool, eqb, List, [], ◌∷◌, length, get_or, take, drop, Decides, ap, arith}
use Rattle.std.proofs.lemmas.List.{take_rest}
use Rattle.std.proofs.lemmas.Bool.Decides.{nat_tests}
use Rattle.utf8.proofs.Blocks.{more_ascii}
use Rattle.utf8.specs.Rfc3629.{In, Tail, Three, Four, Octets, none, utf8_1, utf8_2, utf8_3, utf8_4}
use Rattle.utf8.specs.Fronts.{NoCharacter, Alike, Whole, AsciiFront}

-- what stands behind the first character, by the form of its first octets
behind_1 : (a : ℕ) (t : List ℕ) → a ≤ 127 → Octets (a ∷ t) → Octets t
behind_1 a t h o = grind arith

behind_2 : (a b : ℕ) (t : List ℕ) → In 194 223 a → Octets (a ∷ b ∷ t) → Octets t
behind_2 a b t h o = grind arith

behind_3 : (a b c : ℕ) (t : List ℕ) → Three a b → Octets (a ∷ b ∷ c ∷ t) → Octets t
behind_3 a b c t h o = grind arith

behind_4 : (a b c d : ℕ) (t : List ℕ) → Four a b → Octets (a ∷ b ∷ c ∷ d ∷ t) → Octets t
behind_4 a b c d t h o = grind arith

-- a character of two, three or four octets at the front
pub whole_2 : (s : List ℕ) → 2 ≤ length s → In 194 223 (get_or s 0 0) → Tail (get_or s 1 0) → Whole s 2
whole_2 [] l p q = absurd (omega arith)
whole_2 (a ∷ []) l p q = absurd (omega arith)
whole_2 (a ∷ b ∷ t) l p q = record { some = omega arith; within = l; alike = (behind_2 a b t p, utf8_2 a b t p q) }

pub whole_3 : (s : List ℕ) → 3 ≤ length s → Three (get_or s 0 0) (get_or s 1 0) → Tail (get_or s 2 0) → Whole s 3
whole_3 [] l p q = absurd (omega arith)
whole_3 (a ∷ []) l p q = absurd (omega arith)
whole_3 (a ∷ b ∷ []) l p q = absurd (omega arith)
whole_3 (a ∷ b ∷ c ∷ t) l p q = record { some = omega arith; within = l; alike = (behind_3 a b c t p, utf8_3 a b c t p q) }

pub whole_4 : (s : List ℕ) → 4 ≤ length s → Four (get_or s 0 0) (get_or s 1 0) → Tail (get_or s 2 0) → Tail (get_or s 3 0) → Whole s 4
whole_4 [] l p q r = absurd (omega arith)
whole_4 (a ∷ []) l p q r = absurd (omega arith)
whole_4 (a ∷ b ∷ []) l p q r = absurd (omega arith)
whole_4 (a ∷ b ∷ c ∷ []) l p q r = absurd (omega arith)
whole_4 (a ∷ b ∷ c ∷ d ∷ t) l p q r = record { some = omega arith; within = l; alike = (behind_4 a b c d t p, utf8_4 a b c d t p q r) }

ascii_alike : (n : ℕ) (s : List ℕ) → n ≤ length s → ((k : ℕ) → k < n → get_or s k 0 < 128) → Alike s (drop n s)
ascii_alike zero s l h = (λ o. o, λ o. o)
ascii_alike (suc n) [] l h = absurd (omega arith)
ascii_alike (suc n) (a ∷ s) l h =
    let low : a ≤ 127 = omega (arith, h 0 (omega arith)) in
    let rest = ascii_alike n s (omega arith) (λ k i. h (suc k) (omega arith)) in
    (λ o. rest.0 (behind_1 a s low o), λ o. utf8_1 a s (omega arith, low) (rest.1 o))

-- a run of ASCII is whole characters
ascii_whole : (n : ℕ) (s : List ℕ) → 0 < n → AsciiFront s n → Whole s n
ascii_whole n s h f = record { some = h; within = f.within; alike = ascii_alike n s f.within f.each }

-- an ASCII octet, and a run of ASCII behind it
pub ascii_run : (n a : ℕ) (s t : List ℕ) → s ≡ a ∷ t → a < 128 → AsciiFront t n → Whole s (1 + n)
ascii_run n a s t e h f =
    let first : AsciiFront (a ∷ t) 1 = record { within = omega arith; each = λ k l. let z : k ≡ 0 = omega arith in rw z h } in
    rw e (ascii_whole (1 + n) (a ∷ t) (omega arith) (more_ascii 1 n (a ∷ t) first f))

-- the slice behind whole characters
pub go_on : (n : ℕ) (s t : List ℕ) → Alike s t → Whole t n → Alike s (take (length t - n) (drop n t))
go_on n s t a w = rw take_rest (λ o. w.alike.0 (a.0 o), λ o. a.1 (w.alike.1 o))

-- where no character stands, only the end is UTF-8
pub decided : (r : Bool) (s t : List ℕ) → Alike s t → NoCharacter t → r ≡ eqb (length t) 0 → Decides r (Octets s)
decided r s [] a f e = (λ _. a.1 none, λ _. e)
decided r s (b ∷ t) a f e = (λ p. absurd (grind (arith, nat_tests)), λ o. absurd (let z = ap length (f (a.0 o)) in omega arith))
