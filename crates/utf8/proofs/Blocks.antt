-- Runs of ASCII: what the high bits of a block tell, and block after block.
use Rattle.std.proofs.Common.{◌≡◌, ℕ, zero, suc, ◌+◌, ◌-◌, ◌*◌, ◌%◌, ◌^◌, ◌<◌, ◌≤◌, min, Bool, false, cond, leb, ◌⊎◌, List, [], map, length, get_or, take, drop}
use Rattle.std.proofs.Common.{replicate, sym, ap, ◌∙◌, subst, inl, inr, arith, add-zero, zero-add, length-take, length-drop, w64, w8}
use Rattle.std.proofs.Math.Nat.{zero-mul, suc-mul}
use Rattle.std.specs.Int.{trailing_zeros, bit_at}
use Rattle.std.proofs.lemmas.Nat.Bits.{bit_at-trailing_zeros, bit_at-zero}
use Rattle.std.specs.Simd.Lanes.{mask_l, zip2, top}
use Rattle.std.specs.List.{AllWithin}
use Rattle.std.proofs.lemmas.Simd.{tops_compared, zip2_splat_left, mask_l-mod, bit_mask_l}
use Rattle.std.proofs.lemmas.List.{get_or_past, get_or-take, get_or-drop, length-map, get_or-map}
use Rattle.std.proofs.lemmas.Bool.{cases_lt}
use Rattle.std.proofs.lemmas.Bool.Decides.{nat_tests}
use Rattle.std.specs.Simd.{first_chunks}
use Rattle.utf8.specs.Fronts.{AsciiFront}

-- whether an octet has its high bit set
abbrev high : ℕ → Bool
high b = leb 128 b

-- the bits that the comparison of 32 lanes with 128 gives
abbrev bits_of : List ℕ → ℕ
bits_of s = mask_l (map (top 7) (zip2 (λ a b. cond (leb a b) 255 0) (replicate 32 128) s)) % 2 ^ 64

-- they are the high bits
bits_are : (s : List ℕ) → length s ≡ 32 → bits_of s ≡ mask_l (map high s)
bits_are s l =
    let e = tops_compared w8 leb (replicate 32 128) s ∙ zip2_splat_left leb 128 32 s l in
    ap (λ ms. mask_l ms % 2 ^ 64) e ∙ mask_l-mod (map high s) 64 (simp length-map (omega arith))

zero_below : (n k : ℕ) → n < 2 ^ 64 → k < trailing_zeros w64 n → bit_at n k ≡ 0
zero_below n k h lt = elim (cases_lt 0 n) [ inl p ↦ (bit_at-trailing_zeros w64 n p h).2 k lt | inr z ↦ (let e : n ≡ 0 = omega arith in rw e (bit_at-zero k)) ]

low_octet : (s : List ℕ) (k : ℕ) → length s ≡ 32 → k < length s → bit_at (bits_of s) k ≡ 0 → get_or s k 0 < 128
low_octet s k l h z =
    let e : cond {A = ℕ} (get_or (map high s) k false) 1 0 ≡ 0 = sym (bit_mask_l (map high s) k) ∙ (rw (bits_are s l) at z) in
    let r = rw (get_or-map high s k 0 false h) at e in
    grind (arith, nat_tests, r)

-- the zeros below the lowest high bit are octets of ASCII, as far as the block goes
pub lanes_front : (s : List ℕ) → length s ≡ 32 → AsciiFront s (min 32 (trailing_zeros w64 (bits_of s)))
lanes_front s l = record { within = omega arith; each = λ k lt. low_octet s k l (omega arith) (zero_below (bits_of s) k (omega arith) (omega arith)) }

-- a front behind a front
pub more_ascii : (i n : ℕ) (s : List ℕ) → AsciiFront s i → AsciiFront (drop i s) n → AsciiFront s (i + n)
more_ascii i n s f g =
    let l : i + n ≤ length s = let w = f.within in let v = simp length-drop at g.within in omega arith in
    record { within = l; each = λ k h. by k (cases_lt k i) h }
  where
    by : (k : ℕ) → (k < i) ⊎ (i ≤ k) → k < i + n → get_or s k 0 < 128
    by k (inl h) lt = f.each k h
    by k (inr h) lt =
        let e : get_or (drop i s) (k - i) 0 ≡ get_or s k 0 = get_or-drop i s (k - i) 0 ∙ ap (λ j. get_or s j 0) (omega arith) in
        rw e at (g.each (k - i) (omega arith))

-- a front of a part
front_taken : (n j : ℕ) (s : List ℕ) → AsciiFront (take n s) j → AsciiFront s j
front_taken n j s f =
    let l : j ≤ min n (length s) = let w = f.within in simp length-take at w in
    record { within = omega arith; each = λ k h. let i : k < n = omega arith in rw get_or-take at (f.each k h) }

chunks_front : (n k m j : ℕ) (s : List ℕ) → m ≤ k → AllWithin (λ b. AsciiFront b n) (first_chunks n k s) 0 m
    → AsciiFront (get_or (first_chunks n k s) m []) j → AsciiFront s (m * n + j)
chunks_front n zero zero j s le h f = let w = f.within in record { within = omega arith; each = λ i lt. absurd (omega arith) }
chunks_front n zero (suc m) j s le h f = absurd (omega arith)
chunks_front n (suc k) zero j s le h f = rw (zero-mul, zero-add) (front_taken n j s f)
chunks_front n (suc k) (suc m) j s le h f =
    let b = chunks_front n k m j (drop n s) (omega arith) (λ i d l lt. h (suc i) d (omega arith) (omega arith)) f in
    let e : n + (m * n + j) ≡ suc m * n + j = omega (arith, suc-mul m n) in
    subst (AsciiFront s) e (more_ascii n (m * n + j) s (front_taken n n s (h 0 [] (omega arith) (omega arith))) b)

-- blocks of ASCII, and a front of the one behind them
pub blocks_front : (n k m j : ℕ) (s : List ℕ) (bs : List (List ℕ)) → bs ≡ first_chunks n k s → m ≤ k → AllWithin (λ b. AsciiFront b n) bs 0 m
    → AsciiFront (get_or bs m []) j → AsciiFront s (m * n + j)
blocks_front n k m j s bs e le h f =
    chunks_front n k m j s le (subst (λ l. AllWithin (λ b. AsciiFront b n) l 0 m) e h) (subst (λ l. AsciiFront (get_or l m []) j) e f)

-- the same where no block is left
pub all_front : (n k : ℕ) (s : List ℕ) (bs : List (List ℕ)) → bs ≡ first_chunks n k s → length bs ≡ k → AllWithin (λ b. AsciiFront b n) bs 0 (length bs) → AsciiFront s (length bs * n)
all_front n k s bs e l h =
    let none : get_or bs (length bs) [] ≡ [] = get_or_past bs (length bs) [] (omega arith) in
    let f : AsciiFront (get_or bs (length bs) []) 0 = record { within = omega arith; each = λ i lt. absurd (omega arith) } in
    rw add-zero at (blocks_front n k (length bs) 0 s bs e (omega arith) h f)
