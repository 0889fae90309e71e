-- Pairs of hexadecimal digits, as the arrays that a slice of digits is cut into.
use Rattle.std.proofs.Common.{◌≡◌, ℕ, zero, suc, ◌+◌, ◌-◌, ◌*◌, ◌/◌, ◌%◌, ◌<◌, ◌≤◌, List, [], ◌∷◌, ◌++◌, length, get_or, take, drop}
use Rattle.std.proofs.Common.{drop-cons, add-one, Some, None, Err, Option, sym, refl, ap, ◌∙◌, append_assoc, append-nil, arith}
use Rattle.std.proofs.lemmas.List.{take_rest, drop_all}
use Rattle.std.specs.Option.{ok_or}
use Rattle.std.specs.Simd.{first_chunks}
use Rattle.hex_digits.specs.Digits.{digit, joined}
use Rattle.replay.specs.Terms.{pairs, before, term}
use Rattle.replay.specs.declared.script.ScriptFault.{ScriptFault}
use Rattle.replay.specs.declared.script.ScriptFault.TheVariants.{Bytes}

-- the byte that a pair of digits writes
abbrev pub byte_of : List ℕ → Option ℕ
byte_of pair = joined 16 (digit (get_or pair 0 0)) (digit (get_or pair 1 0))

-- the bytes that pairs of digits write
abbrev pub bytes_of : List (List ℕ) → Option (List ℕ)
bytes_of [] = Some []
bytes_of (pair ∷ others) = before (byte_of pair) (bytes_of others)

-- xs, and then the bytes that there may be
abbrev pub onto : List ℕ → Option (List ℕ) → Option (List ℕ)
onto xs None = None
onto xs (Some ys) = Some (xs ++ ys)

before_none : (b : Option ℕ) → before b None ≡ None
before_none None = refl
before_none (Some b) = refl

-- an odd number of digits writes no bytes
pub odd : (s : List ℕ) → 1 ≤ length s % 2 → pairs s ≡ None
odd [] h = absurd (omega arith)
odd (a ∷ []) h = refl
odd (a ∷ b ∷ s) h = ap (before (joined 16 (digit a) (digit b))) (odd s (omega arith)) ∙ before_none (joined 16 (digit a) (digit b))

chunks : (k : ℕ) (s : List ℕ) → length s ≡ k * 2 → pairs s ≡ bytes_of (first_chunks 2 k s)
chunks zero [] e = refl
chunks zero (a ∷ s) e = absurd (omega arith)
chunks (suc k) [] e = absurd (omega arith)
chunks (suc k) (a ∷ []) e = absurd (omega arith)
chunks (suc k) (a ∷ b ∷ s) e = ap (before (joined 16 (digit a) (digit b))) (chunks k s (omega arith))

nothing_onto : (o : Option (List ℕ)) → o ≡ onto [] o
nothing_onto None = refl
nothing_onto (Some ys) = refl

-- an even number of digits writes what its pairs write, behind no bytes
pub even : (s : List ℕ) (ps : List (List ℕ)) (xs : List ℕ) → length s % 2 < 1 → ps ≡ first_chunks 2 (length s / 2) s → xs ≡ [] → pairs s ≡ onto xs (bytes_of ps)
even s ps xs h e n = rw (e, n) (chunks (length s / 2) s (omega arith) ∙ nothing_onto (bytes_of (first_chunks 2 (length s / 2) s)))

push : (xs : List ℕ) (b : ℕ) (o : Option (List ℕ)) → onto xs (before (Some b) o) ≡ onto (xs ++ (b ∷ [])) o
push xs b None = refl
push xs b (Some ys) = ap Some (sym (append_assoc xs (b ∷ []) ys))

-- one more pair
pub one_more : (xs : List ℕ) (ps : List (List ℕ)) (i b : ℕ) → i < length ps → Some b ≡ byte_of (get_or ps i []) → onto xs (bytes_of (drop i ps)) ≡ onto (xs ++ (b ∷ [])) (bytes_of (drop (i + 1) ps))
one_more xs ps i b h e = rw (add-one, drop-cons ps i [], ← e) (push xs b (bytes_of (drop (suc i) ps)))

-- a pair that writes no byte
pub no_pair : (xs : List ℕ) (ps : List (List ℕ)) (i : ℕ) → i < length ps → None ≡ byte_of (get_or ps i []) → onto xs (bytes_of (drop i ps)) ≡ None
no_pair xs ps i h e = rw (drop-cons ps i [], ← e)

-- only where there is no byte is it refused, and then as bytes
pub no_byte : (b : Option ℕ) (e : ScriptFault) → ok_or b Bytes ≡ Err e → (b ≡ None) × (e ≡ Bytes)
no_byte None e h = (refl, cc)
no_byte (Some b) e h = (cc, cc)

-- behind the last pair
pub no_more : (xs : List ℕ) (ps : List (List ℕ)) (i : ℕ) → length ps ≤ i → onto xs (bytes_of (drop i ps)) ≡ Some xs
no_more xs ps i h = rw drop_all (ap Some (append-nil xs))

pub pairs_behind : (w : List ℕ) → 1 ≤ length w → get_or w 0 0 ≡ 104 → term w ≡ pairs (take (length w - 1) (drop 1 w))
pairs_behind [] h e = absurd (omega arith)
pairs_behind (c ∷ rest) h e = rw (e, take_rest)

-- what the reading of pairs stands on
pub ruleset reading = (odd, even, one_more, no_pair, no_byte, no_more)
