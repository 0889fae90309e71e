-- The steps of pairs of bytes.
use Rattle.std.proofs.Common.{◌≡◌, ℕ, zero, suc, ◌-◌, ◌<◌, ◌/◌, List, [], ◌∷◌, map, length, get_or, take, drop, sym, refl, ap, arith}
use Rattle.std.proofs.lemmas.List.{nil_from_length, take_rest}
use Rattle.std.specs.Simd.{first_chunks}
use Rattle.traces.specs.Steps.{step_of, step_of_pair, steps_in}
use Rattle.traces.specs.declared.Step.{Step}

-- the steps of the first k pairs
pairs : (k : ℕ) (coded : List ℕ) → k ≡ length coded / 2 → map step_of_pair (first_chunks 2 k coded) ≡ steps_in coded
pairs zero [] e = refl
pairs zero (kind ∷ []) e = refl
pairs zero (kind ∷ amount ∷ rest) e = absurd (omega arith)
pairs (suc k) [] e = absurd (omega arith)
pairs (suc k) (kind ∷ []) e = absurd (omega arith)
pairs (suc k) (kind ∷ amount ∷ rest) e = ap (λ l. step_of kind amount ∷ l) (pairs k rest (omega arith))

-- the pairs of a list of bytes are its steps
pub pairs_code : (coded : List ℕ) → map step_of_pair (first_chunks 2 (length coded / 2) coded) ≡ steps_in coded
pairs_code coded = pairs (length coded / 2) coded refl

-- the pairs behind the first
abbrev pub behind : List (List ℕ) → List (List ℕ)
behind coded = take (length coded - 1) (drop 1 coded)

-- where there is no pair there is no step
pub no_step : (coded : List (List ℕ)) → length coded < 1 → map step_of_pair coded ≡ []
no_step coded h = ap (map step_of_pair) (nil_from_length coded (omega arith))

-- the first step, and those behind it
pub first_step : (coded : List (List ℕ)) (s : Step) → 0 < length coded → s ≡ step_of_pair (get_or coded 0 []) → map step_of_pair coded ≡ s ∷ map step_of_pair (behind coded)
first_step [] s h is = absurd (omega arith)
first_step (pair ∷ rest) s h is = rw is (ap (λ l. step_of_pair pair ∷ map step_of_pair l) (sym (take_rest (pair ∷ rest) 1)))
