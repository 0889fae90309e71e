-- The next step of a trace, and what it gives.
use Rattle.std.proofs.Common.{◌≡◌, ℕ, ◌<◌, ◌≤◌, min, ◌⊎◌, List, [], ◌∷◌, ◌++◌, map, length, get_or, take, drop, sym, ap, ◌∙◌, inl, inr, arith}
use Rattle.std.proofs.lemmas.List.{nil_from_length, take_all, drop_all}
use Rattle.std.proofs.lemmas.Bool.{cases_lt}
use Rattle.links.specs.Items.{Item, byte, effect}
use Rattle.traces.specs.Counts.{tally}
use Rattle.traces.specs.declared.Left.{Left}
use Rattle.traces.specs.declared.Step.{Step}
use Rattle.traces.specs.declared.Step.TheVariants as steps
use Rattle.traces.specs.Steps.{step_of_pair}
use Rattle.traces.proofs.Pairs.{behind, no_step, first_step}
use Rattle.sources.specs.Lists.{given_by}
use Rattle.sources.proofs.Counting.{piece_length}

-- a step of n bytes gives a piece, which is n of them or all, and leaves the others to the steps behind it
gives_piece : (bytes piece others : List ℕ) (n size : ℕ) (rest : List Step) → size ≡ min n (length bytes) → piece ≡ take size bytes → others ≡ drop size bytes →
    given_by bytes (steps.Bytes n ∷ rest) ≡ map byte piece ++ given_by others rest
gives_piece bytes piece others n size rest least front back = rw (front, back) (clamped (cases_lt n (length bytes))) where
  clamped : (n < length bytes) ⊎ (length bytes ≤ n) → map byte (take n bytes) ++ given_by (drop n bytes) rest ≡ map byte (take size bytes) ++ given_by (drop size bytes) rest
  clamped (inl h) = let e : size ≡ n = omega arith in rw e
  clamped (inr h) =
      let all : length bytes ≤ size = omega arith in
      rw (take_all n bytes h, drop_all n bytes h, take_all size bytes all, drop_all size bytes all)

-- A trace whose begun step has given all its bytes.
module _ (begun bytes : List ℕ) (coded : List (List ℕ)) (left : Left) (counts : left ≡ tally effect (map byte begun)) (given : left.bytes ≡ 0) where
  none_begun : (items : List Item) → map byte begun ++ items ≡ items
  none_begun items = rw (nil_from_length begun (piece_length begun left counts ∙ given))

  pub ends : length coded < 1 → map byte begun ++ given_by bytes (map step_of_pair coded) ≡ []
  ends h = none_begun (given_by bytes (map step_of_pair coded)) ∙ ap (given_by bytes) (no_step coded h)

  module _ (s : Step) (some : 0 < length coded) (is : s ≡ step_of_pair (get_or coded 0 [])) where
    steps_on : map byte begun ++ given_by bytes (map step_of_pair coded) ≡ given_by bytes (s ∷ map step_of_pair (behind coded))
    steps_on = none_begun (given_by bytes (map step_of_pair coded)) ∙ ap (given_by bytes) (first_step coded s some is)

    pub begins : (n size : ℕ) (piece others : List ℕ) → s ≡ steps.Bytes n → size ≡ min n (length bytes) → piece ≡ take size bytes → others ≡ drop size bytes →
        map byte piece ++ given_by others (map step_of_pair (behind coded)) ≡ map byte begun ++ given_by bytes (map step_of_pair coded)
    begins n size piece others bytes_of least front back =
        sym (steps_on ∙ (ap (λ x. given_by bytes (x ∷ map step_of_pair (behind coded))) bytes_of ∙ gives_piece bytes piece others n size (map step_of_pair (behind coded)) least front back))

    -- a step that is one item
    pub spends : (item : Item) → given_by bytes (s ∷ map step_of_pair (behind coded)) ≡ item ∷ given_by bytes (map step_of_pair (behind coded)) →
        map byte begun ++ given_by bytes (map step_of_pair coded) ≡ item ∷ (map byte begun ++ given_by bytes (map step_of_pair (behind coded)))
    spends item one = steps_on ∙ (one ∙ ap (λ l. item ∷ l) (sym (none_begun (given_by bytes (map step_of_pair (behind coded))))))
