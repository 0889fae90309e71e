-- The next step of a trace, and the places that it has.
use Rattle.std.proofs.Common.{◌≡◌, ℕ, ◌+◌, ◌-◌, ◌<◌, ◌≤◌, min, List, [], ◌∷◌, ◌++◌, map, length, get_or, replicate, sym, ap, ◌∙◌, arith}
use Rattle.std.proofs.lemmas.List.{append_assoc, replicate-append-replicate}
use Rattle.links.specs.Slots.{Slot, place}
use Rattle.traces.specs.declared.Step.{Step}
use Rattle.traces.specs.declared.Step.TheVariants as steps
use Rattle.traces.specs.Steps.{step_of_pair}
use Rattle.traces.proofs.Pairs.{behind, first_step}
use Rattle.sinks.specs.Stands.{slots}

-- the first k places of a step
pub uses : (free n k others : ℕ) (rest : List Step) → k ≤ n → k ≤ free → others ≡ free - k → slots free (steps.Bytes n ∷ rest) ≡ replicate k place ++ slots others (steps.Bytes (n - k) ∷ rest)
uses free n k others rest p f back =
    let left = min (n - k) others in
    let places : min n free ≡ k + min (n - k) others = omega arith in
    let past : free - n ≡ others - (n - k) = omega arith in
    rw (places, past, sym (replicate-append-replicate k (min (n - k) others) place)) (append_assoc (replicate k place) (replicate left place) (slots (others - (n - k)) rest))

-- A trace whose begun step has no place left.
module _ (piece free : ℕ) (coded : List (List ℕ)) (closed : min piece free ≡ 0) where
  none_open : (rest : List Step) → slots free (steps.Bytes piece ∷ rest) ≡ slots free rest
  none_open rest = let e : free - piece ≡ free = omega arith in rw (closed, e)

  module _ (s : Step) (some : 0 < length coded) (is : s ≡ step_of_pair (get_or coded 0 [])) where
    pub begins : slots free (s ∷ map step_of_pair (behind coded)) ≡ slots free (steps.Bytes piece ∷ map step_of_pair coded)
    begins = sym (none_open (map step_of_pair coded) ∙ ap (slots free) (first_step coded s some is))

    -- a step that is one slot
    pub spends : (slot : Slot) → slots free (s ∷ map step_of_pair (behind coded)) ≡ slot ∷ slots free (map step_of_pair (behind coded)) →
        slots free (steps.Bytes piece ∷ map step_of_pair coded) ≡ slot ∷ slots free (steps.Bytes piece ∷ map step_of_pair (behind coded))
    spends slot one = sym begins ∙ (one ∙ ap (λ l. slot ∷ l) (sym (none_open (map step_of_pair (behind coded)))))
