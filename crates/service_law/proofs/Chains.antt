-- Marks one behind the other: each may come where it stands, and leads on. Chains are joined, taken apart, and end in one place.
use Rattle.std.proofs.Common.{◌≡◌, List, [], ◌∷◌, ◌++◌, sym, subst}
use Rattle.std.specs.List.{fold}
use Rattle.service_law.specs.Along.{Along, at_end, next}

abbrev pub Chain : {S M : Type 0} → (S → M → Type 0) → (S → M → S) → S → List M → S → Type 0
Chain may on a [] b = b ≡ a
Chain may on a (m ∷ ms) b = may a m × Chain may on (on a m) ms b

module _ {S M : Type 0} (may : S → M → Type 0) (on : S → M → S) where
  pub chain_append : (us vs : List M) (a b c : S) → Chain may on a us b → Chain may on b vs c → Chain may on a (us ++ vs) c
  chain_append [] vs a b c p q = subst (λ x. Chain may on x vs c) p q
  chain_append (u ∷ us) vs a b c p q = (p.0, chain_append us vs (on a u) b c p.1 q)

  -- what is left of a chain, behind marks that lead from a to b
  pub chain_behind : (us vs : List M) (a b c : S) → Chain may on a us b → Chain may on a (us ++ vs) c → Chain may on b vs c
  chain_behind [] vs a b c p q = subst (λ x. Chain may on x vs c) (sym p) q
  chain_behind (u ∷ us) vs a b c p q = chain_behind us vs (on a u) b c p.1 q.1

  -- marks lead to one place
  pub chain_end : (us : List M) (a b : S) → Chain may on a us b → b ≡ fold on a us
  chain_end [] a b p = p
  chain_end (u ∷ us) a b p = chain_end us (on a u) b p.1

  -- where each mark that may come is a step, a chain is steps one behind the other
  pub chain_goes : {T : Type 0} (goes : T → M → T → Type 0) (f : S → T) → ((a : S) (m : M) → may a m → goes (f a) m (f (on a m))) → (us : List M) (a b : S) → Chain may on a us b → Along goes (f a) us (f b)
  chain_goes goes f g [] a b p = rw p at_end
  chain_goes goes f g (u ∷ us) a b p = next (g a u p.0) (chain_goes goes f g us (on a u) b p.1)
