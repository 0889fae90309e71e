-- How what is left is counted.
use Rattle.std.proofs.Common.{◌≡◌, ℕ, zero, suc, ◌-◌, min, List, [], ◌∷◌, replicate, refl, ap, ◌∙◌, arith}
use Rattle.links.specs.Slots.{place, interrupts, fails, slot_effect}
use Rattle.traces.specs.Counts.{both, worth, tally, steps_left}
use Rattle.traces.specs.declared.Step.{Step}
use Rattle.traces.specs.declared.Step.TheVariants as steps
use Rattle.traces.proofs.Tallies.{same_left, only_bytes, tally_append}
use Rattle.sinks.specs.Stands.{slots}

-- places are counted as bytes
pub tally_places : (n : ℕ) → tally slot_effect (replicate n place) ≡ only_bytes n
tally_places zero = refl
tally_places (suc n) = ap (both (worth (slot_effect place))) (tally_places n) ∙ same_left (omega arith) refl refl

-- what steps have of free places is what they come to
pub tally_slots : (free : ℕ) (xs : List Step) → tally slot_effect (slots free xs) ≡ steps_left free xs
tally_slots free [] = refl
tally_slots free (steps.Bytes n ∷ xs) =
    let behind = tally slot_effect (slots (free - n) xs) in
    tally_append slot_effect (replicate (min n free) place) (slots (free - n) xs)
    ∙ (ap (λ l. both l behind) (tally_places (min n free)) ∙ ap (both (only_bytes (min n free))) (tally_slots (free - n) xs))
tally_slots free (steps.Interruption ∷ xs) = ap (both (worth (slot_effect interrupts))) (tally_slots free xs)
tally_slots free (steps.Fault k ∷ xs) = ap (both (worth (slot_effect (fails k)))) (tally_slots free xs)
