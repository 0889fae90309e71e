-- How what is left is counted.
use Rattle.std.proofs.Common.{◌≡◌, ℕ, min, List, [], ◌∷◌, map, length, take, drop, sym, refl, ap, ◌∙◌, arith}
use Rattle.std.proofs.lemmas.List.{length-take, length-drop}
use Rattle.links.specs.Items.{byte, interruption, fault, effect}
use Rattle.traces.specs.Counts.{both, worth, tally, steps_left}
use Rattle.traces.specs.declared.Left.{Left}
use Rattle.traces.specs.declared.Step.{Step}
use Rattle.traces.specs.declared.Step.TheVariants as steps
use Rattle.traces.proofs.Tallies.{same_left, only_bytes, tally_append}
use Rattle.sources.specs.Lists.{given_by}

-- bytes are counted as bytes
pub tally_bytes : (bytes : List ℕ) → tally effect (map byte bytes) ≡ only_bytes (length bytes)
tally_bytes [] = refl
tally_bytes (b ∷ bytes) = ap (both (worth (effect (byte b)))) (tally_bytes bytes) ∙ same_left (omega arith) refl refl

-- what steps give of bytes is what they come to
pub tally_given : (bytes : List ℕ) (xs : List Step) → tally effect (given_by bytes xs) ≡ steps_left (length bytes) xs
tally_given bytes [] = refl
tally_given bytes (steps.Bytes n ∷ xs) =
    let behind = tally effect (given_by (drop n bytes) xs) in
    tally_append effect (map byte (take n bytes)) (given_by (drop n bytes) xs)
    ∙ (ap (λ l. both l behind) (tally_bytes (take n bytes) ∙ ap only_bytes (length-take n bytes))
    ∙ ap (both (only_bytes (min n (length bytes)))) (tally_given (drop n bytes) xs ∙ ap (λ k. steps_left k xs) (length-drop n bytes)))
tally_given bytes (steps.Interruption ∷ xs) = ap (both (worth (effect interruption))) (tally_given bytes xs)
tally_given bytes (steps.Fault k ∷ xs) = ap (both (worth (effect (fault k)))) (tally_given bytes xs)

-- the length of a piece by its count
pub piece_length : (piece : List ℕ) (l : Left) → l ≡ tally effect (map byte piece) → length piece ≡ l.bytes
piece_length piece l is = sym (ap (λ (m : Left). m.bytes) (is ∙ tally_bytes piece))
