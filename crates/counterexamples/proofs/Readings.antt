-- The services of a reader that are made beside its trials.
use Rattle.std.proofs.Common.{[], ◌∷◌, codes, map, refl}
use Rattle.hex_digits.specs.Digits.{length_field}
use Rattle.links.specs.Items.{byte}
use Rattle.service_law.specs.Along.{at_end, next}
use Rattle.service_law.specs.Calls.{plainly}
use Rattle.counterexamples.specs.Trials.{two_lines, letter, reads, peeks}
use Rattle.counterexamples.proofs.Made.{Made}

-- a peek and a read, one read, and two
pub peek_and_read : Made two_lines (peeks (letter (codes "a")) ∷ reads (letter (codes "a")) ∷ []) (λ b. b.left) (map byte (codes "0005b"))
unfolding length_field
peek_and_read = record { end = _; runs = next (plainly refl refl refl) (next (plainly refl refl refl) at_end); ends = refl }

pub one_read : Made two_lines (reads (letter (codes "a")) ∷ []) (λ b. b.left) (map byte (codes "0005b"))
unfolding length_field
one_read = record { end = _; runs = next (plainly refl refl refl) at_end; ends = refl }

pub two_reads : Made two_lines (reads (letter (codes "a")) ∷ reads (letter (codes "b")) ∷ []) (λ b. b.left) []
unfolding length_field
two_reads = record { end = _; runs = next (plainly refl refl refl) (next (plainly refl refl refl) at_end); ends = refl }
