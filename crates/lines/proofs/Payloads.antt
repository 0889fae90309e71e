-- What a payload is made of, and how it comes apart.
use Rattle.std.proofs.Common.{◌≡◌, ℕ, ◌-◌, ◌≤◌, true, leb, List, [], ◌∷◌, ◌++◌, length, Some, Ok, codes, refl, arith, length-append}
use Rattle.std.proofs.Math.Seq.{take-append_seam}
use Rattle.std.proofs.lemmas.Bool.Decides.{nat_tests}
use Rattle.std.proofs.lemmas.Bool.{le-leb}
use Rattle.std.proofs.lemmas.List.{get_or_at}
use Rattle.lines.specs.Format.{message, text, band, on}

-- what is put before or behind data is taken off again
pub message_back : (d : List ℕ) → message (codes "ERR " ++ d) ≡ Some d
message_back d = let long : leb 4 (length (codes "ERR " ++ d)) ≡ true = le-leb 4 _ (omega arith) in rw long

pub message_only : (d m : List ℕ) → message d ≡ Some m → d ≡ codes "ERR " ++ m
message_only [] m h = absurd (grind arith)
message_only (a ∷ []) m h = absurd (grind arith)
message_only (a ∷ b ∷ []) m h = absurd (grind arith)
message_only (a ∷ b ∷ c ∷ []) m h = absurd (grind arith)
message_only (a ∷ b ∷ c ∷ e ∷ d) m h = grind (arith, nat_tests)

pub text_back : (d : List ℕ) → text (d ++ (10 ∷ [])) ≡ d
text_back d =
    let n : length (d ++ (10 ∷ [])) - 1 ≡ length d = simp length-append (omega arith) in
    rw (n, get_or_at d 10 [] 0 (length d) refl, take-append_seam d (10 ∷ []))

pub band_back : (b : ℕ) (d : List ℕ) → 1 ≤ b → b ≤ 3 → band (b ∷ d) ≡ Ok (on b d)
band_back b d h i = grind (arith, nat_tests)
