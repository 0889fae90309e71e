-- What one read does, where more is to come behind what it reads, or nothing is to come.
use Rattle.std.proofs.Common.{◌≡◌, ℕ, List, [], length, sym, refl, ap, ◌∙◌, arith}
use Rattle.links.specs.Items.{Item}
use Rattle.links.specs.Reads.{Gives}

-- nothing is to come
pub gives_none : (items rest : List Item) (memory : List ℕ) → rest ≡ items → rest ≡ [] → Gives items memory 0 rest memory
gives_none items rest memory same none =
    record {
      most = omega arith;
      least = λ a i. let e = ap length (sym same ∙ none) in omega arith;
      given = sym same;
      beyond = refl;
    }
