-- A line that is taken from a link leaves less of it.
use Rattle.std.proofs.Common.{ℕ, ◌<◌, List, [], ◌∷◌, length, length-append, Ok, ap, arith}
use Rattle.links.specs.Items.{Item}
use Rattle.links.specs.Meaning.{TakesUnit}
use Rattle.links.specs.declared.unit.LineKind.{LineKind}
use Rattle.links.proofs.Dividing.{fronts}

pub shorter : (items rest : List Item) (memory : List ℕ) (k : LineKind) → TakesUnit items (Ok k) rest memory → length rest < length items
shorter [] rest memory k t = absurd (cc t.line)
shorter (item ∷ items) rest memory k t =
    let f = fronts (item ∷ items) in
    let some : 0 < length f.0 = f.2 (omega arith) in
    let all = simp length-append at (ap length f.1) in
    let left = ap length t.leaves in
    omega arith
