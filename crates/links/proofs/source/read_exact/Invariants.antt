use Rattle.std.proofs.Common.{◌≡◌, ◌-◌, ◌≤◌, length, take, drop}
use Rattle.links.specs.Collect.{collect, behind}
use Rattle.links.proofs.source.read_exact.Given as goal

-- what was to be collected is what memory has so far, and then what is still to be collected; the rest of memory is as it was
abbrev pub invariant-fill : goal.invariant-fill
invariant-fill g l =
    let left = g.S.Source.left in
    (l.at ≤ length l.memory)
    × (collect (length l.initial.memory) (left l.initial.source) ≡ behind (take l.at l.memory) (collect (length l.initial.memory - l.at) (left l.source)))
    × (drop l.at l.memory ≡ drop l.at l.initial.memory)

abbrev pub decreases-fill : goal.decreases-fill
decreases-fill g l = length (g.S.Source.left l.source)
