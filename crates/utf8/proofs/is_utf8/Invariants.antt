use Rattle.std.proofs.Common.{length}
use Rattle.utf8.specs.Fronts.{Alike}
use Rattle.utf8.proofs.is_utf8.Given as goal

abbrev pub invariant-loop-width : goal.invariant-loop-width
invariant-loop-width l = Alike l.bytes l.rest

abbrev pub decreases-loop-width : goal.decreases-loop-width
decreases-loop-width l = length l.rest
