use Rattle.std.proofs.Common.{length}
use Rattle.captures.proofs.Totals.{Walked}
use Rattle.captures.proofs.tally.tally_of.Given as goal

abbrev pub invariant-lines : goal.invariant-lines
invariant-lines l = Walked l.bytes l.rest l.lines

abbrev pub decreases-lines : goal.decreases-lines
decreases-lines l = length l.rest
