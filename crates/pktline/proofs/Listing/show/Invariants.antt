use Rattle.std.proofs.Common.{length}
use Rattle.pktline.specs.Pieces.{IsEnd}
use Rattle.pktline.proofs.Listing.show.Given as goal

abbrev pub invariant-loop-entries : goal.invariant-loop-entries
invariant-loop-entries g l = IsEnd l.entries.rest.now l.bytes

abbrev pub decreases-loop-entries : goal.decreases-loop-entries
decreases-loop-entries g l = length l.entries.rest.now
