use Rattle.std.proofs.Common.{rules}
use Rattle.utf8.proofs.Blocks.{lanes_front}
use Rattle.utf8.proofs.ascii_lanes.Goals as goal

pub returns : goal.returns
returns c = search (rules, lanes_front)
