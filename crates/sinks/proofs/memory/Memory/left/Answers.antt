use Rattle.std.proofs.Common.{rules}
use Rattle.sinks.proofs.Counting.{tally_places}
use Rattle.sinks.proofs.memory.Memory.left.Goals as goal

pub returns : goal.returns
returns c = search (rules, tally_places)
