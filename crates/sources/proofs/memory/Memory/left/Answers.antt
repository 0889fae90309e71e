use Rattle.std.proofs.Common.{rules}
use Rattle.sources.proofs.Counting.{tally_bytes}
use Rattle.sources.proofs.memory.Memory.left.Goals as goal

pub returns-clause-is : goal.returns-clause-is
returns-clause-is c = search (rules, tally_bytes)
