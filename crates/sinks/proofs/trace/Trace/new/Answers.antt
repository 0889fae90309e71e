use Rattle.std.proofs.Common.{rules}
use Rattle.traces.proofs.Pairs.{pairs_code}
use Rattle.sinks.proofs.trace.Trace.new.Goals as goal

pub returns : goal.returns
returns c = search (rules, pairs_code)
