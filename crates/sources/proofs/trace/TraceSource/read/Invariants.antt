use Rattle.std.proofs.Common.{◌≡◌, length}
use Rattle.sources.specs.Lists.{trace_list}
use Rattle.sources.proofs.trace.TraceSource.read.Given as goal

-- a step that gives nothing changes nothing of what is to come
abbrev pub invariant-steps : goal.invariant-steps
invariant-steps l = trace_list l.self ≡ trace_list l.initial.self

abbrev pub decreases-steps : goal.decreases-steps
decreases-steps l = length l.self.steps.now
