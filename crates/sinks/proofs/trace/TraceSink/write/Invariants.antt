use Rattle.std.proofs.Common.{◌≡◌, length}
use Rattle.sinks.specs.Stands.{trace_stand}
use Rattle.sinks.proofs.trace.TraceSink.write.Given as goal

-- a step that has no place changes nothing of where the sink stands
abbrev pub invariant-steps : goal.invariant-steps
invariant-steps l = trace_stand l.self ≡ trace_stand l.initial.self

abbrev pub decreases-steps : goal.decreases-steps
decreases-steps l = length l.self.steps.now
