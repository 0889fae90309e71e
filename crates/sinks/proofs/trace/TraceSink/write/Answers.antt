use Rattle.std.proofs.Common.{◌+◌, ◌-◌, map, length, arith}
use Rattle.traces.specs.Steps.{step_of_pair}
use Rattle.sinks.proofs.Placing.{placed, takes, takes_same}
use Rattle.sinks.proofs.Stepping.{uses}
use Rattle.sinks.proofs.trace.TraceSink.write.Goals as goal

pub returns : goal.returns
returns c =
    let s = c.steps.self in
    let memory = s.memory.now in
    let bytes = c.args.bytes.now in
    let n = c.put_some-n.result in
    let put = c.put_some-n.ensures.put in
    let long = (placed memory _ bytes s.filled n (omega arith) (omega arith) put).long in
    let used = uses (length memory - s.filled) s.piece n (length c.put_some-n.new.memory - (s.filled + n)) (map step_of_pair s.steps.now) (omega arith) (omega arith) (omega arith) in
    takes_same c.steps.invariant (takes memory _ bytes s.filled n (omega arith) (omega arith) put _ _ _ (λ h i. omega arith) used)
