use Rattle.std.proofs.Common.{◌-◌, length, arith}
use Rattle.std.proofs.lemmas.List.{length-replicate}
use Rattle.links.specs.Slots.{place}
use Rattle.sinks.proofs.Placing.{placed, takes, uses_places}
use Rattle.sinks.proofs.memory.MemorySink.write.Goals as goal

pub returns : goal.returns
returns c =
    let memory = c.args.self.now.memory.now in
    let at = c.args.self.now.filled in
    let bytes = c.args.bytes.now in
    let n = c.put_some-n.result in
    let long = (placed memory _ bytes at n (omega arith) (omega arith) c.put_some-n.ensures.put).long in
    let room = length-replicate (length memory - at) place in
    takes memory _ bytes at n (omega arith) (omega arith) c.put_some-n.ensures.put _ _ _ (λ h i. omega arith) (uses_places _ n _ (omega arith))
