use Rattle.links.proofs.memory.LineMemory.new.Goals as goal

pub invariant_of-result : goal.invariant_of-result
invariant_of-result c = record { sized = c.in_ok-vec.ensures.len }
