use Rattle.std.proofs.Common.{◌≡◌, ◌-◌, length, min, map, replicate, sym, ◌∙◌, arith}
use Rattle.links.specs.Slots.{place, slot_effect}
use Rattle.traces.specs.Steps.{step_of_pair}
use Rattle.traces.proofs.Tallies.{more_bytes}
use Rattle.sinks.specs.Stands.{slots}
use Rattle.sinks.proofs.Counting.{tally_places, tally_slots}
use Rattle.sinks.proofs.trace.Trace.left.Goals as goal

pub returns : goal.returns
returns c =
    let s = c.args.self.now in
    let others = c.of_steps-behind.ensures.is ∙ sym (tally_slots _ (map step_of_pair s.steps.now)) in
    let piece : min s.piece (length s.memory.now - s.filled) ≡ c.min-piece.result = omega arith in
    let behind : length s.memory.now - s.filled - s.piece ≡ c.free-free.result - c.min-piece.result = omega arith in
    rw (piece, behind) (more_bytes slot_effect (replicate c.min-piece.result place) (slots _ (map step_of_pair s.steps.now)) _ _ (tally_places c.min-piece.result) others)
