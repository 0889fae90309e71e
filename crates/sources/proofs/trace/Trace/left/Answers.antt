use Rattle.std.proofs.Common.{map, sym, ap, ◌∙◌}
use Rattle.links.specs.Items.{byte, effect}
use Rattle.traces.specs.Steps.{step_of_pair}
use Rattle.traces.proofs.Tallies.{only_bytes, more_bytes}
use Rattle.sources.specs.Lists.{given_by}
use Rattle.sources.proofs.Counting.{tally_bytes, tally_given, piece_length}
use Rattle.sources.proofs.trace.Trace.left.Goals as goal

pub returns : goal.returns
returns c =
    let s = c.args.self.now in
    let piece = tally_bytes s.piece.bytes.now ∙ ap only_bytes (piece_length s.piece.bytes.now _ c.left.ensures.is) in
    let others = c.of_steps-behind.ensures.is ∙ sym (tally_given s.bytes.now (map step_of_pair s.steps.now)) in
    more_bytes effect (map byte s.piece.bytes.now) (given_by s.bytes.now (map step_of_pair s.steps.now)) _ _ piece others
