use Rattle.std.proofs.Common.{◌++◌, map, ap, ◌∙◌}
use Rattle.traces.specs.Steps.{step_of_pair}
use Rattle.traces.proofs.Pairs.{pairs_code}
use Rattle.sources.specs.Lists.{given_by}
use Rattle.sources.proofs.trace.Trace.new.Goals as goal

pub returns : goal.returns
returns c =
    let bytes = c.args.bytes.now in
    let pairs = c.as_chunks.result.0.now in
    ap (λ l. l ++ given_by c.args.bytes.now (map step_of_pair pairs)) c.new.ensures
    ∙ ap (given_by c.args.bytes.now) (ap (map step_of_pair) c.as_chunks.ensures.front ∙ pairs_code c.args.steps.now)
