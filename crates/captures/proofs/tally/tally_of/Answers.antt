use Rattle.std.proofs.Common.{sym, ap, rules}
use Rattle.captures.specs.Tallies.{Ends}
use Rattle.lines.specs.Decoding.{whole}
use Rattle.captures.proofs.Totals.{behind}
use Rattle.captures.proofs.tally.tally_of.Goals as goal
use Rattle.captures.proofs.tally.tally_of.Goals.{then-is_empty, else-is_empty+in-Ok-Incomplete, else-is_empty+in-Err}

pub returns-clause-ends : goal.returns-clause-ends
returns-clause-ends c =
    let ends : Ends c.lines.rest.now c.if-is_empty.end =
    elim c.if-is_empty.branch [
      | then-is_empty w ↦ rw w.end-is (search rules)
      | else-is_empty+in-Ok-Incomplete w ↦ rw w.end-is (search rules, ap whole (sym (rw w.in-Ok-Incomplete.field-0-is at w.in-Ok-Incomplete.ensures.is)))
      | else-is_empty+in-Err w ↦ rw w.end-is (search rules, ap whole (sym w.in-Err.ensures.is))
    ] in
    behind c.args.bytes.now c.lines.rest.now c.lines.lines c.if-is_empty.end c.lines.invariant ends
