use Rattle.std.proofs.Common.{◌≡◌, drop, vec_items}
use Rattle.replay.specs.Terms.{pairs}
use Rattle.replay.proofs.Pairs.{bytes_of, onto}
use Rattle.replay.proofs.terms.parse_pairs.Given as goal

abbrev pub invariant-loop-high : goal.invariant-loop-high
invariant-loop-high l = pairs l.digits ≡ onto (vec_items l.bytes) (bytes_of (drop l.high-index l.pairs))
