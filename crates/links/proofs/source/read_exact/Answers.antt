use Rattle.std.proofs.Common.{refl, arith, rules}
use Rattle.std.proofs.lemmas.Result.{err_from_is_err_and}
use Rattle.links.specs.Items.{interruption}
use Rattle.links.proofs.Collecting.{collects, goes_on, passes_over, faults, runs_out, reads_interrupted, reads_bytes}
use Rattle.links.proofs.source.read_exact.Goals as goal

pub returns-in_err-read : goal.returns-in_err-read
returns-in_err-read g c =
    let p = err_from_is_err_and c.from_residual.result c.from_residual.ensures.1 in
    let i = c.fill.invariant in
    rw (p.1, p.2) (collects (faults _ _ _ _ _ _ _ i.1 i.2 c.fill.auto.memory c.fill-test.true _ _ refl c.in_err-read.ensures))

pub fill-preserved-in-Interrupted : goal.fill-preserved-in-Interrupted
fill-preserved-in-Interrupted g c =
    let was = c.in_ok-read.was in
    let i = c.fill.invariant in
    let t = passes_over _ _ _ _ _ _ _ i.1 i.2 c.fill.auto.memory c.fill-test.true interruption refl (reads_interrupted c.read.result (cc) c.read.ensures) in
    (search rules, t.0, t.1)

pub returns-in-Bytes-eq0 : goal.returns-in-Bytes-eq0
returns-in-Bytes-eq0 g c =
    let was = c.in_ok-read.was in
    let i = c.fill.invariant in
    collects (runs_out _ _ _ _ _ _ _ i.1 i.2 c.fill.auto.memory c.fill-test.true (reads_bytes c.read.result 0 (cc) c.read.ensures))

pub fill-preserved : goal.fill-preserved
fill-preserved g c =
    let was = c.in_ok-read.was in
    let i = c.fill.invariant in
    let t = goes_on _ _ _ _ _ _ _ i.1 i.2 c.fill.auto.memory c.fill-test.true _ (omega arith) (reads_bytes c.read.result c.in-Bytes.n (cc) c.read.ensures) in
    (search rules, t.1, t.2)
