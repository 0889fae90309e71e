use Rattle.std.proofs.Common.{refl, arith}
use Rattle.std.proofs.lemmas.Result.{err_from_is_err_and}
use Rattle.links.specs.Slots.{interrupts}
use Rattle.links.proofs.Sending.{sends_as, goes_on, passes_over, faults, takes_no_more, writes_interrupted, writes_bytes}
use Rattle.links.proofs.sink.write_all.Goals as goal

pub returns-in_err-write : goal.returns-in_err-write
returns-in_err-write g c =
    let p = err_from_is_err_and c.from_residual.result c.from_residual.ensures.1 in
    rw (p.1, p.2) (sends_as (faults _ _ _ _ c.push.invariant _ _ refl c.in_err-write.ensures))

pub push-preserved-in-Interrupted : goal.push-preserved-in-Interrupted
push-preserved-in-Interrupted g c =
    let was = c.in_ok-write.was in
    passes_over _ _ _ _ c.push.invariant interrupts refl (writes_interrupted c.write.result (cc) c.write.ensures)

pub returns-in-Bytes-eq0 : goal.returns-in-Bytes-eq0
returns-in-Bytes-eq0 g c =
    let was = c.in_ok-write.was in
    sends_as (takes_no_more _ _ _ _ c.push.invariant (grind (arith, c.push-test.true, c.is_empty.ensures)) (writes_bytes c.write.result 0 (cc) c.write.ensures))

pub push-preserved : goal.push-preserved
push-preserved g c =
    let was = c.in_ok-write.was in
    goes_on _ _ _ _ c.push.invariant c.in-Bytes.n (writes_bytes c.write.result c.in-Bytes.n (cc) c.write.ensures)
