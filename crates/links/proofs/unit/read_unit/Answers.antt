use Rattle.std.proofs.Common.{◌≡◌, length, take, sym, arith, rules}
use Rattle.std.proofs.lemmas.List.{length-take, take_at, places}
use Rattle.std.proofs.lemmas.Result.{err_from_is_err_and}
use Rattle.links.proofs.Cutting.{refuses, takes_marker, cut_short, takes_data}
use Rattle.links.proofs.unit.read_unit.Goals as goal

pub returns-in_err-kind : goal.returns-in_err-kind
returns-in_err-kind g c =
    let p = err_from_is_err_and c.from_residual-in_err-kind.result c.from_residual-in_err-kind.ensures.1 in
    let four : length (take 4 c.args.memory.now) ≡ 4 = simp length-take (omega arith) in
    let long : length c.read_exact.new.memory ≡ 4 = omega arith in
    let is = sym c.in_err-kind.ensures.is in
    rw (p.1, p.2) (refuses four c.in_ok-read_exact.ensures _ _ (rw (take_at c.read_exact.new.memory _ 4 long) at is))

pub returns-in_err-read_exact-2 : goal.returns-in_err-read_exact-2
returns-in_err-read_exact-2 g c =
    let p = err_from_is_err_and c.from_residual-in_err-read_exact-2.result c.from_residual-in_err-read_exact-2.ensures.1 in
    let four : length (take 4 c.args.memory.now) ≡ 4 = simp length-take (omega arith) in
    let long : length c.read_exact.new.memory ≡ 4 = omega arith in
    let is = rw (c.in-Data.is, take_at c.read_exact.new.memory _ 4 long) at c.in_ok-kind.ensures.is in
    rw (p.1, p.2)
    (cut_short four c.in_ok-read_exact.ensures c.in-Data.n (sym is) _ _ c.in_err-read_exact-2.ensures (search (rules, places)))

pub returns-in_ok-read_exact-2 : goal.returns-in_ok-read_exact-2
returns-in_ok-read_exact-2 g c =
    let four : length (take 4 c.args.memory.now) ≡ 4 = simp length-take (omega arith) in
    let long : length c.read_exact.new.memory ≡ 4 = omega arith in
    let is = rw (c.in-Data.is, take_at c.read_exact.new.memory _ 4 long) at c.in_ok-kind.ensures.is in
    let fits = rw c.in-Data.is at c.in_ok-kind.ensures.within in
    takes_data four c.in_ok-read_exact.ensures c.in-Data.n (sym is) c.in_ok-read_exact-2.ensures (search (rules, places)) (search (rules, places)) fits _ _

pub returns-in_default : goal.returns-in_default
returns-in_default g c =
    let four : length (take 4 c.args.memory.now) ≡ 4 = simp length-take (omega arith) in
    let long : length c.read_exact.new.memory ≡ 4 = omega arith in
    let is = rw (c.in_default.is, take_at c.read_exact.new.memory _ 4 long) at c.in_ok-kind.ensures.is in
    rw c.in_default.is (takes_marker four c.in_ok-read_exact.ensures _ _ (sym is) (take_at c.read_exact.new.memory _ 4 long))
