use Rattle.std.proofs.Common.{refl}
use Rattle.links.proofs.Dividing.{fronts, passed_over, lines}
use Rattle.links.proofs.unit.cut_divides_in_order.Goals as goal

pub returns : goal.returns
returns c = record { fronts = fronts; past_the_end = refl; passed_over = passed_over; lines = lines }
