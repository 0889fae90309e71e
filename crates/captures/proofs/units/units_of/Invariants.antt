use Rattle.std.proofs.Common.{length}
use Rattle.captures.proofs.units.units_of.Given as goal

-- a line takes something of what is to come
abbrev pub decreases-units : goal.decreases-units
decreases-units g l = length (g.S.Source.left l.source)
