use Rattle.sending_law.proofs.Holding.{sending_law}
use Rattle.sending_law.proofs.sending_law_holds.Goals as goal

pub returns : goal.returns
returns c = sending_law
