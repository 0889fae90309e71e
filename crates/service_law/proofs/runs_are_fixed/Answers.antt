use Rattle.rules.specs.Handlers.{quiet, strict, log}
use Rattle.service_law.proofs.Fixed.{runs_fixed}
use Rattle.service_law.proofs.runs_are_fixed.Goals as goal

pub returns : goal.returns
returns c = record { of_quiet = runs_fixed quiet; of_strict = runs_fixed strict; of_log = runs_fixed log }
