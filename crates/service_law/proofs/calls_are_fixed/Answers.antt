use Rattle.rules.specs.Handlers.{quiet, strict, log}
use Rattle.service_law.proofs.Fixed.{calls_fixed}
use Rattle.service_law.proofs.calls_are_fixed.Goals as goal

pub returns : goal.returns
returns c = record { of_quiet = calls_fixed quiet; of_strict = calls_fixed strict; of_log = calls_fixed log }
