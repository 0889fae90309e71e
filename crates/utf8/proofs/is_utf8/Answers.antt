use Rattle.std.proofs.Common.{rules}
use Rattle.utf8.proofs.Characters.{decided}
use Rattle.utf8.proofs.is_utf8.Goals as goal

pub returns : goal.returns
returns c = search (rules, decided)
