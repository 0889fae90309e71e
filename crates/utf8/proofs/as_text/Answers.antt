use Rattle.std.proofs.Common.{rules}
use Rattle.utf8.proofs.Encodings.{to_text}
use Rattle.utf8.proofs.as_text.Goals as goal

pub then-requires : goal.then-requires
then-requires c = search (rules, to_text)
