use Rattle.utf8.proofs.Encodings.{same_grammar}
use Rattle.utf8.proofs.grammar_is_that_of_str.Goals as goal

pub returns : goal.returns
returns c = same_grammar
