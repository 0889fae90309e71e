use Rattle.std.proofs.Common.{arith, rules}
use Rattle.utf8.proofs.Characters.{ascii_run, whole_2, whole_3, whole_4}
use Rattle.utf8.proofs.front.Goals as goal

pub returns-in-0-to-127-default : goal.returns-in-0-to-127-default
returns-in-0-to-127-default c = ascii_run _ c.in_ok-first.first _ c.in_ok-first.rest.now (search rules) (omega arith) c.ascii_front.ensures

pub returns-in-194-to-223-len1-up : goal.returns-in-194-to-223-len1-up
returns-in-194-to-223-len1-up c = search (rules, whole_2)

pub returns-in-224-to-239-len2-up : goal.returns-in-224-to-239-len2-up
returns-in-224-to-239-len2-up c = search (rules, whole_3)

pub returns-in-240-to-244-len3-up : goal.returns-in-240-to-244-len3-up
returns-in-240-to-244-len3-up c = search (rules, whole_4)
