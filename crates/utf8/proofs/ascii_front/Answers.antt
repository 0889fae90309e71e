use Rattle.std.proofs.Common.{rules, Some, None, arith}
use borrow.Author.Tests.{tests}
use Rattle.std.proofs.lemmas.Iterator.{IsFirst-from_position, YieldsList-from_slice}
use Rattle.utf8.specs.Fronts.{AsciiFront}
use Rattle.utf8.proofs.Blocks.{blocks_front, all_front}
use Rattle.utf8.proofs.ascii_front.Goals as goal

pub returns-in-Some : goal.returns-in-Some
returns-in-Some c =
    let f = IsFirst-from_position _ _ (Some c.in-Some.n) (λ b. Unit {0}) (λ b. AsciiFront b 32) c.in-Some.ensures.ran (YieldsList-from_slice c.as_chunks.result.0.now cc) (λ x q k. tt) (λ x q k. search (rules, tests)) in
    blocks_front 32 _ c.in-Some.n _ c.args.bytes.now _ c.as_chunks.ensures.front (omega arith) f.2 c.ascii_lanes.ensures

pub returns-in-None : goal.returns-in-None
returns-in-None c =
    let f = IsFirst-from_position _ _ None (λ b. Unit {0}) (λ b. AsciiFront b 32) c.in-None.ensures.ran (YieldsList-from_slice c.as_chunks.result.0.now cc) (λ x q k. tt) (λ x q k. search (rules, tests)) in
    all_front 32 _ c.args.bytes.now _ c.as_chunks.ensures.front c.as_chunks.ensures.front_len f
