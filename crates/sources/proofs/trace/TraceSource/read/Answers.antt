use Rattle.std.proofs.Common.{◌++◌, map, sym, refl, ap, ◌∙◌, rules}
use Rattle.traces.specs.Steps.{step_of_pair}
use Rattle.traces.proofs.Pairs.{behind}
use Rattle.sources.specs.Lists.{given_by}
use Rattle.sources.proofs.Stepping.{ends, begins, spends}
use Rattle.sources.proofs.Giving.{gives_none}
use Rattle.sources.proofs.trace.TraceSource.read.Goals as goal

pub returns-in_default : goal.returns-in_default
returns-in_default c =
    let s = c.steps.self in
    gives_none _ _ _ c.steps.invariant (ends s.piece.bytes.now s.bytes.now s.steps.now _ c.left.ensures.is (search rules) (search rules))

pub steps-preserved : goal.steps-preserved
steps-preserved c =
    let s = c.steps.self in
    let split = c.split_at.ensures in
    let behind = given_by c.split_at.result.1.now (map step_of_pair (behind s.steps.now)) in
    ap (λ l. l ++ behind) c.new-self.ensures
    ∙ (begins s.piece.bytes.now s.bytes.now s.steps.now _ c.left.ensures.is (search rules) _ (search rules) c.from.ensures _ _ _ _ (search rules) c.min.ensures split.front split.back ∙ c.steps.invariant)

pub returns-in-Interruption : goal.returns-in-Interruption
returns-in-Interruption c =
    let s = c.steps.self in
    let spent = spends s.piece.bytes.now s.bytes.now s.steps.now _ c.left.ensures.is (search rules) _ (search rules) c.from.ensures _ (search rules) in
    record { asked = search rules; spent = sym c.steps.invariant ∙ spent; kept = refl }

pub returns-in-Fault : goal.returns-in-Fault
returns-in-Fault c =
    let s = c.steps.self in
    let spent = spends s.piece.bytes.now s.bytes.now s.steps.now _ c.left.ensures.is (search rules) _ (search rules) c.from.ensures _ (search rules) in
    record { asked = search rules; spent = sym c.steps.invariant ∙ spent; kept = refl }
