use Rattle.std.proofs.Common.{◌≡◌, map, ◌+◌, ◌≤◌, drop}
use Rattle.traces.specs.Steps.{step_of_pair}
use Rattle.traces.specs.Counts.{both, steps_left}
use Rattle.traces.proofs.Left.of_steps.Given as goal

-- what all steps come to is what is counted, and then what the others come to; no count passes the room and the steps
abbrev pub invariant-loop-step : goal.invariant-loop-step
invariant-loop-step l =
    (steps_left l.room (map step_of_pair l.steps) ≡ both l.left (steps_left l.free (map step_of_pair (drop l.step-index l.steps))))
    × (l.left.bytes + l.free ≡ l.room)
    × (l.left.interruptions + l.left.faults ≤ l.step-index)
