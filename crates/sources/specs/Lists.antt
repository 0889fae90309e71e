-- The list of each source.
use Rattle.std.specs.Prelude.{ℕ, List, [], ◌∷◌, ◌++◌, map, take, drop}
use Rattle.links.specs.Items.{Item, byte, interruption, fault}
use Rattle.traces.specs.declared.Step.{Step}
use Rattle.traces.specs.declared.Step.TheVariants as steps
use Rattle.traces.specs.Steps.{step_of_pair, steps_in}
use Rattle.sources.specs.declared.memory.Memory.{Memory}
use Rattle.sources.specs.declared.trace.Trace.{Trace}

-- the lent bytes that are left
abbrev pub memory_list : Memory → List Item
memory_list m = map byte m.bytes.now

-- what the steps give of the bytes
abbrev pub given_by : List ℕ → List Step → List Item
given_by bytes [] = []
given_by bytes (steps.Bytes n ∷ rest) = map byte (take n bytes) ++ given_by (drop n bytes) rest
given_by bytes (steps.Interruption ∷ rest) = interruption ∷ given_by bytes rest
given_by bytes (steps.Fault k ∷ rest) = fault k ∷ given_by bytes rest

-- lent bytes in lent steps
abbrev pub steps_list : List ℕ → List ℕ → List Item
steps_list bytes coded = given_by bytes (steps_in coded)

-- what is still to come of the step that was begun last, and then the other steps
abbrev pub trace_list : Trace → List Item
trace_list t = memory_list t.piece ++ given_by t.bytes.now (map step_of_pair t.steps.now)
