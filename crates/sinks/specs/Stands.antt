-- Where each sink stands.
use Rattle.std.specs.Prelude.{ℕ, ◌+◌, ◌-◌, min, List, [], ◌∷◌, ◌++◌, map, length, take, drop, replicate}
use Rattle.links.specs.Slots.{Slot, place, interrupts, fails, Stand}
use Rattle.traces.specs.declared.Step.{Step}
use Rattle.traces.specs.declared.Step.TheVariants as steps
use Rattle.traces.specs.Steps.{step_of_pair, steps_in}
use Rattle.sinks.specs.declared.memory.Memory.{Memory}
use Rattle.sinks.specs.declared.trace.Trace.{Trace}

-- bytes put into a memory at a place
abbrev pub put : List ℕ → ℕ → List ℕ → List ℕ
put memory at bytes = take at memory ++ (bytes ++ drop (at + length bytes) memory)

-- a sink whose memory is filled up to a place
abbrev pub filled_stand : ℕ → List ℕ → ℕ → List Slot → Stand
filled_stand home memory filled room = record { home = home; accepted = take filled memory; beyond = drop filled memory; room = room }

-- a place for each byte that is not filled
abbrev pub memory_stand : Memory → Stand
memory_stand s = filled_stand s.memory.ghost_name s.memory.now s.filled (replicate (length s.memory.now - s.filled) place)

-- a lent memory of which nothing is filled
abbrev pub fresh : ℕ → List ℕ → Stand
fresh home memory = record { home = home; accepted = []; beyond = memory; room = replicate (length memory) place }

-- what the steps have of so many free bytes
abbrev pub slots : ℕ → List Step → List Slot
slots free [] = []
slots free (steps.Bytes n ∷ rest) = replicate (min n free) place ++ slots (free - n) rest
slots free (steps.Interruption ∷ rest) = interrupts ∷ slots free rest
slots free (steps.Fault k ∷ rest) = fails k ∷ slots free rest

-- the step that was begun last, with the places that it still has, and then the other steps
abbrev pub trace_room : Trace → List Slot
trace_room s = slots (length s.memory.now - s.filled) (steps.Bytes s.piece ∷ map step_of_pair s.steps.now)

abbrev pub trace_stand : Trace → Stand
trace_stand s = filled_stand s.memory.ghost_name s.memory.now s.filled (trace_room s)

-- a lent memory in lent steps, of which nothing is filled
abbrev pub fresh_trace : ℕ → List ℕ → List ℕ → Stand
fresh_trace home memory coded = record { home = home; accepted = []; beyond = memory; room = slots (length memory) (steps_in coded) }
