-- The steps of a trace.
use Rattle.std.specs.Prelude.{ℕ, if◌then◌else◌, List, [], ◌∷◌, ◌==◌, slice_index}
use Rattle.traces.specs.declared.Step.{Step}
use Rattle.traces.specs.declared.Step.TheVariants.{Bytes, Interruption, Fault}

-- kind 0 is bytes, kind 2 is a fault, and any other kind an interruption
abbrev pub step_of : ℕ → ℕ → Step
step_of kind amount = if kind == 0 then Bytes amount else if kind == 2 then Fault amount else Interruption

-- a pair of bytes is a kind and an amount
abbrev pub step_of_pair : List ℕ → Step
step_of_pair pair = step_of (slice_index pair 0) (slice_index pair 1)

-- the steps of a list of bytes, two bytes each; an incomplete last step is void
abbrev pub steps_in : List ℕ → List Step
steps_in [] = []
steps_in (kind ∷ []) = []
steps_in (kind ∷ amount ∷ rest) = step_of kind amount ∷ steps_in rest
