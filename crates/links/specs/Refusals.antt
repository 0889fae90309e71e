-- The refusals of this layer, by the numbers of docs/REFUSALS.md.
use Rattle.std.specs.Prelude.{ℕ, Some, None}
use Rattle.lines.specs.Refusals.{Refusal, refused}

-- the source has no more before what is wanted is whole
abbrev pub ended : Refusal
ended = refused 6 None

-- the source faults, with the number of the fault
abbrev pub source_faults : ℕ → Refusal
source_faults k = refused 7 (Some k)

-- the sink takes no bytes
abbrev pub takes_none : Refusal
takes_none = refused 19 None

-- the sink faults, with the number of the fault
abbrev pub sink_faults : ℕ → Refusal
sink_faults k = refused 20 (Some k)
