-- What the values of the code stand for.
use Rattle.std.specs.Prelude.{◌≡◌, ℕ, List, take, drop, Ok, Err, Result}
use Rattle.lines.specs.Refusals.{Refusal}
use Rattle.lines.specs.Format.{Line, payload, flush, delimiter, response_end}
use Rattle.lines.specs.Decoding.{Prefix, marks, wants, prefix, limited, Fits}
use Rattle.lines.specs.Meaning.{answered, decode_refusal}
use Rattle.links.specs.Refusals.{ended, source_faults, takes_none, sink_faults}
use Rattle.links.specs.Items.{Item}
use Rattle.links.specs.Cut.{first_unit}
use Rattle.links.specs.declared.source.ReadFault.{ReadFault}
use Rattle.links.specs.declared.source.ReadFault.TheVariants as reads
use Rattle.links.specs.declared.sink.WriteFault.{WriteFault}
use Rattle.links.specs.declared.sink.WriteFault.TheVariants as writes
use Rattle.links.specs.declared.unit.Marker.{Marker}
use Rattle.links.specs.declared.unit.Marker.TheVariants.{Flush, Delimiter, ResponseEnd}
use Rattle.links.specs.declared.unit.LineKind.{LineKind}
use Rattle.links.specs.declared.unit.LineKind.TheVariants as kinds
use Rattle.links.specs.declared.unit.UnitFault.{UnitFault}
use Rattle.links.specs.declared.unit.UnitFault.TheVariants as faults

-- the row of the table that a fault belongs to
abbrev pub read_refusal : ReadFault → Refusal
read_refusal reads.Ended = ended
read_refusal (reads.Fault e) = source_faults e.number

abbrev pub write_refusal : WriteFault → Refusal
write_refusal writes.WriteZero = takes_none
write_refusal (writes.Fault e) = sink_faults e.number

abbrev pub unit_refusal : UnitFault → Refusal
unit_refusal (faults.Decode e) = decode_refusal e
unit_refusal (faults.Link e) = read_refusal e

-- an answer that tells only whether it went well
abbrev pub done_or : {E : Type 0} → (E → Refusal) → Result Unit E → Result Unit Refusal
done_or f r = answered (λ u. u) f r

abbrev pub marker_line : Marker → Line
marker_line Flush = flush
marker_line Delimiter = delimiter
marker_line ResponseEnd = response_end

-- the line of a kind that a memory holds: its payload stands behind the four bytes of its prefix
abbrev pub line_in : List ℕ → LineKind → Line
line_in memory (kinds.Marker m) = marker_line m
line_in memory (kinds.Data n) = payload (take n (drop 4 memory))

-- what the prefix of a line of that kind announces
abbrev pub prefix_of_kind : LineKind → Prefix
prefix_of_kind (kinds.Marker m) = marks (marker_line m)
prefix_of_kind (kinds.Data n) = wants n

-- where a line was taken, its prefix stands in front of the memory
abbrev pub Prefixed : List ℕ → Result LineKind UnitFault → Type 0
Prefixed memory (Ok k) = (limited (prefix (take 4 memory)) ≡ Ok (prefix_of_kind k)) × Fits (prefix_of_kind k)
Prefixed memory (Err e) = Unit {0}

-- one unit is taken: the answer is the first unit's, the memory holds its line, and the source has left what the cut leaves
pub record TakesUnit (items : List Item) (r : Result LineKind UnitFault) (rest : List Item) (memory : List ℕ) : Type 0 where
  pub line : (first_unit items).line ≡ answered (line_in memory) unit_refusal r
  pub leaves : (first_unit items).rest ≡ rest
  pub prefixed : Prefixed memory r
