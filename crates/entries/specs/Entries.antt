-- What stands in a capture.
use Rattle.std.specs.Prelude.{◌≡◌, ℕ, Bool, cond, List, length, take, drop, Some, None, Ok, Err, Option, Result, ◌==◌}
use Rattle.std.specs.Option.{option_map}
use Rattle.lines.specs.Refusals.{Refusal}
use Rattle.lines.specs.Format.{Line}
use Rattle.lines.specs.Decoding.{Streamed, complete, incomplete, streamed}
use Rattle.lines.specs.Meaning.{line_of, decode_refusal}
use Rattle.entries.specs.declared.entry.Entry.{Entry}
use Rattle.entries.specs.declared.entry.Entry.TheVariants as entries

-- a line with all its bytes; four bytes that are refused as a prefix; or the first bytes of a line, with the bytes that are there and those that are missing
pub data Found : Type 0 where
  line : Line → ℕ → Found
  refused : List ℕ → Refusal → Found
  cut : ℕ → ℕ → Found

-- what the bytes s are under the format's answer on them; a part of a line is an entry only at the end of the capture
abbrev pub entered_by : Bool → List ℕ → Result Streamed Refusal → Option Found
entered_by at_end s (Ok (complete l n)) = Some (line l n)
entered_by at_end s (Ok (incomplete n)) = cond at_end (Some (cut (length s) n)) None
entered_by at_end s (Err e) = Some (refused (take 4 s) e)

-- the entry that the bytes s begin with
abbrev pub entered : Bool → List ℕ → Option Found
entered at_end s = cond (length s == 0) None (entered_by at_end s (streamed s))

-- how many bytes an entry takes
abbrev pub size : Found → ℕ
size (line l n) = n
size (refused p e) = 4
size (cut n m) = n

-- what an entry of the code stands for
abbrev pub entry_of : Entry → Found
entry_of (entries.Line l n) = line (line_of l) n
entry_of (entries.Refused p e) = refused p.now (decode_refusal e)
entry_of (entries.Cut n m) = cut n m

-- the bytes behind the entry that s begins with, if it begins with one
abbrev pub behind : Option Found → List ℕ → List ℕ
behind None s = s
behind (Some e) s = drop (size e) s

-- the entry e, if there is one, is taken off the bytes s, and the bytes t are left
pub record Taken (at_end : Bool) (s : List ℕ) (e : Option Entry) (t : List ℕ) : Type 0 where
  pub is : option_map entry_of e ≡ entered at_end s
  pub rest : t ≡ behind (entered at_end s) s
