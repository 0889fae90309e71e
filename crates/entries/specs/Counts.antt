-- The count of entries.
use Rattle.std.specs.Prelude.{◌≡◌, ℕ, ◌+◌, ◌-◌, ◌^◌, min, length, Some, None, Option}
use Rattle.lines.specs.Format.{Line, payload, flush, delimiter, response_end}
use Rattle.entries.specs.Entries.{Found, line, refused, cut, size}
use Rattle.entries.specs.declared.totals.Totals.{Totals}

-- a sum that stays at the largest number of 64 bits
abbrev pub plus : ℕ → ℕ → ℕ
plus a b = min (a + b) (2 ^ 64 - 1)

abbrev pub more : ℕ → Option ℕ → ℕ
more a None = a
more a (Some b) = plus a b

-- what an entry adds to each number
pub record Worth : Type 0 where
  pub data_lines : Option ℕ
  pub flushes : Option ℕ
  pub delimiters : Option ℕ
  pub response_ends : Option ℕ
  pub payload_bytes : Option ℕ
  pub refusals : Option ℕ
  pub missing_bytes : Option ℕ

-- what adds nothing
abbrev pub worthless : Worth
worthless = record { data_lines = None; flushes = None; delimiters = None; response_ends = None; payload_bytes = None; refusals = None; missing_bytes = None }

abbrev pub line_worth : Line → Worth
line_worth (payload d) = record worthless { data_lines = Some 1; payload_bytes = Some (length d) }
line_worth flush = record worthless { flushes = Some 1 }
line_worth delimiter = record worthless { delimiters = Some 1 }
line_worth response_end = record worthless { response_ends = Some 1 }

abbrev pub worth : Found → Worth
worth (line l n) = line_worth l
worth (refused p e) = record worthless { refusals = Some 1 }
worth (cut n m) = record worthless { missing_bytes = Some m }

-- how many refused prefixes stand in a row, with an entry more
abbrev pub row : ℕ → Found → ℕ
row n (line l k) = 0
row n (refused p e) = plus n 1
row n (cut k m) = 0

-- u is the count t with an entry more
pub record Counted (t : Totals) (e : Found) (u : Totals) : Type 0 where
  pub data_lines : u.data_lines ≡ more t.data_lines (worth e).data_lines
  pub flushes : u.flushes ≡ more t.flushes (worth e).flushes
  pub delimiters : u.delimiters ≡ more t.delimiters (worth e).delimiters
  pub response_ends : u.response_ends ≡ more t.response_ends (worth e).response_ends
  pub payload_bytes : u.payload_bytes ≡ more t.payload_bytes (worth e).payload_bytes
  pub refusals : u.refusals ≡ more t.refusals (worth e).refusals
  pub missing_bytes : u.missing_bytes ≡ more t.missing_bytes (worth e).missing_bytes
  pub bytes : u.bytes ≡ plus t.bytes (size e)
  pub in_a_row : u.in_a_row ≡ row t.in_a_row e
  pub undecoded : u.undecoded ≡ t.undecoded

-- u is the count t with n bytes more, none of them decoded
pub record Left (t : Totals) (n : ℕ) (u : Totals) : Type 0 where
  pub data_lines : u.data_lines ≡ t.data_lines
  pub flushes : u.flushes ≡ t.flushes
  pub delimiters : u.delimiters ≡ t.delimiters
  pub response_ends : u.response_ends ≡ t.response_ends
  pub payload_bytes : u.payload_bytes ≡ t.payload_bytes
  pub refusals : u.refusals ≡ t.refusals
  pub missing_bytes : u.missing_bytes ≡ t.missing_bytes
  pub bytes : u.bytes ≡ plus t.bytes n
  pub in_a_row : u.in_a_row ≡ t.in_a_row
  pub undecoded : u.undecoded ≡ plus t.undecoded n
