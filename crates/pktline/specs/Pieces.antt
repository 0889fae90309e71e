-- Pieces of a capture.
use Rattle.std.specs.Prelude.{◌≡◌, ℕ, List, drop}

-- r is what stands in s behind its first bytes
abbrev pub IsEnd : List ℕ → List ℕ → Type 0
IsEnd r s = (n : ℕ) × (r ≡ drop n s)
