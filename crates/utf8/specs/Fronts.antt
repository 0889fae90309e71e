-- What stands at the front of octets, and may be cut off there.
use Rattle.std.specs.Prelude.{◌≡◌, ℕ, ◌<◌, ◌≤◌, List, [], length, drop, slice_index}
use Rattle.utf8.specs.Rfc3629.{Octets}

-- no character stands at the front of s
abbrev pub NoCharacter : List ℕ → Type 0
NoCharacter s = Octets s → s ≡ []

-- each is UTF-8 where the other is
abbrev pub Alike : List ℕ → List ℕ → Type 0
Alike s t = (Octets s → Octets t) × (Octets t → Octets s)

-- the first n octets of s, at least one, are whole characters
pub record Whole (s : List ℕ) (n : ℕ) : Type 0 where
  pub some : 0 < n
  pub within : n ≤ length s
  pub alike : Alike s (drop n s)

-- the first n octets of s are ASCII
pub record AsciiFront (s : List ℕ) (n : ℕ) : Type 0 where
  pub within : n ≤ length s
  pub each : (k : ℕ) → k < n → slice_index s k < 128
