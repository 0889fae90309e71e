-- What a `&str` may hold, by the grammar.
use Rattle.std.specs.Prelude.{ℕ, List, IsUtf8}
use Rattle.utf8.specs.Rfc3629.{Octets}

-- the grammar has exactly the octets that are text to the standard library
abbrev pub SameGrammar : Type 0
SameGrammar = (s : List ℕ) → (Octets s → IsUtf8 s) × (IsUtf8 s → Octets s)
