-- What the words of a script mean.
use Rattle.std.specs.Prelude.{◌≡◌, ℕ, cond, ◌&&◌, List, [], ◌∷◌, length, Some, None, vec_items, codes, Option, ◌==◌}
use Rattle.hex_digits.specs.Digits.{digit, joined}
use Rattle.lines.specs.Format.{Line, payload, flush, delimiter, response_end}
use Rattle.lines.specs.Meaning.{line_of}
use Rattle.replay.specs.declared.script.ScriptFault.{ScriptFault}
use Rattle.replay.specs.declared.script.ScriptFault.TheVariants.{Call, Bytes, Band, Number, Memory}
use Rattle.replay.specs.declared.terms.ScriptLine.{ScriptLine}
use Rattle.replay.specs.declared.terms.ScriptLine.TheVariants.{Payload, Named}

abbrev pub before : Option ℕ → Option (List ℕ) → Option (List ℕ)
before (Some b) (Some bs) = Some (b ∷ bs)
before (Some b) None = None
before None bs = None

-- the bytes that pairs of hexadecimal digits write
abbrev pub pairs : List ℕ → Option (List ℕ)
pairs [] = Some []
pairs (high ∷ []) = None
pairs (high ∷ (low ∷ rest)) = before (joined 16 (digit high) (digit low)) (pairs rest)

-- the bytes of a word: `h` and pairs, or `-` alone for none
abbrev pub term : List ℕ → Option (List ℕ)
term [] = None
term (c ∷ rest) = cond (c == 104) (pairs rest) (cond (c == 45 && length rest == 0) (Some []) None)

-- the word w is this line: a marker by its name, a payload by its bytes
abbrev pub IsLine : List ℕ → Line → Type 0
IsLine w (payload d) = term w ≡ Some d
IsLine w flush = w ≡ codes "flush"
IsLine w delimiter = w ≡ codes "delim"
IsLine w response_end = w ≡ codes "end"

-- a word was refused as bytes, so P holds; or there was no memory for it
abbrev pub NoBytes : Type 0 → ScriptFault → Type 0
NoBytes P Call = ⊥
NoBytes P Bytes = P
NoBytes P Band = ⊥
NoBytes P Number = ⊥
NoBytes P Memory = Unit {0}

-- the line that a script writes out
abbrev pub written_line : ScriptLine → Line
written_line (Payload d) = payload (vec_items d)
written_line (Named l) = line_of l
