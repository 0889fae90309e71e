-- Decoding, writing and the format's grammar belong together.
use Rattle.std.specs.Prelude.{◌≡◌, ℕ, ◌+◌, ◌<◌, ◌≤◌, List, [], ◌∷◌, ◌++◌, length, Some, Ok, Err, codes}
use Rattle.lines.specs.Refusals.{Refusal}
use Rattle.lines.specs.Format.{Line, Encodes, encoded, payload_of, most_data, message, text, band, on}
use Rattle.lines.specs.Decoding.{complete, incomplete, streamed}

-- a line that may be written: a marker, or a payload of 1 to 65,516 bytes
abbrev pub Sendable : Line → Type 0
Sendable l = (d : List ℕ) → payload_of l ≡ Some d → (0 < length d) × (length d ≤ most_data)

pub record Inverse : Type 0 where
  -- the bytes of a line are read back as that line, whatever follows
  pub reads : (l : Line) (bs rest : List ℕ) → Encodes l bs → streamed (bs ++ rest) ≡ Ok (complete l (length bs))
  -- what is read as a line began with that line's bytes
  pub only : (l : Line) (n : ℕ) (s : List ℕ) → streamed s ≡ Ok (complete l n) → (bs : List ℕ) × (rest : List ℕ) × (s ≡ bs ++ rest) × (length bs ≡ n) × Encodes l bs
  -- what is written for a line is its bytes
  pub writes : (l : Line) → Sendable l → Encodes l (encoded l)
  -- four bytes at hand that are a part of a line become a line with any bytes, as many as it needs
  pub completes : (s t : List ℕ) (n : ℕ) → 4 ≤ length s → streamed s ≡ Ok (incomplete n) → length t ≡ n → (l : Line) × (streamed (s ++ t) ≡ Ok (complete l (length s + n)))
  -- what is refused stays refused, whatever follows
  pub stays_refused : (s t : List ℕ) (e : Refusal) → streamed s ≡ Err e → streamed (s ++ t) ≡ Err e

-- what is put before or behind data in a payload is taken off again
pub record TakenOff : Type 0 where
  pub messages : (d : List ℕ) → message (codes "ERR " ++ d) ≡ Some d
  pub only_messages : (d m : List ℕ) → message d ≡ Some m → d ≡ codes "ERR " ++ m
  pub texts : (d : List ℕ) → text (d ++ (10 ∷ [])) ≡ d
  pub bands : (b : ℕ) (d : List ℕ) → 1 ≤ b → b ≤ 3 → band (b ∷ d) ≡ Ok (on b d)
