-- Handlers: who is told the texts of a session.
use Rattle.std.specs.Prelude.{ℕ, ◌+◌, ◌/◌, ◌%◌, min, Bool, true, false, not, ◌||◌, List, ◌∷◌, ◌++◌, length, drop, nat_lt}

-- a text comes on the band of progress or on that of errors
pub data TextBand : Type 0 where
  progress : TextBand
  error : TextBand

abbrev pub band_byte : TextBand → ℕ
band_byte progress = 2
band_byte error = 3

-- what a handler means: how each text that it is told moves its state, and whether it then says go on
pub record Rule (H : Type 0) : Type 0 where
  pub moves : H → TextBand → List ℕ → H
  pub goes_on : H → TextBand → List ℕ → Bool

-- Quiet counts the texts, halts at the largest 32-bit value, and goes on
abbrev pub quiet : Rule ℕ
quiet = record { moves = λ n band t. min (n + 1) 4294967295; goes_on = λ n band t. true }

-- Strict has no state; it goes on at progress, and stops at an error
abbrev pub goes_on_at : TextBand → Bool
goes_on_at progress = true
goes_on_at error = false

abbrev pub strict : Rule Unit
strict = record { moves = λ u band t. u; goes_on = λ u band t. goes_on_at band }

-- Log has a memory: what it wrote, and what stands behind that; and whether it has ceased to write
pub record Logged : Type 0 where
  pub written : List ℕ
  pub beyond : List ℕ
  pub ceased : Bool

-- a text as it is logged: band byte, length in two bytes, the text
abbrev pub logged : TextBand → List ℕ → List ℕ
logged band t = band_byte band ∷ length t / 256 ∷ length t % 256 ∷ t

-- a text that is too long for two bytes, or has no room, or comes after such a one, is not written
abbrev pub ceases : Logged → TextBand → List ℕ → Bool
ceases m band t = m.ceased || (nat_lt 65535 (length t) || nat_lt (length m.beyond) (length (logged band t)))

abbrev pub log_text : Bool → Logged → List ℕ → Logged
log_text true m entry = record m { ceased = true }
log_text false m entry = record { written = m.written ++ entry; beyond = drop (length entry) m.beyond; ceased = false }

abbrev pub log : Rule Logged
log = record { moves = λ m band t. log_text (ceases m band t) m (logged band t); goes_on = λ m band t. not (ceases m band t) }
