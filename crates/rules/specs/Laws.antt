-- What holds of every reader, whatever is called.
use Rattle.std.specs.Prelude.{ℕ, Bool, List, Option, Result}
use Rattle.lines.specs.Refusals.{Refusal}
use Rattle.lines.specs.Format.{Line}
use Rattle.links.specs.Items.{Item}
use Rattle.rules.specs.Readers.{Stops, Reader, Sound, new_reader, ReadLine, PeekLine, ReplaceAndTruncate, reset, reset_with, fail_on_err_lines, replaced}

-- stopped_at names a marker of the stop set: of a new reader, and behind every call
pub record StaysSound : Type 0 where
  pub new : (s : Stops) → Sound (new_reader s)
  pub reads : (r r' : Reader) (items rest : List Item) (a : Option (Result Line Refusal)) → Sound r → ReadLine r items a r' rest → Sound r'
  pub peeks : (r r' : Reader) (items rest : List Item) (a : Option (Result Line Refusal)) → Sound r → PeekLine r items a r' rest → Sound r'
  pub edits : (r r' : Reader) (position b : ℕ) (a : Result Unit Refusal) → Sound r → ReplaceAndTruncate r position b a r' → Sound r'
  pub resets : (r : Reader) → Sound (reset r)
  pub resets_with : (s : Stops) (r : Reader) → Sound (reset_with s r)
  pub flags : (on : Bool) (r : Reader) → Sound r → Sound (fail_on_err_lines on r)
  pub replaces : (r : Reader) → Sound (replaced r)
