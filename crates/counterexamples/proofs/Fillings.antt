-- The services of a session that are made beside its trials.
use Rattle.std.proofs.Common.{◌≡◌, ℕ, true, false, List, [], ◌∷◌, ◌++◌, map, codes, refl}
use Rattle.hex_digits.specs.Digits.{length_field}
use Rattle.links.specs.Items.{Item, byte}
use Rattle.rules.specs.Handlers.{quiet}
use Rattle.rules.specs.Readers.{Reader, verdict, read_after, left_in}
use Rattle.rules.specs.Sessions.{Place, Way, destination, passes, moved, Fills, ends, goes_on, fills, fills_first, shows_window, copies}
use Rattle.service_law.specs.Along.{at_end, next}
use Rattle.service_law.specs.Calls.{plainly, with_handler}
use Rattle.counterexamples.specs.Trials.{two_windows, hi, empty_text, first_fill, two_fills, empty_read}
use Rattle.counterexamples.proofs.Made.{Made}

-- where the next line goes
abbrev place_of : Way → Reader → List Item → Place
place_of way r items = destination way (verdict r items)

-- a fill ends with that line, or goes on behind it
module _ {way : Way} {r : Reader} {items : List Item} {h : ℕ} where
  stops_here : passes quiet h (place_of way r items) ≡ false →
      Fills quiet way r items h (place_of way r items) (read_after r items) (left_in r.phase items) (moved quiet h (place_of way r items))
  stops_here e = ends refl e (record { answers = refl; becomes = refl; leaves = refl }) refl

  passes_here : {last : Place} {r' : Reader} {rest : List Item} {h' : ℕ} → passes quiet h (place_of way r items) ≡ true →
      Fills quiet way (read_after r items) (left_in r.phase items) (moved quiet h (place_of way r items)) last r' rest h' → Fills quiet way r items h last r' rest h'
  passes_here e more = goes_on refl e (record { answers = refl; becomes = refl; leaves = refl }) refl more

-- a fill behind a text, and behind an empty one; two fills; and a read into no bytes
pub text_told : Made hi first_fill (λ b. b.handlers) (1 ∷ [])
unfolding length_field
text_told =
    record {
      end = _;
      runs = next (plainly refl refl refl) (next (with_handler refl refl (fills_first refl (fills refl (passes_here refl (stops_here refl)) refl refl) shows_window refl) refl) at_end);
      ends = refl;
    }

pub empty_text_told : Made empty_text first_fill (λ b. b.handlers) (1 ∷ [])
unfolding length_field
empty_text_told =
    record {
      end = _;
      runs = next (plainly refl refl refl) (next (with_handler refl refl (fills_first refl (fills refl (passes_here refl (stops_here refl)) refl refl) shows_window refl) refl) at_end);
      ends = refl;
    }

pub two_filled : Made two_windows (two_fills (codes "a") (codes "b")) (λ b. b.left) []
unfolding length_field
two_filled =
    record {
      end = _;
      runs = next (plainly refl refl refl) (next (with_handler refl refl (fills_first refl (fills refl (stops_here refl) refl refl) shows_window refl) refl)
          (next (plainly refl refl refl) (next (with_handler refl refl (fills_first refl (fills refl (stops_here refl) refl refl) shows_window refl) refl) at_end)));
      ends = refl;
    }

pub read_of_none : Made two_windows empty_read (λ b. b.left) (map byte (codes "0006" ++ (1 ∷ 98 ∷ [])))
unfolding length_field
read_of_none =
    record {
      end = _;
      runs = next (plainly refl refl refl) (next (with_handler refl refl (fills_first refl (fills refl (stops_here refl) refl refl) (copies refl) refl) refl) at_end);
      ends = refl;
    }
