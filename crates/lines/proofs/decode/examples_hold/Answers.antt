use Rattle.std.proofs.Common.{refl}
use Rattle.hex_digits.specs.Digits.{length_field}
use Rattle.lines.proofs.decode.examples_hold.Goals as goal

pub returns : goal.returns
unfolding length_field
returns c =
    record {
      short_text = refl;
      longer_text = refl;
      upper_case = refl;
      three = refl;
      four = refl;
      no_digit = refl;
      longest = refl;
      longest_waits = refl;
      longer = refl;
      two_bytes = refl;
      band_four = refl;
      error_x = refl;
      text_a = refl;
    }
