-- Worked examples of the format, as one statement.
use Rattle.std.specs.Prelude.{◌≡◌, [], ◌∷◌, Some, None, Ok, Err, codes}
use Rattle.lines.specs.Refusals.{refused}
use Rattle.lines.specs.Format.{payload, error_line, text_line, encoded, band}
use Rattle.lines.specs.Decoding.{wants, incomplete, decoded, prefix, streamed}

pub record Examples : Type 0 where
  pub short_text : decoded (codes "0006a\n") ≡ Ok (payload (codes "a\n"))
  pub longer_text : decoded (codes "000bfoobar\n") ≡ Ok (payload (codes "foobar\n"))
  pub upper_case : prefix (codes "000A") ≡ Ok (wants 6)
  pub three : prefix (codes "0003") ≡ Err (refused 2 None)
  pub four : prefix (codes "0004") ≡ Err (refused 3 None)
  pub no_digit : prefix (codes "00g5") ≡ Err (refused 1 None)
  pub longest : prefix (codes "fff0") ≡ Ok (wants 65516)
  pub longest_waits : streamed (codes "fff0") ≡ Ok (incomplete 65516)
  pub longer : streamed (codes "fff1") ≡ Err (refused 4 (Some 65521))
  pub two_bytes : streamed (codes "00") ≡ Ok (incomplete 2)
  pub band_four : band (4 ∷ []) ≡ Err (refused 10 (Some 4))
  pub error_x : encoded (error_line (codes "x")) ≡ codes "0009ERR x"
  pub text_a : encoded (text_line (codes "a\n")) ≡ codes "0007a\n\n"
