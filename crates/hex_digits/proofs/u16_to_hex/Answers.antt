use Rattle.std.proofs.Common.{arith, rules}
use Rattle.hex_digits.proofs.Reading.{number_written}
use Rattle.hex_digits.proofs.u16_to_hex.Goals as goal

pub returns-clause-read_back : goal.returns-clause-read_back
returns-clause-read_back c = let p = number_written c.args.value (omega arith) in search rules
