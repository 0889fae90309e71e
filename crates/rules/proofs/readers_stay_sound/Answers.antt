use Rattle.std.proofs.Common.{arith}
use Rattle.rules.proofs.readers_stay_sound.Goals as goal

pub returns : goal.returns
returns c =
    record {
      new = λ s. tt;
      reads = λ r r' items rest a h c. grind arith;
      peeks = λ r r' items rest a h c. grind arith;
      edits = λ r r' position b a h c. grind arith;
      resets = λ r. grind arith;
      resets_with = λ s r. grind arith;
      flags = λ on r h. h;
      replaces = λ r. tt;
    }
