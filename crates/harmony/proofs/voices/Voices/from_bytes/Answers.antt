use Rattle.std.proofs.Common.{arith}
use Rattle.harmony.proofs.Paired.{paired_are}
use Rattle.harmony.proofs.voices.Voices.from_bytes.Goals as goal
use Rattle.std.proofs.lemmas.Grind.{common_steps}

pub returns : goal.returns
returns c = grind (arith, common_steps, paired_are c.args.bytes.now, c.as_chunks.ensures.front, c.bounds_of.ensures, c.new.ensures)
