use Rattle.std.proofs.Common.{arith}
use Rattle.harmony.proofs.Slashes.{before_is, behind_is}
use Rattle.harmony.proofs.symbol.split.Goals as goal
use Rattle.std.proofs.lemmas.Grind.{common_steps}

pub returns-in-Some-clause-before : goal.returns-in-Some-clause-before
returns-in-Some-clause-before c = grind (arith, common_steps, before_is c.args.text.now, c.in-Some.ensures)

pub returns-in-Some-clause-behind : goal.returns-in-Some-clause-behind
returns-in-Some-clause-behind c = grind (arith, common_steps, behind_is c.args.text.now, c.in-Some.ensures)

pub returns-in-None-clause-before : goal.returns-in-None-clause-before
returns-in-None-clause-before c = grind (arith, common_steps, before_is c.args.text.now, c.in-None.ensures)

pub returns-in-None-clause-behind : goal.returns-in-None-clause-behind
returns-in-None-clause-behind c = grind (arith, common_steps, behind_is c.args.text.now, c.in-None.ensures)
