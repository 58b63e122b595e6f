use Rattle.std.proofs.Common.{refl}
use Rattle.cases.proofs.worked_cases.Goals as goal
use Rattle.rows.specs.Enumeration.{rows_on}

pub returns : goal.returns
unfolding rows_on
returns c = record { number = refl; yielded = (refl, (refl, (refl, (refl, tt)))) }
