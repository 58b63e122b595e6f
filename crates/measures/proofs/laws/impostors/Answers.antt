use Rattle.measures.proofs.Impostors.{all_equal_lawful, no_largest_then_sum, no_voices_moving}
use Rattle.measures.proofs.laws.impostors.Goals as goal

pub returns-clause-none : goal.returns-clause-none
returns-clause-none g c = (no_largest_then_sum, (no_voices_moving, tt))

pub returns-clause-flat : goal.returns-clause-flat
returns-clause-flat g c = all_equal_lawful
