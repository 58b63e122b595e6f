use Rattle.measures.specs.Orders.{order_means}
use Rattle.measures.proofs.figures.compare_lines.Goals as goal

pub returns-clause-means : goal.returns-clause-means
returns-clause-means c = order_means c.args.one.now c.args.other.now
