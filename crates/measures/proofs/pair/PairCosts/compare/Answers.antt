use Rattle.std.proofs.Common.{rules}
use Rattle.measures.specs.PairsLemmas.{order_halves}
use Rattle.measures.proofs.pair.PairCosts.compare.Goals as goal

pub returns : goal.returns
returns g c =
    let halves = order_halves (g.A.Costs.reading c.args.self.now.first) (g.B.Costs.reading c.args.self.now.second) (g.met.A.StrictMeasure.lawful c.args.self.now.first) c.args.one.now c.args.other.now in
    search rules
