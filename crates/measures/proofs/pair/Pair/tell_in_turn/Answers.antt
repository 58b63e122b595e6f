use Rattle.std.proofs.Common.{rules}
use Rattle.measures.proofs.Meanings.{strictly_lawful_lists}
use Rattle.measures.proofs.Totals.{heard_fits}
use Rattle.measures.specs.PairsLemmas.{in_turn}
use Rattle.measures.specs.Totals.{heard}
use Rattle.measures.proofs.pair.Pair.tell_in_turn.Goals as goal

pub returns-clause-line : goal.returns-clause-line
returns-clause-line g c =
    let turn = in_turn (g.A.Costs.reading c.args.self.now.first) (g.B.Costs.reading c.args.self.now.second) (g.met.A.StrictMeasure.lawful c.args.self.now.first) (heard c.args.numbers.now) (heard_fits c.args.numbers.now) in
    search rules

pub returns-clause-turn : goal.returns-clause-turn
returns-clause-turn g c = in_turn (g.A.Costs.reading c.args.self.now.first) (g.B.Costs.reading c.args.self.now.second) (g.met.A.StrictMeasure.lawful c.args.self.now.first)

pub returns-clause-strict : goal.returns-clause-strict
returns-clause-strict g c = strictly_lawful_lists (g.A.Costs.reading c.args.self.now.first) (g.met.A.StrictMeasure.lawful c.args.self.now.first)
