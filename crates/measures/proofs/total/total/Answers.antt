use Rattle.std.proofs.Common.{rules}
use Rattle.measures.proofs.Meanings.{lawful_lists}
use Rattle.measures.proofs.Totals.{totalled}
use Rattle.measures.proofs.total.total.Goals as goal
use Rattle.std.proofs.lemmas.List.{take_all}

pub returns-clause-total : goal.returns-clause-total
returns-clause-total g c =
    let all = take_all c.loop-number.number-index c.args.numbers.now c.loop-number-test.false in
    let totalled = totalled (g.M.Costs.reading c.args.measure.now) (g.met.M.Measure.lawful c.args.measure.now) c.args.numbers.now c.loop-number.cost in
    search rules

pub returns-clause-laws : goal.returns-clause-laws
returns-clause-laws g c = lawful_lists (g.M.Costs.reading c.args.measure.now) (g.met.M.Measure.lawful c.args.measure.now)
