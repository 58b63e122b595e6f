use Rattle.std.proofs.Common.{◌≡◌, rules, arith, tests, length}
use Rattle.std.proofs.lemmas.Iterator.{YieldsList-from_slice}
use Rattle.std.proofs.lemmas.Iterator.Consumers.{YieldsList-at}
use Rattle.std.proofs.lemmas.Iterator.Adapters.{fits_from_length, at_most_from_yields_List}
use Rattle.house.proofs.table.CountTableCosts.count.Goals as goal

pub sum-counted-requires-clause-fits : goal.sum-counted-requires-clause-fits
sum-counted-requires-clause-fits c =
    let whole : length c.args.cost.now.counts ≡ 24 = c.args.cost.now.whole in
    fits_from_length _ _ 24 _ (at_most_from_yields_List (YieldsList-at c.map.ensures.source (YieldsList-from_slice c.args.cost.now.counts c.iter.ensures.rest)) (omega arith)) c.map.ensures.closure (omega arith) (λ x r q k. search (rules, tests))
