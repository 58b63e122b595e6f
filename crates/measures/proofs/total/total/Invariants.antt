use Rattle.std.proofs.Common.{◌≡◌, take}
use Rattle.measures.proofs.total.total.Given as goal
use Rattle.measures.specs.Totals.{total}

abbrev pub invariant-loop-number : goal.invariant-loop-number
invariant-loop-number g l = l.cost ≡ total (g.M.Costs.reading l.measure) (take l.number-index l.numbers)
