use Rattle.std.proofs.Common.{◌≡◌, ◌++◌, take, drop}
use Rattle.house.proofs.table.CountTableCosts.tell.Given as goal

abbrev pub invariant-loop-i : goal.invariant-loop-i
invariant-loop-i l = l.line ≡ take l.i l.cost.counts ++ drop l.i l.initial.line
