use Rattle.std.proofs.Common.{◌≡◌, ◌++◌, take, string_bytes}
use Rattle.costlist.proofs.cost_line.add_figures.Given as goal
use Rattle.costlist.specs.CostLines.{spaced}

abbrev pub invariant-loop-figure : goal.invariant-loop-figure
invariant-loop-figure l = string_bytes l.page ≡ string_bytes l.initial.page ++ spaced (take l.figure-index l.figures)
