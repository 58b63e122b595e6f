use Rattle.house.proofs.Letters.{told_as}
use Rattle.house.proofs.named.HouseMeasure.tell.Goals as goal
use Rattle.house.specs.declared.named.HouseMeasure.TheVariants.{Largest, Squares, Sum, SumThenLargest, Table}

pub returns-in-Sum-clause-line : goal.returns-in-Sum-clause-line
returns-in-Sum-clause-line c = told_as c.args.self Sum c.in-Sum.is c.args.numbers.now c.args.line.now c.tell_total.ensures.line

pub returns-in-Squares-clause-line : goal.returns-in-Squares-clause-line
returns-in-Squares-clause-line c = told_as c.args.self Squares c.in-Squares.is c.args.numbers.now c.args.line.now c.tell_total-in-Squares.ensures.line

pub returns-in-Largest-clause-line : goal.returns-in-Largest-clause-line
returns-in-Largest-clause-line c = told_as c.args.self Largest c.in-Largest.is c.args.numbers.now c.args.line.now c.tell_total-in-Largest.ensures.line

pub returns-in-Table-clause-line : goal.returns-in-Table-clause-line
returns-in-Table-clause-line c = told_as c.args.self Table c.in-Table.is c.args.numbers.now c.args.line.now c.tell_total-in-Table.ensures.line

pub returns-in-SumThenLargest-clause-line : goal.returns-in-SumThenLargest-clause-line
returns-in-SumThenLargest-clause-line c = told_as c.args.self SumThenLargest c.in-SumThenLargest.is c.args.numbers.now c.args.line.now c.tell_total-in-SumThenLargest.ensures.line
