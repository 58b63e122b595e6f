use Rattle.std.proofs.Common.{◌*◌, ◌≤◌, length, sym, ap, ◌∙◌, subst, arith}
use Rattle.rows.proofs.Filling.{found_table}
use Rattle.rows.proofs.Gapless.{wide}
use Rattle.rows.proofs.table.write.Goals as goal

pub returns-clause-table : goal.returns-clause-table
returns-clause-table c =
    let voices = c.args.voices.now in
    let same = c.number.ensures ∙ ap (λ v. v.number) c.count-2.ensures in
    let room = subst (λ w. c.in_ok-rows.rows * w ≤ length c.args.part.now) same (omega arith) in
    found_table voices.count.number _ c.args.part.now c.find.new.table c.in_ok-rows.rows c.find.result (wide voices c.args.chord.now) (sym c.in_ok-rows.ensures.answer) room c.find.ensures.found
