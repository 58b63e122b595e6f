use Rattle.std.proofs.Common.{◌-◌, length, set, sym, ap, ◌∙◌, ◌≤◌, arith}
use Rattle.house.proofs.Lines.{room_from, written_more}
use Rattle.house.proofs.table.CountTableCosts.tell.Goals as goal

pub loop-i-preserved : goal.loop-i-preserved
loop-i-preserved c =
    let line = c.args.line.now in
    let room : 24 ≤ length line = (room_from 24 (length line) (length line - 24) c.in_ok-left.left (sym c.left_behind.ensures ∙ c.in_ok-left.was)).0 in
    ap (λ n. set c.loop-i.line c.loop-i.i n) c.from.ensures
    ∙ written_more c.args.cost.now.counts c.loop-i.line line c.loop-i.i (omega (arith, c.args.cost.now.whole)) (omega (arith, room)) c.loop-i.invariant
