use Rattle.std.proofs.Common.{◌≡◌, ◌+◌, ◌*◌, ◌<◌, ◌≤◌, leb, length, Ok, Err, sym, ap, ◌∙◌, subst, mul-le-mul_right, arith}
use Rattle.rows.specs.Tables.{rows_of_each, together}
use Rattle.rows.proofs.Adding.{add_past, added_more, few_each, upto_within}
use Rattle.harmony.specs.declared.refusal.Refusal.TheVariants.{ShortRowTable}
use Rattle.rows.proofs.progression.add_up.Goals as goal
use Rattle.std.proofs.lemmas.Bool.{cond-false, lt-leb}

pub rows_of-rows-requires : goal.rows_of-rows-requires
rows_of-rows-requires c =
    few_each c.args.voices.now c.args.chords.now c.loop-chord.chord-index c.chord-item.result (omega arith) c.chord-item.is c.requires

pub returns-then-free-rows-clause-answer : goal.returns-then-free-rows-clause-answer
returns-then-free-rows-clause-answer c =
    let voices = c.args.voices.now in
    let chords = c.args.chords.now in
    let all = length (together (rows_of_each voices chords)) in
    let same : c.number-width.result ≡ voices.count.number = c.number-width.ensures ∙ ap (λ v. v.number) c.count.ensures in
    let more = added_more voices chords c.loop-chord.chord-index c.chord-item.result (omega arith) c.chord-item.is c.loop-chord.total c.rows_of-rows.result c.loop-chord.invariant.1 c.rows_of-rows.ensures in
    sym
    (cond-false (leb (all * voices.count.number) c.args.room) (Ok all) (Err ShortRowTable)
    (lt-leb (all * voices.count.number) c.args.room
    (subst (λ w. c.args.room < all * w) same
    (add_past c.loop-chord.total c.rows_of-rows.result c.number-width.result c.loop-chord.free c.args.room all c.if-free-rows.true c.loop-chord.invariant.0
    (omega (arith, more, upto_within voices chords (c.loop-chord.chord-index + 1)))))))

pub overflow_mul-rows : goal.overflow_mul-rows
overflow_mul-rows c =
    let few : c.rows_of-rows.result ≤ 256 =
    subst (λ k. k ≤ 256) (sym c.rows_of-rows.ensures)
    (few_each c.args.voices.now c.args.chords.now c.loop-chord.chord-index c.chord-item.result (omega arith) c.chord-item.is c.requires) in
    let same : c.number-width.result ≡ c.args.voices.now.count.number = c.number-width.ensures ∙ ap (λ v. v.number) c.count.ensures in
    omega (arith, mul-le-mul_right c.number-width.result few, same, c.args.voices.now.count.most)
