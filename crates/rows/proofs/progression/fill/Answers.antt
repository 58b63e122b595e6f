use Rattle.std.proofs.Common.{◌≡◌, ◌+◌, ◌*◌, ◌++◌, length, drop, sym, refl, ap, ◌∙◌, arith}
use Rattle.rows.specs.Tables.{flat, rows_for}
use Rattle.rows.proofs.Adding.{upto}
use Rattle.rows.proofs.Gapless.{filled_more}
use Rattle.rows.proofs.progression.fill.Goals as goal

pub unwrap-rows-requires : goal.unwrap-rows-requires
unwrap-rows-requires c =
    let voices = c.args.voices.now in
    let chords = c.args.chords.now in
    let more = filled_more voices chords c.loop-chord.chord-index c.loop-chord.from c.args.end c.chord-item.result c.args.table.now c.loop-chord.table c.write.new.part c.write.result (omega arith) c.chord-item.is c.requires.accepted c.requires.whole c.requires.room c.loop-chord.invariant.0 c.loop-chord.invariant.1 c.write.ensures.answer c.write.ensures.table in
    rw more.is refl

pub loop-chord-preserved : goal.loop-chord-preserved
loop-chord-preserved c =
    let voices = c.args.voices.now in
    let chords = c.args.chords.now in
    let same : c.number-width.result ≡ voices.count.number = c.number-width.ensures ∙ ap (λ v. v.number) c.count.ensures in
    let more = filled_more voices chords c.loop-chord.chord-index c.loop-chord.from c.args.end c.chord-item.result c.args.table.now c.loop-chord.table c.write.new.part c.write.result (omega arith) c.chord-item.is c.requires.accepted c.requires.whole c.requires.room c.loop-chord.invariant.0 c.loop-chord.invariant.1 c.write.ensures.answer c.write.ensures.table in
    let rows : c.unwrap-rows.result ≡ length (rows_for voices c.chord-item.result) = cc (c.unwrap-rows.ensures, more.is) in
    let next : c.loop-chord.from + c.unwrap-rows.result * c.number-width.result ≡ c.loop-chord.from + length (rows_for voices c.chord-item.result) * voices.count.number =
    ap (λ k. c.loop-chord.from + k * c.number-width.result) rows ∙ ap (λ n. c.loop-chord.from + length (rows_for voices c.chord-item.result) * n) same in (
      next ∙ more.next,
      more.table ∙ ap (λ k. flat (upto voices chords (c.loop-chord.chord-index + 1)) ++ drop k c.args.table.now) (sym next),
      omega (arith, next, more.within),
    )
