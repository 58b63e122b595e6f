use Rattle.std.proofs.Common.{arith}
use Rattle.harmony.specs.Symbols.{reading}
use Rattle.harmony.proofs.Chords.{chord_accepted, chord_foreign}
use Rattle.harmony.proofs.symbol.Symbol.chord.Goals as goal

pub returns-then-counts-from-eq0 : goal.returns-then-counts-from-eq0
returns-then-counts-from-eq0 c =
    chord_foreign _ (reading c.args.self) _ _ _ _ c.tones-tones.ensures.notes c.tones-tones.ensures.doubled
    c.counts-counts.ensures.is c.lowest-bass.ensures (omega arith)
    (rw (c.from.ensures, c.index.ensures) at c.if-counts-from-eq0.true)

pub returns : goal.returns
returns c =
    chord_accepted _ (reading c.args.self) _ _ _ _ c.tones-tones.ensures.notes c.tones-tones.ensures.doubled
    c.counts-counts.ensures.is c.lowest-bass.ensures (omega arith)
    (omega (arith, rw (c.from.ensures, c.index.ensures) at c.if-counts-from-eq0.false))
