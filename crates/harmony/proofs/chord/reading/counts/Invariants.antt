use Rattle.std.proofs.Common.{◌≡◌, map}
use Rattle.harmony.specs.Chords.{tally}
use Rattle.harmony.specs.Symbols.{classes_above}
use Rattle.harmony.proofs.chord.reading.counts.Given as goal

abbrev pub invariant-loop-tone : goal.invariant-loop-tone
invariant-loop-tone l =
    record {
      next : (goal.iterator-loop-tone).can_next l.tone-iterator;
      ends : (goal.iterator-loop-tone).is_finite l.tone-iterator;
      so_far : l.counts ≡ tally (classes_above l.root.index (map (λ t. t.now) l.yielded));
    }
