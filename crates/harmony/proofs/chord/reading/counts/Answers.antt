use Rattle.std.proofs.Common.{◌≤◌, ◌++◌, length, take, ◌∙◌, arith, rules}
use Rattle.harmony.proofs.Counts.{count_le, counts_all, counts_more}
use Rattle.harmony.proofs.chord.reading.counts.Goals as goal
use Rattle.std.proofs.lemmas.Iterator.{YieldsList-from_slice, YieldsList-from_take}
use Rattle.std.proofs.lemmas.Iterator.Consumers.{YieldsList-from_chain, YieldsList-turn, YieldsList-end}
use Rattle.std.proofs.lemmas.List.{length-append, length-take, length-take-le}

pub overflow_add-counts : goal.overflow_add-counts
overflow_add-counts c =
    let notes = c.args.tones.notes.now in
    let doubled = c.args.tones.doubled.now in
    let n = c.args.voices.number in
    let taken = YieldsList-from_take n (YieldsList-from_chain (YieldsList-from_slice notes (cc)) (YieldsList-from_slice doubled (cc)) (cc) (cc)) (cc) in
    let turn = YieldsList-turn taken c.loop-tone.yielded _ c.loop-tone.yielded_by _ _ c.in-Some.tone c.in-Some.is c.next.ensures.steps in
    omega
    (arith, length-take n (notes ++ doubled), count_le (λ t. t.now) c.args.root.index c.loop-tone.yielded c.from.result c.loop-tone.counts (omega arith) c.loop-tone.invariant.so_far)

pub loop-tone-preserved : goal.loop-tone-preserved
loop-tone-preserved c =
    record {
      next = search rules;
      ends = search rules;
      so_far =
          counts_more (λ t. t.now) c.args.root.index c.loop-tone.yielded c.from.result c.loop-tone.counts (omega arith) c.loop-tone.invariant.so_far c.in-Some.tone (c.from.ensures ∙ c.index.ensures ∙ c.above.ensures);
    }

pub returns : goal.returns
returns c =
    let notes = c.args.tones.notes.now in
    let doubled = c.args.tones.doubled.now in
    let n = c.args.voices.number in
    let few : n ≤ length (notes ++ doubled) = omega (arith, length-append notes doubled) in
    let taken = YieldsList-from_take n (YieldsList-from_chain (YieldsList-from_slice notes (cc)) (YieldsList-from_slice doubled (cc)) (cc) (cc)) (cc) in
    let end = YieldsList-end taken c.loop-tone.yielded _ c.loop-tone.yielded_by _ _ c.in-None.is c.next.ensures.steps in
    let whole = rw end.0 at c.loop-tone.invariant.so_far in
    record {
      is = whole;
      all =
          counts_all c.args.root.index (take n (notes ++ doubled)) c.loop-tone.counts whole
          ∙ length-take-le n (notes ++ doubled) few;
    }
