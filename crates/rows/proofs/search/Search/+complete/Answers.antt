use Rattle.std.proofs.Common.{◌≡◌, ◌+◌, ◌-◌, ◌<◌, [], ◌++◌, length, Ok, sym, refl, ap, ◌∙◌, subst, arith}
use Rattle.rows.specs.Arrangements.{semitones_of}
use Rattle.rows.specs.Enumeration.{In}
use Rattle.rows.specs.Growth.{Completed, footing_of}
use Rattle.rows.proofs.Completing.{at_voice, below, below_more, below_within, completed_both, completed_past, grown_here, in_below, voice_next, voice_none}
use Rattle.rows.proofs.search.Search.+complete.Goals as goal
use Rattle.rows.proofs.search.Search.+complete.Goals.{in-Some-with+in_ok-complete, in_default-with}
use Rattle.std.specs.List.{range_with_len, flat_map}
use Rattle.std.proofs.lemmas.Result.{err_from_is_err_and}

pub complete-requires : goal.complete-requires
complete-requires t c =
    let climb = c.args.climb in
    let ranges = c.args.self.now.ranges.now in
    let chosen = semitones_of climb.voices climb.pitches in
    let footing = footing_of climb.footing in
    let told = c.in-Some-with.ensures in
    let here = c.in-Some.ensures.lookup in
    let whole = grown_here ranges climb.voices chosen footing climb.left c.in-Some.range.now _ _ here.3.0 here.1 c.semitones-semitones.ensures c.semitones-semitones-end.ensures in
    let next = voice_next ranges climb.voices chosen footing climb.left c.loop-semitones.semitones _ _ _ _ told.0 told.1 told.2 told.3 told.4 in (
      omega (arith, told.1, c.decreases),
      (
        omega (arith, told.1),
        λ ps h.
            c.requires.sought ps
            (subst (In ps) (sym whole)
            (in_below (at_voice ranges climb.voices chosen footing climb.left) ps _ c.loop-semitones.semitones _ (omega arith) (omega arith)
            (subst (In ps) next h))),
      ),
    )

pub returns-in_err-complete-clause-found : goal.returns-in_err-complete-clause-found
returns-in_err-complete-clause-found t c =
    let climb = c.args.climb in
    let ranges = c.args.self.now.ranges.now in
    let chosen = semitones_of climb.voices climb.pitches in
    let footing = footing_of climb.footing in
    let told = c.in-Some-with.ensures in
    let here = c.in-Some.ensures.lookup in
    let whole = grown_here ranges climb.voices chosen footing climb.left c.in-Some.range.now _ _ here.3.0 here.1 c.semitones-semitones.ensures c.semitones-semitones-end.ensures in
    let next = voice_next ranges climb.voices chosen footing climb.left c.loop-semitones.semitones _ _ _ _ told.0 told.1 told.2 told.3 told.4 in
    let voice = at_voice ranges climb.voices chosen footing climb.left in
    let low = c.semitones-semitones.result in
    let s = c.loop-semitones.semitones in
    let end = c.semitones-semitones-end.result + 1 in
    let p = err_from_is_err_and c.from_residual.result c.from_residual.ensures.1 in
    let told_past = c.in_err-complete.ensures.found in
    let past : 256 < c.loop-semitones.found.rows + length (voice s) = subst (λ found. 256 < c.loop-semitones.found.rows + length found) next told_past.1 in
    let turn = completed_past (length ranges) c.args.found.now.rows c.loop-semitones.found.rows (below voice low s) (voice s) (below voice low (s + 1)) _ _ (below_more voice low s (omega arith)) c.loop-semitones.invariant.2 past in
    rw (p.1, p.2, whole) (told_past.0, omega (arith, turn, below_within voice low (s + 1) end (omega arith) (omega arith)))

pub loop-semitones-preserved : goal.loop-semitones-preserved
loop-semitones-preserved t c =
    let climb = c.args.climb in
    let ranges = c.args.self.now.ranges.now in
    let chosen = semitones_of climb.voices climb.pitches in
    let footing = footing_of climb.footing in
    let voice = at_voice ranges climb.voices chosen footing climb.left in
    let low = c.semitones-semitones.result in
    let s = c.loop-semitones.semitones in
    let here = c.in-Some.ensures.lookup in
    let now = c.loop-semitones.found in
    let more = below_more voice low s (omega arith) in
    elim c.match-with.branch [
      | in-Some-with+in_ok-complete w ↦
          (let told = w.in-Some-with.ensures in
          let next = voice_next ranges climb.voices chosen footing climb.left s _ _ _ _ told.0 told.1 told.2 told.3 told.4 in
          let found : Completed (length ranges) now.rows (voice s) now.table.now w.complete.new.found.table.now (Ok w.complete.new.found.rows) =
          subst (λ rs. Completed (length ranges) now.rows rs now.table.now w.complete.new.found.table.now (Ok w.complete.new.found.rows)) next
          w.in_ok-complete.ensures.found in (
            omega arith,
            ap (λ f. f.table.ghost_name) w.found-is ∙ w.in_ok-complete.ensures.same ∙ c.loop-semitones.invariant.1,
            completed_both (length ranges) c.args.found.now.rows now.rows (below voice low s) (voice s) _ _ _ more c.loop-semitones.invariant.2 _ _ _ _ found (ap (λ f. f.rows) w.found-is) (ap (λ f. f.table.now) w.found-is),
          ))
      | in_default-with w ↦
          (let none = voice_none ranges climb.voices chosen footing climb.left s (w.in_default-with.ensures (omega (arith, c.args.self.now.few, here.3.0)) (omega (arith, c.semitones-semitones-end.ensures, c.in-Some.range.now.high.bounded))) in (
            omega arith,
            ap (λ f. f.table.ghost_name) w.found-is ∙ c.loop-semitones.invariant.1,
            completed_both (length ranges) c.args.found.now.rows now.rows (below voice low s) [] _ _ _ (more ∙ ap (λ rs. below voice low s ++ rs) none) c.loop-semitones.invariant.2
                now.rows _ now.table.now _ (omega arith, now.few, refl) (ap (λ f. f.rows) w.found-is) (ap (λ f. f.table.now) w.found-is),
          ))
    ]

pub returns-clause-found : goal.returns-clause-found
returns-clause-found t c =
    let climb = c.args.climb in
    let ranges = c.args.self.now.ranges.now in
    let chosen = semitones_of climb.voices climb.pitches in
    let footing = footing_of climb.footing in
    let voice = at_voice ranges climb.voices chosen footing climb.left in
    let low = c.semitones-semitones.result in
    let here = c.in-Some.ensures.lookup in
    let whole = grown_here ranges climb.voices chosen footing climb.left c.in-Some.range.now _ _ here.3.0 here.1 c.semitones-semitones.ensures c.semitones-semitones-end.ensures in
    let e : c.loop-semitones.semitones - low ≡ c.semitones-semitones-end.result + 1 - low = omega arith in
    subst (λ rs. Completed (length ranges) c.args.found.now.rows rs c.args.found.now.table.now c.loop-semitones.found.table.now (Ok c.loop-semitones.found.rows))
    (ap (λ k. flat_map voice (range_with_len low k)) e ∙ sym whole) c.loop-semitones.invariant.2
