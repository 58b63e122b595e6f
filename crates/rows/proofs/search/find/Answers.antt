use Rattle.std.proofs.Common.{ℕ, List, map, Err, subst, rules}
use Rattle.harmony.specs.Chords.{harmony}
use Rattle.harmony.specs.Ranges.{bounds}
use Rattle.harmony.specs.Results.{result_map}
use Rattle.rows.specs.Enumeration.{In}
use Rattle.rows.specs.Growth.{Completed, footing_of}
use Rattle.rows.proofs.Growing.{found_for, grown_start}
use Rattle.rows.proofs.Meaning.{meant}
use Rattle.rows.proofs.search.find.Goals as goal
use Rattle.std.proofs.lemmas.Result.{err_from_is_err_and}

pub complete-requires-clause-sought : goal.complete-requires-clause-sought
complete-requires-clause-sought c =
    let start = c.start.result in
    let told = c.start.ensures in
    λ ps h. subst (In ps) (grown_start (map bounds c.ranges-2.result.now) (harmony c.args.chord.now) start.voices start.pitches (footing_of start.footing) start.left told.0 told.1 told.2) h

pub returns-clause-found : goal.returns-clause-found
returns-clause-found c =
    let after = c.complete.new.found in
    let P : ℕ → List (List ℕ) → Type 0 = λ n rs. Completed n 0 rs c.args.table.now after.table.now (result_map (λ _. after.rows) c.complete.result) in
    let done = found_for P c.args.voices.now c.args.chord.now c.ranges-2.result.now c.start.result c.ranges-2.ensures c.start.ensures c.complete.ensures.found in
    search (rules, done, c.in_ok-complete.was)

pub returns-in_err-complete-clause-found : goal.returns-in_err-complete-clause-found
returns-in_err-complete-clause-found c =
    let after = c.complete.new.found in
    let p = err_from_is_err_and c.from_residual.result c.from_residual.ensures.1 in
    let P : ℕ → List (List ℕ) → Type 0 = λ n rs. Completed n 0 rs c.args.table.now after.table.now (Err c.in_err-complete.field-0.0) in
    rw (p.1, p.2) (found_for P c.args.voices.now c.args.chord.now c.ranges-2.result.now c.start.result c.ranges-2.ensures c.start.ensures c.in_err-complete.ensures.found)

pub returns-clause-meaning : goal.returns-clause-meaning
returns-clause-meaning c = meant _ _ c.args.chord.now.full

pub returns-in_err-complete-clause-meaning : goal.returns-in_err-complete-clause-meaning
returns-in_err-complete-clause-meaning c = meant _ _ c.args.chord.now.full
