use Rattle.std.proofs.Common.{◌≡◌, true, cond, drop, Some, None}
use Rattle.std.specs.Result.{is_ok, result_err}
use Rattle.harmony.specs.declared.refusal.Refusal.TheVariants.{TooManyRows}
use Rattle.rows.specs.Tables.{refused_first, rows_of_each}
use Rattle.rows.proofs.progression.accept.Given as goal

abbrev pub invariant-loop-chord : goal.invariant-loop-chord
invariant-loop-chord l =
    (refused_first (is_ok l.answer) (rows_of_each l.voices (drop l.chord-index l.chords)) ≡ refused_first true (rows_of_each l.voices l.chords))
    × (result_err l.answer ≡ cond (is_ok l.answer) None (Some TooManyRows))
