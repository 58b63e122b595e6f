use Rattle.std.proofs.Common.{◌≡◌, ◌*◌, ◌≤◌, ◌++◌, length, drop}
use Rattle.rows.specs.Tables.{flat}
use Rattle.rows.proofs.Adding.{upto}
use Rattle.rows.proofs.progression.fill.Given as goal

abbrev pub invariant-loop-chord : goal.invariant-loop-chord
invariant-loop-chord l =
    (l.from ≡ length (upto l.voices l.chords l.chord-index) * l.voices.count.number)
    × (l.table ≡ flat (upto l.voices l.chords l.chord-index) ++ drop l.from l.initial.table)
    × (l.from ≤ l.end)
