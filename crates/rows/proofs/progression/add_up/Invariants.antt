use Rattle.std.proofs.Common.{◌≡◌, ◌+◌, ◌*◌, length, take}
use Rattle.rows.specs.Tables.{rows_of_each, together}
use Rattle.rows.proofs.progression.add_up.Given as goal

abbrev pub invariant-loop-chord : goal.invariant-loop-chord
invariant-loop-chord l =
    (l.total * l.width + l.free ≡ l.room)
    × (l.total ≡ length (together (rows_of_each l.voices (take l.chord-index l.chords))))
