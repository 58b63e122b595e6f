use Rattle.std.proofs.Common.{◌≡◌, ◌+◌, ◌-◌, ◌≤◌, max, map, length, drop, Ok}
use Rattle.harmony.specs.Ranges.{bounds}
use Rattle.rows.specs.Arrangements.{semitones_of}
use Rattle.rows.specs.Growth.{Completed, footing_of}
use Rattle.rows.proofs.Completing.{below, branch}
use Rattle.rows.proofs.search.Search.+complete.Given as goal

abbrev pub decreases-complete : goal.decreases-complete
decreases-complete l = length l.self.now.ranges.now - l.climb.voices

abbrev pub invariant-loop-semitones : goal.invariant-loop-semitones
invariant-loop-semitones l =
    (l.semitones ≤ max l.initial.semitones l.semitones-end)
    × (l.found.table.ghost_name ≡ l.initial.found.table.ghost_name)
    × Completed (length l.self.ranges.now) l.initial.found.rows
    (below
    (branch (semitones_of l.climb.voices l.climb.pitches) (drop (l.climb.voices + 1) (map bounds l.self.ranges.now)) (footing_of l.climb.footing)
    l.climb.left)
    l.initial.semitones l.semitones)
    l.initial.found.table.now l.found.table.now (Ok l.found.rows)
