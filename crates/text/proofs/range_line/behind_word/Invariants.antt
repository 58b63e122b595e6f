use Rattle.std.proofs.Common.{◌≡◌, ◌+◌, List, [], drop}
use Rattle.harmony.specs.declared.range.Bounds.{Bounds}
use Rattle.text.specs.RangeLines.{between, scan}
use Rattle.text.specs.Telling.{Kept, place_of}
use Rattle.text.proofs.range_line.behind_word.Given as goal

abbrev pub invariant-loop-byte : goal.invariant-loop-byte
invariant-loop-byte l =
    (rs : List Bounds)
    × (Kept rs l.line.count l.line.first)
    × (l.line.end ≡ 6 + l.byte-index)
    × (scan l.rest [] between ≡ scan (drop l.byte-index l.rest) rs (place_of l.place))
