-- The ranges of a board's voices, as plain data.
use Rattle.std.specs.Prelude.{List, map, take}
use Rattle.harmony.specs.Ranges.{bounds}
use Rattle.harmony.specs.declared.range.Bounds.{Bounds}
use Rattle.harmony.specs.declared.voices.Voices.{Voices}

abbrev pub ranges_of : Voices → List Bounds
ranges_of v = map bounds (take v.count.number v.ranges)
