-- Pitches and their classes.
--
-- highest   the highest pitch
-- IsPitch   which numbers of semitones are pitches
-- around    a number counted round the twelve classes
-- class     what a pitch has in common with its octaves; C is 0
use Rattle.std.specs.Prelude.{ℕ, ◌%◌, ◌≤◌}

abbrev pub highest : ℕ
highest = 127

abbrev pub IsPitch : ℕ → Type 0
IsPitch p = p ≤ highest

abbrev pub around : ℕ → ℕ
around n = n % 12

abbrev pub class : ℕ → ℕ
class p = around p
