-- The line of ranges as it is written.
--
-- Digits        one to three decimal digits
-- Written       a range as it is written: the digits of its low and those of its high
-- value         the number that digits write, the first the highest
-- bounds_of     the low and the high that a written range says
-- spelled       a range's bytes in the line: a space, the low, a hyphen, the high
-- WrittenLine   the chart begins with `voices`, ranges and a line feed; the line has their bounds and the bytes behind
-- LineForm      a line is read from the chart exactly where the chart begins with it in writing
use Rattle.std.specs.Prelude.{◌≡◌, ℕ, ◌+◌, ◌<◌, ◌≤◌, List, [], ◌∷◌, ◌++◌, map, length, Some, codes}
use Rattle.harmony.specs.declared.range.Bounds.{Bounds}
use Rattle.std.specs.List.{flat_map, AllByRecursion}
use Rattle.text.specs.Numbers.{extended}
use Rattle.text.specs.RangeLines.{Line, range_line}

pub record Digits (ds : List ℕ) : Type 0 where
  pub some : 1 ≤ length ds
  pub few : length ds ≤ 3
  pub decimal : AllByRecursion (λ d. d < 10) ds

pub record Written : Type 0 where
  pub low : List ℕ
  pub high : List ℕ
  pub low_digits : Digits low
  pub high_digits : Digits high

abbrev pub value : List ℕ → ℕ
value [] = 0
value (d ∷ ds) = extended d ds

abbrev pub bounds_of : Written → Bounds
bounds_of w = record { low = value w.low; high = value w.high }

-- the bytes of digits: 48 is the code of 0
abbrev pub figures : List ℕ → List ℕ
figures ds = map (λ d. 48 + d) ds

abbrev pub spelled : Written → List ℕ
spelled w = 32 ∷ (figures w.low ++ 45 ∷ figures w.high)

pub record WrittenLine (chart : List ℕ) (line : Line) : Type 0 where
  pub ranges : List Written
  pub bytes : chart ≡ codes "voices" ++ (flat_map spelled ranges ++ 10 ∷ line.rest)
  pub values : line.ranges ≡ map bounds_of ranges

pub record LineForm (chart : List ℕ) : Type 0 where
  pub only : (line : Line) → range_line chart ≡ Some line → WrittenLine chart line
  pub every : (line : Line) → WrittenLine chart line → range_line chart ≡ Some line
