-- What the code tells of a chart's line of ranges: the number of ranges, the first six, and the offset behind the line feed.
--
-- place_of, step_of   the place and the step that those of the code are
-- Kept                what the code keeps of the ranges read so far
-- voices_within       the ranges that the voices get, by the number of ranges and the first six
-- Told                all that the code tells, against the line as it is defined
use Rattle.std.specs.Prelude.{◌≡◌, ℕ, ◌+◌, ◌≤◌, min, cond, List, length, take, drop, Some, None, Err, Option, Result, nat_le, slice_set}
use Rattle.harmony.specs.Ranges.{voices_of}
use Rattle.harmony.specs.declared.range.Bounds.{Bounds}
use Rattle.harmony.specs.declared.refusal.Refusal.{Refusal}
use Rattle.harmony.specs.declared.refusal.Refusal.TheVariants.{VoiceNumber}
use Rattle.std.specs.Option.{option_map}
use Rattle.text.specs.Numbers.{digits}
use Rattle.text.specs.RangeLines.{Line, Place, Step, between, in_high, in_low, range_line}
use Rattle.text.specs.declared.place.Place as code
use Rattle.text.specs.declared.place.Place.TheVariants.{Between, Low, High}
use Rattle.text.specs.declared.place.Step as code_step

abbrev pub place_of : code.Place → Place
place_of Between = between
place_of (Low n) = in_low (digits n)
place_of (High l n) = in_high l (digits n)

abbrev pub step_of : code_step.Step → Step
step_of s = record { closed = s.closed; to = option_map place_of s.to }

-- their number, and the first six
pub record Kept (rs : List Bounds) (count : ℕ) (first : List Bounds) : Type 0 where
  pub counted : count ≡ length rs
  pub firsts : take (min count 6) first ≡ take 6 rs

-- the first six ranges with one more, where a byte ends one
abbrev pub filled : List Bounds → ℕ → Option Bounds → List Bounds
filled first count None = first
filled first count (Some r) = slice_set first count r

-- and their number
abbrev pub more : ℕ → Option Bounds → ℕ
more count None = count
more count (Some r) = count + 1

abbrev pub voices_within : ℕ → List Bounds → Result (List Bounds) Refusal
voices_within count first = cond (nat_le count 6) (voices_of (take count first)) (Err VoiceNumber)

pub record Told (chart : List ℕ) (count : ℕ) (first : List Bounds) (end : ℕ) : Type 0 where
  pub line : Line
  pub reads : range_line chart ≡ Some line
  pub kept : Kept line.ranges count first
  pub voices : voices_of line.ranges ≡ voices_within count first
  pub rest : line.rest ≡ drop end chart
  pub within : end ≤ length chart
