-- What stands before the symbols: a line of ranges.
--
-- Opening   the ranges of the voices, and the bytes behind the line
-- opened    what a heading of the code says
-- opening   the opening of a chart, or why it is refused: its length first, then the line's form, then the ranges
use Rattle.std.specs.Prelude.{ℕ, cond, List, length, Some, None, Ok, Err, Option, Result, nat_le}
use Rattle.harmony.specs.Ranges.{voices_of}
use Rattle.harmony.specs.declared.range.Bounds.{Bounds}
use Rattle.harmony.specs.declared.refusal.Refusal.{Refusal}
use Rattle.harmony.specs.declared.refusal.Refusal.TheVariants.{LongChart, MalformedHeading}
use Rattle.harmony.specs.VoiceRanges.{ranges_of}
use Rattle.rowlist.specs.declared.heading.Heading.{Heading}
use Rattle.text.specs.Limits.{chart_limit}
use Rattle.text.specs.RangeLines.{Line, range_line}

pub record Opening : Type 0 where
  pub ranges : List Bounds
  pub rest : List ℕ

abbrev pub opened : Heading → Opening
opened h = record { ranges = ranges_of h.voices; rest = h.body.now }

abbrev pub with_voices : Result (List Bounds) Refusal → List ℕ → Result Opening Refusal
with_voices (Ok vs) rest = Ok (record { ranges = vs; rest = rest })
with_voices (Err e) rest = Err e

abbrev pub of_line : Option Line → Result Opening Refusal
of_line None = Err MalformedHeading
of_line (Some line) = with_voices (voices_of line.ranges) line.rest

abbrev pub opening : List ℕ → Result Opening Refusal
opening chart = cond (nat_le (length chart) chart_limit) (of_line (range_line chart)) (Err LongChart)
