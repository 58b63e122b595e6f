-- The line of ranges, a chart's first line: the word `voices`, each range behind one space, and a line feed.
-- A range is a low, a hyphen and a high, each of one to three digits.
--
-- Line         the ranges of the line, and the bytes behind its line feed
-- Place        where a reader of the line stands
-- Step         what a byte does there: the range that it ends, if any, and the place behind it, none where the line ends
-- step         what a byte does at a place; none where it is out of place
-- scan         the line, read on from a place behind so many ranges
-- behind       the bytes behind a word that a text begins with
-- range_line   the line of ranges of a chart, where it is well formed
use Rattle.std.specs.Prelude.{ℕ, cond, List, [], ◌∷◌, ◌++◌, Some, None, codes, Option, ◌==◌}
use Rattle.harmony.specs.declared.range.Bounds.{Bounds}
use Rattle.text.specs.Numbers.{number, pushed}

pub record Line : Type 0 where
  pub ranges : List Bounds
  pub rest : List ℕ

pub data Place : Type 0 where
  -- behind the word, before the first range
  between : Place
  -- in a low, with its digits so far
  in_low : List ℕ → Place
  -- in a high, with the low and the high's digits so far
  in_high : ℕ → List ℕ → Place

pub record Step : Type 0 where
  pub closed : Option Bounds
  pub to : Option Place

-- a byte that ends nothing
abbrev pub onward : Place → Option Step
onward p = Some (record { closed = None; to = Some p })

-- behind a range, or behind the word: a line feed ends the line, and a space begins a range
abbrev pub parted : Option Bounds → ℕ → Option Step
parted closed b =
    cond (b == 10) (Some (record { closed = closed; to = None }))
    (cond (b == 32) (Some (record { closed = closed; to = Some (in_low []) })) None)

-- a hyphen behind a low
abbrev pub hyphen : Option ℕ → Option Step
hyphen None = None
hyphen (Some l) = onward (in_high l [])

-- a byte behind a low and a high
abbrev pub closing : ℕ → Option ℕ → ℕ → Option Step
closing l None b = None
closing l (Some h) b = parted (Some (record { low = l; high = h })) b

-- a byte in a low, where it may be a digit more
abbrev pub low_step : List ℕ → Option (List ℕ) → ℕ → Option Step
low_step ds None b = cond (b == 45) (hyphen (number ds)) None
low_step ds (Some more) b = onward (in_low more)

-- a byte in a high, where it may be a digit more
abbrev pub high_step : ℕ → List ℕ → Option (List ℕ) → ℕ → Option Step
high_step l ds None b = closing l (number ds) b
high_step l ds (Some more) b = onward (in_high l more)

abbrev pub step : Place → ℕ → Option Step
step between b = parted None b
step (in_low ds) b = low_step ds (pushed ds b) b
step (in_high l ds) b = high_step l ds (pushed ds b) b

-- the ranges read so far, with the one that a byte ends
abbrev pub added : List Bounds → Option Bounds → List Bounds
added rs None = rs
added rs (Some r) = rs ++ r ∷ []

-- behind a byte: the line has ended, or it is read on from a place
abbrev pub ended : (Place → Option Line) → List Bounds → List ℕ → Option Place → Option Line
ended on rs bs None = Some (record { ranges = rs; rest = bs })
ended on rs bs (Some p) = on p

-- the line as a byte's step leaves it
abbrev pub stepped : (List Bounds → Place → Option Line) → List Bounds → List ℕ → Option Step → Option Line
stepped on rs bs None = None
stepped on rs bs (Some s) = ended (on (added rs s.closed)) (added rs s.closed) bs s.to

abbrev pub scan : List ℕ → List Bounds → Place → Option Line
scan [] rs p = None
scan (b ∷ bs) rs p = stepped (scan bs) rs bs (step p b)

abbrev pub behind : List ℕ → List ℕ → Option (List ℕ)
behind [] bs = Some bs
behind (w ∷ ws) [] = None
behind (w ∷ ws) (b ∷ bs) = cond (b == w) (behind ws bs) None

-- the line behind its word
abbrev pub from_word : Option (List ℕ) → Option Line
from_word None = None
from_word (Some bs) = scan bs [] between

abbrev pub range_line : List ℕ → Option Line
range_line bs = from_word (behind (codes "voices") bs)
