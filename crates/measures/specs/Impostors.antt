-- What only seems to be a measure.
--
-- largest_then_sum   the largest move first, and then the sum
-- voices_moving      the number of voices that move
-- seeming            these two
-- Gives m r          the reading r gives every list of moves the figures of m
-- all_equal          a measure that keeps the laws and tells nothing: all its costs are equal
use Rattle.std.specs.Prelude.{◌≡◌, ◌+◌, max, cond, List, [], ◌∷◌, ◌==◌, slice_index}
use Rattle.harmony.specs.Moves.{Semitones}
use Rattle.measures.specs.Meanings.{Fits, Meaning, figures_of, meaning}
use Rattle.measures.specs.Readings.{Reading, only}

abbrev pub largest_then_sum : Meaning
largest_then_sum = record {
  width = 2;
  start = 0 ∷ 0 ∷ [];
  step = λ fs d. max (slice_index fs 0) d ∷ (slice_index fs 1 + d) ∷ [];
}

abbrev pub voices_moving : Meaning
voices_moving = record { width = 1; start = 0 ∷ []; step = only (λ f d. cond (d == 0) f (f + 1)) }

abbrev pub seeming : List Meaning
seeming = largest_then_sum ∷ voices_moving ∷ []

abbrev pub Gives : {C : Type 0} → Meaning → Reading C → Type 0
Gives m r = (ds : List Semitones) → Fits ds → figures_of (meaning r) ds ≡ figures_of m ds

abbrev pub all_equal : Meaning
all_equal = record { width = 1; start = 0 ∷ []; step = λ _ _. 0 ∷ [] }
