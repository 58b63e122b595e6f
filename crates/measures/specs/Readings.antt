-- What the costs of a measure mean, for whatever the record of a cost holds.
--
-- Reading     how a measure reads its costs:
--   width       how many figures each cost has
--   figures     the figures of a cost
--   moves       how many moves a cost holds
--   none        the cost of no moves
--   pushed      the cost with one move more
--   step        the figures with one move more
-- most_moves  how many moves a cost may hold
-- held        the number of moves of a content: the number it names, or 378 where no moves could have made it
-- only        a step of one figure, from what a move makes of that figure
-- Takes k c   the cost c can still take k moves
use Rattle.std.specs.Prelude.{ℕ, ◌+◌, ◌≤◌, Bool, cond, ◌&&◌, [], ◌∷◌, nat_lt, slice_index}
use Rattle.harmony.specs.Moves.{Semitones}
use Rattle.measures.specs.Figures.{Figures}

pub record Reading (C : Type 0) : Type 0 where
  pub width : ℕ
  pub figures : C → Figures
  pub moves : C → ℕ
  pub none : C
  pub pushed : C → Semitones → C
  pub step : Figures → Semitones → Figures

abbrev pub most_moves : ℕ
most_moves = 378

-- whether the figures could have been made by so many moves is each measure's to say
abbrev pub held : Bool → ℕ → ℕ
held could_be moves = cond (nat_lt moves most_moves && could_be) moves most_moves

abbrev pub only : (ℕ → Semitones → ℕ) → Figures → Semitones → Figures
only f fs d = f (slice_index fs 0) d ∷ []

module _ {C : Type 0} (r : Reading C) where
  abbrev pub Takes : ℕ → C → Type 0
  Takes k c = r.moves c + k ≤ most_moves
