-- Weights of moves, and the cost that adds them up.
--
-- heaviest      the largest weight a move may have
-- WeightLaws    what a weight has to show
--   rises         weights never fall as the move grows
--   bends         each rise is at least the rise before it
--   light         none is above the heaviest
-- could_be      whether moves could have made so large a sum
-- weighed       the sum of the weights, as a reading
use Rattle.std.specs.Prelude.{ℕ, ◌+◌, ◌-◌, ◌*◌, ◌^◌, ◌≤◌, min, Bool, [], ◌∷◌, nat_le}
use Rattle.harmony.specs.Moves.{IsMove, Semitones, widest}
use Rattle.measures.specs.Readings.{Reading, held, only}
use Rattle.house.specs.declared.weighed.SumCost.{SumCost}

abbrev pub heaviest : ℕ
heaviest = 2 ^ 16 - 1

pub record WeightLaws (w : Semitones → ℕ) : Type 0 where
  pub rises : (d : Semitones) → IsMove (d + 1) → w d ≤ w (d + 1)
  pub bends : (d : Semitones) → IsMove (d + 2) → w (d + 1) + w (d + 1) ≤ w d + w (d + 2)
  pub light : (d : Semitones) → IsMove d → w d ≤ heaviest

module _ (w : Semitones → ℕ) where
  abbrev pub could_be : SumCost → Bool
  could_be c = nat_le c.sum (w widest * c.moves)

  abbrev pub weighed : Reading SumCost
  weighed = record {
    width = 1;
    figures = λ c. c.sum ∷ [];
    moves = λ c. held (could_be c) c.moves;
    none = record { sum = 0; moves = 0 };
    pushed = λ c d. record { sum = min (c.sum + w d) (2 ^ 32 - 1); moves = min (c.moves + 1) (2 ^ 16 - 1) };
    step = only (λ f d. f + w d);
  }
