-- The largest move.
--
-- could_be   whether moves could have made such a largest one: none is above 24, and no moves make 0
-- largest    the largest move, 0 for none, as a reading
use Rattle.std.specs.Prelude.{◌+◌, ◌-◌, ◌^◌, min, max, Bool, cond, [], ◌∷◌, ◌==◌}
use Rattle.harmony.specs.Moves.{is_move}
use Rattle.measures.specs.Readings.{Reading, held, only}
use Rattle.house.specs.declared.largest.LargestCost.{LargestCost}

abbrev pub could_be : LargestCost → Bool
could_be c = cond (c.moves == 0) (c.size == 0) (is_move c.size)

abbrev pub largest : Reading LargestCost
largest = record {
  width = 1;
  figures = λ c. c.size ∷ [];
  moves = λ c. held (could_be c) c.moves;
  none = record { size = 0; moves = 0 };
  pushed = λ c d. record { size = max c.size d; moves = min (c.moves + 1) (2 ^ 16 - 1) };
  step = only max;
}
