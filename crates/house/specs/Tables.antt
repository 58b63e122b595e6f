-- The count table: how many moves there are of each size, the widest first.
--
-- down_from     a number and those below it, down to 1
-- table         how many of the moves are of 24 semitones, of 23, down to 1
-- size_place    where the count of a size stands; a move of 0 has no place
-- bump          the list with one more at a place, as it was where there is no such place
-- raised        the same, for counts that stay at 65535 once they are there
-- could_count   whether moves could have made these counts
-- tabled        the count table, as a reading
use Rattle.std.specs.Prelude.{ℕ, zero, suc, ◌+◌, ◌-◌, ◌^◌, min, Bool, List, [], ◌∷◌, map, replicate, sum, count_by, nat_eq, nat_le, slice_index, slice_set, refl}
use Rattle.std.proofs.Common.{length-set, ◌∙◌}
use Rattle.harmony.specs.Moves.{Semitones, widest}
use Rattle.measures.specs.Figures.{Figures}
use Rattle.measures.specs.Readings.{Reading, held}
use Rattle.house.specs.declared.table.cost.TableCost.{TableCost}

abbrev pub down_from : ℕ → List Semitones
down_from zero = []
down_from (suc n) = suc n ∷ down_from n

abbrev pub table : List Semitones → Figures
table ds = map (λ size. count_by (nat_eq size) ds) (down_from widest)

abbrev pub size_place : Semitones → ℕ
size_place d = widest - d

abbrev pub bump : ℕ → List ℕ → List ℕ
bump i fs = slice_set fs i (slice_index fs i + 1)

abbrev pub raised : ℕ → List ℕ → List ℕ
raised i fs = slice_set fs i (min (slice_index fs i + 1) (2 ^ 16 - 1))

abbrev pub could_count : TableCost → Bool
could_count c = nat_le (sum c.counts) c.moves

abbrev pub tabled : Reading TableCost
tabled = record {
  width = widest;
  figures = λ c. c.counts;
  moves = λ c. held (could_count c) c.moves;
  none = record { counts = replicate widest 0; moves = 0; whole = refl };
  pushed = λ c d. record { counts = raised (size_place d) c.counts; moves = min (c.moves + 1) (2 ^ 16 - 1); whole = length-set c.counts (size_place d) _ ∙ c.whole };
  step = λ fs d. bump (size_place d) fs;
}
