-- The cost of a list of numbers that are added in turn.
--
-- total      the cost after all of them
-- heard      those that the cost takes in: the first 378 that are moves
-- Totalled   a cost that is this total, holds these moves and has their figures
-- answered   how many these are, where the figures find room in a line
use Rattle.std.specs.Prelude.{◌≡◌, ℕ, cond, List, length, take, Ok, Err, fold, filter, Result, nat_le}
use Rattle.harmony.specs.Moves.{Semitones, is_move}
use Rattle.harmony.specs.declared.refusal.Refusal.{Refusal}
use Rattle.harmony.specs.declared.refusal.Refusal.TheVariants.{ShortFigureLine}
use Rattle.measures.specs.Meanings.{figures_of, meaning}
use Rattle.measures.specs.Parts.{added}
use Rattle.measures.specs.Readings.{Reading, most_moves}

abbrev pub total : {C : Type 0} → Reading C → List Semitones → C
total r ds = fold (added r) r.none ds

abbrev pub heard : List Semitones → List Semitones
heard ds = take most_moves (filter is_move ds)

abbrev pub answered : ℕ → ℕ → List Semitones → Result ℕ Refusal
answered width room ds = cond (nat_le width room) (Ok (length (heard ds))) (Err ShortFigureLine)

pub record Totalled {C : Type 0} (r : Reading C) (ds : List Semitones) (c : C) : Type 0 where
  pub cost : c ≡ total r ds
  pub moves : r.moves c ≡ length (heard ds)
  pub figures : r.figures c ≡ figures_of (meaning r) (heard ds)
