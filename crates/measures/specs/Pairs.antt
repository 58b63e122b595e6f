-- The pair of two measures, the first weightier.
--
-- both              the pair's reading: each move goes to both halves, the first half's figures stand before the second's, and the half with more moves tells how many
-- order_in_turn     the order of the first halves, and of the second where those are equal
-- figures_in_turn   the figures of a list of moves under the first measure and then those under the second
-- InTurn            the pair's figures of a list of moves are these
use Rattle.std.specs.Prelude.{◌≡◌, ◌+◌, max, List, ◌++◌, take, drop}
use Rattle.std.specs.declared.cmp.Ordering.{Ordering}
use Rattle.harmony.specs.Moves.{Semitones}
use Rattle.measures.specs.Figures.{Figures, order}
use Rattle.measures.specs.Meanings.{Fits, figures_of, meaning}
use Rattle.measures.specs.Readings.{Reading}
use Rattle.measures.specs.declared.pair.PairCost.{PairCost}
use Rattle.std.specs.Ordering.{ordering_then}

abbrev pub both : {A B : Type 0} → Reading A → Reading B → Reading (PairCost A B)
both r s = record {
  width = r.width + s.width;
  figures = λ c. r.figures c.first ++ s.figures c.second;
  moves = λ c. max (r.moves c.first) (s.moves c.second);
  none = record { first = r.none; second = s.none };
  pushed = λ c d. record { first = r.pushed c.first d; second = s.pushed c.second d };
  step = λ fs d. r.step (take r.width fs) d ++ s.step (drop r.width fs) d;
}

module _ {A B : Type 0} (r : Reading A) (s : Reading B) where
  abbrev pub order_in_turn : PairCost A B → PairCost A B → Ordering
  order_in_turn b c = ordering_then (order (r.figures b.first) (r.figures c.first)) (order (s.figures b.second) (s.figures c.second))

  abbrev pub figures_in_turn : List Semitones → Figures
  figures_in_turn ds = figures_of (meaning r) ds ++ figures_of (meaning s) ds

  abbrev pub InTurn : Type 0
  InTurn = (ds : List Semitones) → Fits ds → figures_of (meaning (both r s)) ds ≡ figures_in_turn ds
