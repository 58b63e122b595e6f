-- The laws of the largest move.
use Rattle.std.specs.Prelude.{◌≡◌, ◌+◌, ◌-◌, ◌^◌, ◌<◌, ◌≤◌, min, max, Bool, true, false, cond, ◌==◌, nat_eq, refl}
use Rattle.std.proofs.Common.{eqb-true, ◌∙◌, ap, sym, arith}
use Rattle.harmony.specs.Moves.{IsMove, Semitones, is_move, move}
use Rattle.measures.proofs.Held.{Held, held_bounded, held_more, held_taking}
use Rattle.measures.proofs.Singles.{SingleLaws, single_laws}
use Rattle.measures.specs.Uncrossed.{straight_greater}
use Rattle.house.specs.Largest.{could_be, largest}
use Rattle.measures.specs.Laws.{Laws}
use Rattle.measures.specs.Readings.{Takes, held, most_moves}
use Rattle.house.specs.declared.largest.LargestCost.{LargestCost}
use Rattle.std.proofs.lemmas.Bool.{le-leb, leb-true, ne_eqb}

-- a size that could be is that of a move
sized : (z : Bool) (c : LargestCost) → cond z (c.size == 0) (is_move c.size) ≡ true → IsMove c.size
sized true c h = let e : c.size ≡ 0 = eqb-true c.size 0 h in omega arith
sized false c h = leb-true c.size 24 h

module _ (c : LargestCost) (d : Semitones) (t : Takes largest 1 c) (h : IsMove d) where
  room : Held (could_be c) c.moves
  room = held_taking (could_be c) c.moves t

  size_move : IsMove (max c.size d)
  size_move = let k : IsMove c.size = sized (c.moves == 0) c room.possible in omega arith

  largest_longer : largest.moves (largest.pushed c d) ≡ largest.moves c + 1
  largest_longer =
      let few : c.moves < most_moves = room.few in
      let one : min (c.moves + 1) (2 ^ 16 - 1) ≡ c.moves + 1 = omega arith in
      let some : nat_eq (c.moves + 1) 0 ≡ false = ne_eqb (c.moves + 1) 0 (λ e. omega arith) in
      let fits : is_move (max c.size d) ≡ true = le-leb (max c.size d) 24 size_move in
      (λ i. held (cond (one i == 0) (max c.size d == 0) (is_move (max c.size d))) (one i)) ∙ held_more (cond (c.moves + 1 == 0) (max c.size d == 0) (is_move (max c.size d))) c.moves few (ap (λ z. cond z (max c.size d == 0) (is_move (max c.size d))) some ∙ fits) ∙ ap (λ n. n + 1) (sym room.named)

largest_single_laws : SingleLaws (λ c. c.size) largest.moves largest.none largest.pushed max
largest_single_laws = record {
  bounded = λ c. held_bounded (could_be c) c.moves;
  empty = refl;
  longer = largest_longer;
  stepped = λ c d _ _. refl;
  small = (omega arith, λ c d t h. let k : IsMove (max c.size d) = size_move c d t h in omega arith);
  swap = λ f d e. omega arith;
  keep = λ f g d h. omega arith;
  uncross = λ f a a2 b b2 p q h k. let rest : max (move a b) (move a2 b2) ≤ max (move a b2) (move a2 b) = straight_greater a a2 b b2 p q in omega arith;
}

pub largest_laws : Laws largest
largest_laws = single_laws (λ c. c.size) largest.moves largest.none largest.pushed max largest_single_laws
