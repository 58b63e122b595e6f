-- The laws of a sum of weights, from the two laws of the weight.
use Rattle.std.specs.Prelude.{◌≡◌, ℕ, zero, suc, ◌+◌, ◌-◌, ◌*◌, ◌^◌, ◌<◌, ◌≤◌, min, max, true, leb, nat_le, refl}
use Rattle.std.proofs.Common.{⊎_elim, ◌∙◌, ap, subst, sym, le_trans, mul-le-mul_left, mul-le-mul_right, arith}
use Rattle.harmony.specs.Moves.{IsMove, Semitones, move, widest}
use Rattle.measures.proofs.Held.{Held, held_bounded, held_more, held_taking}
use Rattle.measures.proofs.Singles.{SingleLaws, single_strict_laws}
use Rattle.measures.specs.Uncrossed.{straight_greater, straight_together}
use Rattle.measures.specs.Laws.{StrictLaws}
use Rattle.measures.specs.Readings.{Takes, held, most_moves}
use Rattle.house.specs.Weights.{WeightLaws, could_be, heaviest, weighed}
use Rattle.house.specs.declared.weighed.SumCost.{SumCost}
use Rattle.std.proofs.lemmas.Bool.{cases_lt, le-leb, leb-true}

module _ (w : Semitones → ℕ) (laws : WeightLaws w) where
  climbs : (k d e : ℕ) → e ≡ d + k → IsMove e → w d ≤ w e
  climbs zero d e p h = let q : d ≡ e = omega arith in subst (λ n. w d ≤ w n) q (omega arith)
  climbs (suc k) d e p h =
      let q : (d + k) + 1 ≡ e = omega arith in
      let below : w d ≤ w (d + k) = climbs k d (d + k) refl (omega arith) in
      let rise : w (d + k) ≤ w ((d + k) + 1) = laws.rises (d + k) (omega arith) in
      subst (λ n. w d ≤ w n) q (omega arith)

  -- a wider move weighs no less
  pub wider : (d e : Semitones) → d ≤ e → IsMove e → w d ≤ w e
  wider d e p h = climbs (e - d) d e (omega arith) h

  -- a rise further up is at least as large
  steeper : (k d e : ℕ) → e ≡ d + k → IsMove (e + 1) → w (d + 1) + w e ≤ w d + w (e + 1)
  steeper zero d e p h = let q : d ≡ e = omega arith in subst (λ n. w (d + 1) + w n ≤ w d + w (n + 1)) q (omega arith)
  steeper (suc k) d e p h =
      let q : (d + k) + 1 ≡ e = omega arith in
      let before : w (d + 1) + w (d + k) ≤ w d + w ((d + k) + 1) = steeper k d (d + k) refl (omega arith) in
      let bend : w ((d + k) + 1) + w ((d + k) + 1) ≤ w (d + k) + w ((d + k) + 2) = laws.bends (d + k) (omega arith) in
      let two : w ((d + k) + 2) ≡ w (((d + k) + 1) + 1) = ap w (omega arith) in
      subst (λ n. w (d + 1) + w n ≤ w d + w (n + 1)) q (omega arith)

  -- and so is a rise of k further up
  spread : (k d e : ℕ) → d ≤ e → IsMove (e + k) → w (d + k) + w e ≤ w d + w (e + k)
  spread zero d e p h =
      let x : w (d + zero) ≡ w d = ap w (omega arith) in
      let y : w (e + zero) ≡ w e = ap w (omega arith) in
      omega arith
  spread (suc k) d e p h =
      let x : w (d + suc k) ≡ w ((d + k) + 1) = ap w (omega arith) in
      let y : w (e + suc k) ≡ w ((e + k) + 1) = ap w (omega arith) in
      let before : w (d + k) + w e ≤ w d + w (e + k) = spread k d e p (omega arith) in
      let rise : w ((d + k) + 1) + w (e + k) ≤ w (d + k) + w ((e + k) + 1) = steeper (e - d) (d + k) (e + k) (omega arith) (omega arith) in
      omega arith

  sorted_lighter : (x y u v : Semitones) → x ≤ y → u ≤ v → y ≤ v → x + y ≤ u + v → IsMove v → w x + w y ≤ w u + w v
  sorted_lighter x y u v p q h t m = ⊎_elim
      (λ (k : u < x).
      let rise : w (u + (x - u)) + w y ≤ w u + w (y + (x - u)) = spread (x - u) u y (omega arith) (omega arith) in
      let is : w (u + (x - u)) ≡ w x = ap w (omega arith) in
      let top : w (y + (x - u)) ≤ w v = wider (y + (x - u)) v (omega arith) m in
      omega arith)
      (λ (k : x ≤ u).
      let low : w x ≤ w u = wider x u k (omega arith) in
      let high : w y ≤ w v = wider y v h m in
      omega arith)
      (cases_lt u x)

  -- moves that are together not more, and of which the greater is not more, weigh together not more
  pub lighter : (x y u v : Semitones) → x + y ≤ u + v → max x y ≤ max u v → IsMove u → IsMove v → w x + w y ≤ w u + w v
  lighter x y u v t g h k = ⊎_elim
      (λ (p : x < y). ⊎_elim
      (λ (q : u < v). sorted_lighter x y u v (omega arith) (omega arith) (omega arith) t k)
      (λ (q : v ≤ u). let s : w x + w y ≤ w v + w u = sorted_lighter x y v u (omega arith) q (omega arith) (omega arith) h in omega arith)
      (cases_lt u v))
      (λ (p : y ≤ x). ⊎_elim
      (λ (q : u < v). let s : w y + w x ≤ w u + w v = sorted_lighter y x u v p (omega arith) (omega arith) (omega arith) k in omega arith)
      (λ (q : v ≤ u). let s : w y + w x ≤ w v + w u = sorted_lighter y x v u p q (omega arith) (omega arith) h in omega arith)
      (cases_lt u v))
      (cases_lt x y)

  heavy : (n d : ℕ) → n < most_moves → IsMove d → w widest * n + w d ≤ w widest * (n + 1)
  heavy n d h k = let top : w d ≤ w widest = wider d widest k (omega arith) in omega arith

  light_sum : (n : ℕ) → n ≤ most_moves → w widest * n ≤ heaviest * most_moves
  light_sum n h = le_trans (mul-le-mul_right n (laws.light widest (omega arith))) (mul-le-mul_left heaviest h)

  -- a sum that takes a move gets its weight, without reaching the end of its type
  module _ (c : SumCost) (d : Semitones) (t : Takes (weighed w) 1 c) (h : IsMove d) where
    room : Held (could_be w c) c.moves
    room = held_taking (could_be w c) c.moves t

    made : c.sum + w d ≤ w widest * (c.moves + 1)
    made =
        let before : c.sum ≤ w widest * c.moves = leb-true c.sum (w widest * c.moves) room.possible in
        let more : w widest * c.moves + w d ≤ w widest * (c.moves + 1) = heavy c.moves d room.few h in
        omega arith

    sum_small : c.sum + w d < 2 ^ 32
    sum_small =
        let few : c.moves < most_moves = room.few in
        let top : w widest * (c.moves + 1) ≤ heaviest * most_moves = light_sum (c.moves + 1) (omega arith) in
        let is = made in
        omega arith

    sum_stepped : ((weighed w).pushed c d).sum ≡ c.sum + w d
    sum_stepped = let is = sum_small in omega arith

    sum_longer : (weighed w).moves ((weighed w).pushed c d) ≡ (weighed w).moves c + 1
    sum_longer =
        let few : c.moves < most_moves = room.few in
        let one : min (c.moves + 1) (2 ^ 16 - 1) ≡ c.moves + 1 = omega arith in
        let fits : leb (c.sum + w d) (w widest * (c.moves + 1)) ≡ true = le-leb (c.sum + w d) (w widest * (c.moves + 1)) made in
        (λ i. held (nat_le (sum_stepped i) (w widest * one i)) (one i)) ∙ held_more (nat_le (c.sum + w d) (w widest * (c.moves + 1))) c.moves few fits ∙ ap (λ n. n + 1) (sym room.named)

  sum_single_laws : SingleLaws (λ c. c.sum) (weighed w).moves (weighed w).none (weighed w).pushed (λ f d. f + w d)
  sum_single_laws = record {
    bounded = λ c. held_bounded (could_be w c) c.moves;
    empty = ap (λ b. held b 0) (le-leb 0 (w widest * 0) (omega arith));
    longer = sum_longer;
    stepped = sum_stepped;
    small = (omega arith, sum_small);
    swap = λ f d e. omega arith;
    keep = λ f g d h. omega arith;
    uncross = λ f a a2 b b2 p q h k.
        let rest : w (move a b) + w (move a2 b2) ≤ w (move a b2) + w (move a2 b) = lighter (move a b) (move a2 b2) (move a b2) (move a2 b) (straight_together a a2 b b2 p q) (straight_greater a a2 b b2 p q) h k in
        omega arith;
  }

  pub weighed_strict_laws : StrictLaws (weighed w)
  weighed_strict_laws = single_strict_laws (λ c. c.sum) (weighed w).moves (weighed w).none (weighed w).pushed (λ f d. f + w d) sum_single_laws (λ f g d h. omega arith)
