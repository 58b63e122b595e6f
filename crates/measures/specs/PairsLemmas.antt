-- The pair of two measures is a measure, and a strict one where both are.
use Rattle.std.specs.Prelude.{◌≡◌, ℕ, suc, ◌+◌, ◌≤◌, max, true, false, List, [], ◌∷◌, ◌++◌, length, fold, ◌≢◌}
use Rattle.std.specs.declared.cmp.Ordering.TheVariants.{Less, Equal, Greater}
use Rattle.std.specs.declared.cmp.Ordering.{Ordering}
use Rattle.std.proofs.Math.Bool.{true≢false}
use Rattle.std.proofs.Common.{◌∙◌, ap, subst, sym, arith}
use Rattle.std.proofs.Math.Path.{refl}
use Rattle.harmony.specs.Moves.{IsMove, Semitones, move}
use Rattle.harmony.specs.Pitches.{IsPitch}
use Rattle.measures.specs.Orders.{order_append, order_same, same_from_order}
use Rattle.measures.specs.Uncrossed.{straight_moves}
use Rattle.measures.specs.Figures.{AtMost, Below, Figures, IsFigure, order}
use Rattle.measures.specs.Laws.{Laws, StrictLaws}
use Rattle.measures.specs.Pairs.{InTurn, both, order_in_turn}
use Rattle.measures.specs.Readings.{Reading, Takes}
use Rattle.measures.specs.declared.pair.PairCost.{PairCost}
use Rattle.std.proofs.ByRecursion.{All-append}
use Rattle.std.proofs.lemmas.List.{drop_at, length-append, take_at}
use Rattle.std.specs.Ordering.{is_gt, is_lt, ordering_then}
use Rattle.std.specs.List.{AllByRecursion}

-- ---- two halves compared in turn

less_from_test : (o : Ordering) → is_lt o ≡ true → o ≡ Less
less_from_test Less e = refl
less_from_test Equal e = absurd (true≢false (sym e))
less_from_test Greater e = absurd (true≢false (sym e))

-- what the first halves decide is kept, and what the second halves decide where the first are equal
then_kept : (P : Ordering → Type 0) → P Less → (P Greater → ⊥) → (o k p q : Ordering) → (o ≡ Less → k ≡ Less) → (o ≡ Equal → k ≡ Equal) → (P p → P q) → P (ordering_then o p) → P (ordering_then k q)
then_kept P less-in greater-out Less k p q less equal kept h = subst (λ j. P (ordering_then j q)) (sym (less refl)) less-in
then_kept P less-in greater-out Equal k p q less equal kept h = subst (λ j. P (ordering_then j q)) (sym (equal refl)) (kept h)
then_kept P less-in greater-out Greater k p q less equal kept h = absurd (greater-out h)

-- P holds of a pair's order after a step as before it, where the step keeps the first halves' order and P of the second halves' order
in_turn_kept : (P : Ordering → Type 0) → P Less → (P Greater → ⊥) → (f g : Figures → Figures) (fs gs hs ks : Figures) → length fs ≡ length gs → length (f fs) ≡ length (f gs) → (Below fs gs → Below (f fs) (f gs)) → (P (order hs ks) → P (order (g hs) (g ks))) → P (order (fs ++ hs) (gs ++ ks)) → P (order (f fs ++ g hs) (f gs ++ g ks))
unfolding Below
in_turn_kept P less-in greater-out f g fs gs hs ks wide wider less kept h =
    let lesser : order fs gs ≡ Less → order (f fs) (f gs) ≡ Less = λ e. less_from_test (order (f fs) (f gs)) (less (ap is_lt e)) in
    let same : order fs gs ≡ Equal → order (f fs) (f gs) ≡ Equal = λ e. ap (λ xs. order (f fs) (f xs)) (sym (same_from_order fs gs e)) ∙ order_same (f fs) in
    subst P (sym (order_append (f fs) (f gs) (g hs) (g ks) wider)) (then_kept P less-in greater-out (order fs gs) (order (f fs) (f gs)) (order hs ks) (order (g hs) (g ks)) lesser same kept (subst P (order_append fs gs hs ks wide) h))

not_greater : (o k : Ordering) → is_gt o ≡ false → is_gt k ≡ false → is_gt (ordering_then o k) ≡ false
not_greater Less k e h = refl
not_greater Equal k e h = h
not_greater Greater k e h = e

at_most_halves : (fs gs hs ks : Figures) → length fs ≡ length gs → AtMost fs gs → AtMost hs ks → AtMost (fs ++ hs) (gs ++ ks)
unfolding AtMost
at_most_halves fs gs hs ks wide first second = ap is_gt (order_append fs gs hs ks wide) ∙ not_greater (order fs gs) (order hs ks) first second

first_decides : (o k : Ordering) → (o ≢ Equal) → o ≡ ordering_then o k
first_decides Less k unequal = refl
first_decides Equal k unequal = absurd (unequal refl)
first_decides Greater k unequal = refl

-- ---- the pair's order and laws

module _ {A B : Type 0} (r : Reading A) (s : Reading B) (first : StrictLaws r) where
  steady : (b : A) → length (r.figures b) ≡ r.width
  steady b = first.weak.steady b

  wide_step : (b : A) (d : Semitones) → Takes r 1 b → IsMove d → length (r.step (r.figures b) d) ≡ r.width
  wide_step b d room moves = ap length (sym (first.weak.stepped b d room moves)) ∙ steady (r.pushed b d)

  next_takes : (k : ℕ) (b : A) (d : Semitones) → Takes r (suc k) b → IsMove d → Takes r k (r.pushed b d)
  next_takes k b d room moves = omega (arith, first.weak.longer b d (omega arith) moves)

  wide_steps : (b : A) (d e : Semitones) → Takes r 2 b → IsMove d → IsMove e → length (r.step (r.step (r.figures b) d) e) ≡ r.width
  wide_steps b d e room moves more = ap (λ fs. length (r.step fs e)) (sym (first.weak.stepped b d (omega arith) moves)) ∙ wide_step (r.pushed b d) e (next_takes 1 b d room moves) more

  step_halves : (fs gs : Figures) (d : Semitones) → length fs ≡ r.width → (both r s).step (fs ++ gs) d ≡ r.step fs d ++ s.step gs d
  step_halves fs gs d wide = rw (take_at fs gs r.width wide, drop_at fs gs r.width wide)

  in_turn_from : (b : A) (gs : Figures) (ds : List Semitones) → AllByRecursion IsMove ds → Takes r (length ds) b → fold (both r s).step (r.figures b ++ gs) ds ≡ fold r.step (r.figures b) ds ++ fold s.step gs ds
  in_turn_from b gs [] moves room = refl
  in_turn_from b gs (d ∷ ds) moves room =
      let stepped = first.weak.stepped b d (omega arith) moves.0 in
      ap (λ fs. fold (both r s).step fs ds) (step_halves (r.figures b) gs d (steady b) ∙ ap (λ fs. fs ++ s.step gs d) (sym stepped))
      ∙ in_turn_from (r.pushed b d) (s.step gs d) ds moves.1 (next_takes (length ds) b d room moves.0)
      ∙ ap (λ fs. fold r.step fs ds ++ fold s.step (s.step gs d) ds) stepped

  pub in_turn : InTurn r s
  in_turn ds fits = in_turn_from r.none (s.figures s.none) ds fits.moves (omega (arith, first.weak.empty, fits.few))

  wide_alike : (b c : PairCost A B) → length (r.figures b.first) ≡ length (r.figures c.first)
  wide_alike b c = steady b.first ∙ sym (steady c.first)

  pub order_halves : (b c : PairCost A B) → order ((both r s).figures b) ((both r s).figures c) ≡ order_in_turn r s b c
  order_halves b c = order_append (r.figures b.first) (r.figures c.first) (s.figures b.second) (s.figures c.second) (wide_alike b c)

  pub by_first : (b c : PairCost A B) (o : Ordering) → (o ≢ Equal) → o ≡ order (r.figures b.first) (r.figures c.first) → o ≡ order ((both r s).figures b) ((both r s).figures c)
  by_first b c o unequal e = first_decides o (order (s.figures b.second) (s.figures c.second)) unequal ∙ ap (λ k. ordering_then k (order (s.figures b.second) (s.figures c.second))) e ∙ sym (order_halves b c)

  pub by_second : (b c : PairCost A B) (o : Ordering) → Equal ≡ order (r.figures b.first) (r.figures c.first) → o ≡ order (s.figures b.second) (s.figures c.second) → o ≡ order ((both r s).figures b) ((both r s).figures c)
  by_second b c o e h = h ∙ ap (λ k. ordering_then k (order (s.figures b.second) (s.figures c.second))) e ∙ sym (order_halves b c)

  room_first : (k : ℕ) (c : PairCost A B) → Takes (both r s) k c → Takes r k c.first
  room_first k c room = omega arith

  room_second : (k : ℕ) (c : PairCost A B) → Takes (both r s) k c → Takes s k c.second
  room_second k c room = omega arith

  step_of : (c : PairCost A B) (d : Semitones) → (both r s).step ((both r s).figures c) d ≡ r.step (r.figures c.first) d ++ s.step (s.figures c.second) d
  step_of c d = step_halves (r.figures c.first) (s.figures c.second) d (steady c.first)

  steps_of : (c : PairCost A B) (d e : Semitones) → Takes (both r s) 2 c → IsMove d → (both r s).step ((both r s).step ((both r s).figures c) d) e ≡ r.step (r.step (r.figures c.first) d) e ++ s.step (s.step (s.figures c.second) d) e
  steps_of c d e room moves = ap (λ fs. (both r s).step fs e) (step_of c d) ∙ step_halves (r.step (r.figures c.first) d) (s.step (s.figures c.second) d) e (wide_step c.first d (omega arith) moves)

  kept : (P : Ordering → Type 0) → P Less → (P Greater → ⊥) → (b c : PairCost A B) (d : Semitones) → Takes (both r s) 1 b → Takes (both r s) 1 c → IsMove d → (P (order (s.figures b.second) (s.figures c.second)) → P (order (s.step (s.figures b.second) d) (s.step (s.figures c.second) d))) → P (order ((both r s).figures b) ((both r s).figures c)) → P (order ((both r s).step ((both r s).figures b) d) ((both r s).step ((both r s).figures c) d))
  kept P less-in greater-out b c d room room2 moves second h =
      let one = room_first 1 b room in
      let two = room_first 1 c room2 in
      let wider = wide_step b.first d one moves ∙ sym (wide_step c.first d two moves) in
      subst P (λ i. order (sym (step_of b d) i) (sym (step_of c d) i))
      (in_turn_kept P less-in greater-out (λ fs. r.step fs d) (λ fs. s.step fs d) (r.figures b.first) (r.figures c.first) (s.figures b.second) (s.figures c.second) (wide_alike b c) wider (first.strict b.first c.first d one two moves) second h)

  module _ (second : Laws s) where
    longer : (c : PairCost A B) (d : Semitones) → Takes (both r s) 1 c → IsMove d → (both r s).moves ((both r s).pushed c d) ≡ (both r s).moves c + 1
    longer c d room moves = omega (arith, first.weak.longer c.first d (room_first 1 c room) moves, second.longer c.second d (room_second 1 c room) moves)

    stepped : (c : PairCost A B) (d : Semitones) → Takes (both r s) 1 c → IsMove d → (both r s).figures ((both r s).pushed c d) ≡ (both r s).step ((both r s).figures c) d
    stepped c d room moves = (λ i. first.weak.stepped c.first d (room_first 1 c room) moves i ++ second.stepped c.second d (room_second 1 c room) moves i) ∙ sym (step_of c d)

    small : (c : PairCost A B) (d : Semitones) → Takes (both r s) 1 c → IsMove d → AllByRecursion IsFigure ((both r s).step ((both r s).figures c) d)
    small c d room moves = subst (AllByRecursion IsFigure) (sym (step_of c d)) (All-append IsFigure (r.step (r.figures c.first) d) (s.step (s.figures c.second) d) (first.weak.small.1 c.first d (room_first 1 c room) moves) (second.small.1 c.second d (room_second 1 c room) moves))

    swap : (c : PairCost A B) (d e : Semitones) → Takes (both r s) 2 c → IsMove d → IsMove e → (both r s).step ((both r s).step ((both r s).figures c) d) e ≡ (both r s).step ((both r s).step ((both r s).figures c) e) d
    swap c d e room moves more = steps_of c d e room moves ∙ (λ i. first.weak.swap c.first d e (room_first 2 c room) moves more i ++ second.swap c.second d e (room_second 2 c room) moves more i) ∙ sym (steps_of c e d room more)

    keep : (b c : PairCost A B) (d : Semitones) → Takes (both r s) 1 b → Takes (both r s) 1 c → IsMove d → AtMost ((both r s).figures b) ((both r s).figures c) → AtMost ((both r s).step ((both r s).figures b) d) ((both r s).step ((both r s).figures c) d)
    unfolding AtMost
    keep b c d room room2 moves = kept (λ o. is_gt o ≡ false) refl true≢false b c d room room2 moves (second.keep b.second c.second d (room_second 1 b room) (room_second 1 c room2) moves)

    uncross : (c : PairCost A B) (a a2 b b2 : ℕ) → IsPitch a2 → IsPitch b2 → a ≤ a2 → b ≤ b2 → Takes (both r s) 2 c → IsMove (move a b2) → IsMove (move a2 b) → AtMost ((both r s).step ((both r s).step ((both r s).figures c) (move a b)) (move a2 b2)) ((both r s).step ((both r s).step ((both r s).figures c) (move a b2)) (move a2 b))
    uncross c a a2 b b2 high high2 h k room moves more =
        let straight = straight_moves a a2 b b2 h k moves more in
        let one = room_first 2 c room in
        let wide = wide_steps c.first (move a b) (move a2 b2) one straight.0 straight.1 ∙ sym (wide_steps c.first (move a b2) (move a2 b) one moves more) in
        rw (steps_of c (move a b) (move a2 b2) room straight.0, steps_of c (move a b2) (move a2 b) room moves)
        (at_most_halves _ _ _ _ wide (first.weak.uncross c.first a a2 b b2 high high2 h k one moves more) (second.uncross c.second a a2 b b2 high high2 h k (room_second 2 c room) moves more))

    pub pair_laws : Laws (both r s)
    pair_laws = record {
      steady = λ c. length-append (r.figures c.first) (s.figures c.second) ∙ (λ i. steady c.first i + second.steady c.second i);
      bounded = λ c. omega (arith, first.weak.bounded c.first, second.bounded c.second);
      empty = λ i. max (first.weak.empty i) (second.empty i);
      longer = longer;
      stepped = stepped;
      small = (All-append IsFigure (r.figures r.none) (s.figures s.none) first.weak.small.0 second.small.0, small);
      swap = swap;
      keep = keep;
      uncross = uncross;
    }

  module _ (second : StrictLaws s) where
    strict : (b c : PairCost A B) (d : Semitones) → Takes (both r s) 1 b → Takes (both r s) 1 c → IsMove d → Below ((both r s).figures b) ((both r s).figures c) → Below ((both r s).step ((both r s).figures b) d) ((both r s).step ((both r s).figures c) d)
    unfolding Below
    strict b c d room room2 moves = kept (λ o. is_lt o ≡ true) refl (λ e. true≢false (sym e)) b c d room room2 moves (second.strict b.second c.second d (room_second 1 b room) (room_second 1 c room2) moves)

    pub pair_strict_laws : StrictLaws (both r s)
    pair_strict_laws = record { weak = pair_laws second.weak; strict = strict }
