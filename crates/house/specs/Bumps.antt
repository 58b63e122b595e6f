-- Lists of counts with one more at a place.
use Rattle.std.specs.Prelude.{◌≡◌, ℕ, zero, suc, ◌+◌, ◌<◌, ◌≤◌, [], ◌∷◌, refl}
use Rattle.std.specs.declared.cmp.Ordering.TheVariants.{Less, Equal, Greater}
use Rattle.std.specs.declared.cmp.Ordering.{Ordering}
use Rattle.std.proofs.Common.{◌∙◌, ap, sym, arith}
use Rattle.measures.specs.Orders.{at_most_same, rank_less, rank_same}
use Rattle.measures.specs.Figures.{AtMost, Below, Figures, order}
use Rattle.house.specs.Tables.{bump}
use Rattle.std.specs.Cmp.{nat_cmp_is, ranks}
use Rattle.std.specs.Ordering.{MatchOrdering, is_gt, is_lt, ordering_then, nat_cmp}

pub bump_bump : (i j : ℕ) (fs : Figures) → bump i (bump j fs) ≡ bump j (bump i fs)
bump_bump i j [] = refl
bump_bump zero zero (f ∷ fs) = refl
bump_bump zero (suc j) (f ∷ fs) = refl
bump_bump (suc i) zero (f ∷ fs) = refl
bump_bump (suc i) (suc j) (f ∷ fs) = ap (λ gs. f ∷ gs) (bump_bump i j fs)

-- ---- the order stays

ranked_more : (f g : ℕ) (o : Ordering) → MatchOrdering o (f < g) (f ≡ g) (g < f) → MatchOrdering o (f + 1 < g + 1) (f + 1 ≡ g + 1) (g + 1 < f + 1)
ranked_more f g Less h = omega arith
ranked_more f g Equal h = omega arith
ranked_more f g Greater h = omega arith

rank_more : (f g : ℕ) → nat_cmp (f + 1) (g + 1) ≡ nat_cmp f g
rank_more f g = sym (nat_cmp_is (f + 1) (g + 1) (nat_cmp f g) (ranked_more f g (nat_cmp f g) (ranks f g)))

order_bump : (i : ℕ) (fs gs : Figures) → order (bump i fs) (bump i gs) ≡ order fs gs
order_bump i [] [] = refl
order_bump zero [] (g ∷ gs) = refl
order_bump (suc i) [] (g ∷ gs) = refl
order_bump zero (f ∷ fs) [] = refl
order_bump (suc i) (f ∷ fs) [] = refl
order_bump zero (f ∷ fs) (g ∷ gs) = ap (λ o. ordering_then o (order fs gs)) (rank_more f g)
order_bump (suc i) (f ∷ fs) (g ∷ gs) = ap (ordering_then (nat_cmp f g)) (order_bump i fs gs)

pub at_most_bump : (i : ℕ) (fs gs : Figures) → AtMost fs gs → AtMost (bump i fs) (bump i gs)
unfolding AtMost
at_most_bump i fs gs h = ap is_gt (order_bump i fs gs) ∙ h

pub below_bump : (i : ℕ) (fs gs : Figures) → Below fs gs → Below (bump i fs) (bump i gs)
unfolding Below
below_bump i fs gs h = ap is_lt (order_bump i fs gs) ∙ h

-- ---- not greater, by the first figures

less_first : (f g : ℕ) (fs gs : Figures) → f < g → AtMost (f ∷ fs) (g ∷ gs)
unfolding AtMost
less_first f g fs gs h = ap (λ o. is_gt (ordering_then o (order fs gs))) (rank_less f g h)

same_first : (f : ℕ) (fs gs : Figures) → AtMost fs gs → AtMost (f ∷ fs) (f ∷ gs)
unfolding AtMost
same_first f fs gs h = ap (λ o. is_gt (ordering_then o (order fs gs))) (rank_same f) ∙ h

-- one more further back is not more
later_bump : (i k : ℕ) (fs : Figures) → k ≤ i → AtMost (bump i fs) (bump k fs)
later_bump i k [] h = at_most_same [] [] refl
later_bump zero zero (f ∷ fs) h = at_most_same _ _ refl
later_bump zero (suc k) (f ∷ fs) h = absurd (omega arith)
later_bump (suc i) zero (f ∷ fs) h = less_first f (f + 1) _ _ (omega arith)
later_bump (suc i) (suc k) (f ∷ fs) h = same_first f _ _ (later_bump i k fs (omega arith))

-- two more, none of them before the first of two others, and together not before those
pub later_bumps : (i j k l : ℕ) (fs : Figures) → k ≤ l → k ≤ i → k ≤ j → k + l ≤ i + j → AtMost (bump i (bump j fs)) (bump k (bump l fs))
later_bumps i j k l [] lk ik jk h = at_most_same [] [] refl
later_bumps zero zero zero zero (f ∷ fs) lk ik jk h = at_most_same _ _ refl
later_bumps zero zero zero (suc l) (f ∷ fs) lk ik jk h = absurd (omega arith)
later_bumps zero (suc j) zero zero (f ∷ fs) lk ik jk h = less_first _ _ _ _ (omega arith)
later_bumps zero (suc j) zero (suc l) (f ∷ fs) lk ik jk h = same_first _ _ _ (later_bump j l fs (omega arith))
later_bumps (suc i) zero zero zero (f ∷ fs) lk ik jk h = less_first _ _ _ _ (omega arith)
later_bumps (suc i) zero zero (suc l) (f ∷ fs) lk ik jk h = same_first _ _ _ (later_bump i l fs (omega arith))
later_bumps (suc i) (suc j) zero zero (f ∷ fs) lk ik jk h = less_first _ _ _ _ (omega arith)
later_bumps (suc i) (suc j) zero (suc l) (f ∷ fs) lk ik jk h = less_first _ _ _ _ (omega arith)
later_bumps i j (suc k) zero (f ∷ fs) lk ik jk h = absurd (omega arith)
later_bumps zero j (suc k) (suc l) (f ∷ fs) lk ik jk h = absurd (omega arith)
later_bumps (suc i) zero (suc k) (suc l) (f ∷ fs) lk ik jk h = absurd (omega arith)
later_bumps (suc i) (suc j) (suc k) (suc l) (f ∷ fs) lk ik jk h = same_first f _ _ (later_bumps i j k l fs (omega arith) (omega arith) (omega arith) (omega arith))
