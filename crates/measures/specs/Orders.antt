-- The order of figures.
use Rattle.std.specs.Prelude.{◌≡◌, ℕ, zero, suc, ◌<◌, ◌≤◌, true, false, [], ◌∷◌, ◌++◌, length, take, drop, slice_index, refl}
use Rattle.std.specs.declared.cmp.Ordering.TheVariants.{Less, Equal, Greater}
use Rattle.std.specs.declared.cmp.Ordering.{Ordering}
use Rattle.std.proofs.Common.{true≢false, ◌∙◌, ap, subst, sym, arith}
use Rattle.measures.specs.Figures.{AtMost, Below, Figures, FirstLower, OrderMeans, order}
use Rattle.std.specs.Cmp.{nat_cmp_is, ranks}
use Rattle.std.specs.FinMap.{nat_cmp-IsAntisymmetric, slice_cmp-IsAntisymmetric}
use Rattle.std.specs.Ordering.{MatchOrdering, is_gt, is_lt, ordering_then, nat_cmp}

-- ---- single numbers

pub rank_less : (m n : ℕ) → m < n → nat_cmp m n ≡ Less
rank_less m n h = sym (nat_cmp_is m n Less h)

pub rank_same : (m : ℕ) → nat_cmp m m ≡ Equal
rank_same m = sym (nat_cmp_is m m Equal refl)

-- ---- lists of figures

pub order_same : (fs : Figures) → order fs fs ≡ Equal
order_same [] = refl
order_same (f ∷ fs) = ap (λ o. ordering_then o (order fs fs)) (rank_same f) ∙ order_same fs

pub same_from_order : (fs gs : Figures) → order fs gs ≡ Equal → fs ≡ gs
same_from_order = slice_cmp-IsAntisymmetric nat_cmp-IsAntisymmetric

then_assoc : (a b c : Ordering) → ordering_then (ordering_then a b) c ≡ ordering_then a (ordering_then b c)
then_assoc Less b c = refl
then_assoc Equal b c = refl
then_assoc Greater b c = refl

pub order_append : (fs gs hs ks : Figures) → length fs ≡ length gs → order (fs ++ hs) (gs ++ ks) ≡ ordering_then (order fs gs) (order hs ks)
order_append [] [] hs ks e = refl
order_append [] (g ∷ gs) hs ks e = absurd (omega arith)
order_append (f ∷ fs) [] hs ks e = absurd (omega arith)
order_append (f ∷ fs) (g ∷ gs) hs ks e = ap (ordering_then (nat_cmp f g)) (order_append fs gs hs ks (omega arith)) ∙ sym (then_assoc (nat_cmp f g) (order fs gs) (order hs ks))

pub at_most_same : (fs gs : Figures) → fs ≡ gs → AtMost fs gs
unfolding AtMost
at_most_same fs gs e = subst (λ hs. is_gt (order fs hs) ≡ false) e (ap is_gt (order_same fs))

-- ---- one figure

one_at_most : (m n : ℕ) (o : Ordering) → m ≤ n → MatchOrdering o (m < n) (m ≡ n) (n < m) → is_gt (ordering_then o Equal) ≡ false
one_at_most m n Less h k = refl
one_at_most m n Equal h k = refl
one_at_most m n Greater h k = absurd (omega arith)

pub at_most_one : (m n : ℕ) → m ≤ n → AtMost (m ∷ []) (n ∷ [])
unfolding AtMost
at_most_one m n h = one_at_most m n (nat_cmp m n) h (ranks m n)

one_le : (m n : ℕ) (o : Ordering) → MatchOrdering o (m < n) (m ≡ n) (n < m) → is_gt (ordering_then o Equal) ≡ false → m ≤ n
one_le m n Less k h = omega arith
one_le m n Equal k h = omega arith
one_le m n Greater k h = absurd (true≢false h)

pub le_from_at_most : (m n : ℕ) → AtMost (m ∷ []) (n ∷ []) → m ≤ n
unfolding AtMost
le_from_at_most m n h = one_le m n (nat_cmp m n) (ranks m n) h

pub below_one : (m n : ℕ) → m < n → Below (m ∷ []) (n ∷ [])
unfolding Below
below_one m n h = ap (λ o. is_lt (ordering_then o Equal)) (rank_less m n h)

one_lt : (m n : ℕ) (o : Ordering) → MatchOrdering o (m < n) (m ≡ n) (n < m) → is_lt (ordering_then o Equal) ≡ true → m < n
one_lt m n Less k h = k
one_lt m n Equal k h = absurd (true≢false (sym h))
one_lt m n Greater k h = absurd (true≢false (sym h))

pub lt_from_below : (m n : ℕ) → Below (m ∷ []) (n ∷ []) → m < n
unfolding Below
lt_from_below m n h = one_lt m n (nat_cmp m n) (ranks m n) h

-- ---- the first place where two lists differ

lower_later : (f g : ℕ) (fs gs : Figures) → f ≡ g → FirstLower fs gs → FirstLower (f ∷ fs) (g ∷ gs)
lower_later f g fs gs e (k, h) = (suc k, ((λ i. e i ∷ h.0 i), h.1))

lower_ranked : (f g : ℕ) (fs gs : Figures) (o : Ordering) → (order fs gs ≡ Less → FirstLower fs gs) → MatchOrdering o (f < g) (f ≡ g) (g < f) → ordering_then o (order fs gs) ≡ Less → FirstLower (f ∷ fs) (g ∷ gs)
lower_ranked f g fs gs Less rest h e = (0, (refl, h))
lower_ranked f g fs gs Equal rest h e = lower_later f g fs gs h (rest e)
lower_ranked f g fs gs Greater rest h e = absurd (true≢false (ap is_gt e))

lower_from_less : (fs gs : Figures) → length fs ≡ length gs → order fs gs ≡ Less → FirstLower fs gs
lower_from_less [] [] w e = absurd (true≢false (sym (ap is_lt e)))
lower_from_less [] (g ∷ gs) w e = absurd (omega arith)
lower_from_less (f ∷ fs) [] w e = absurd (omega arith)
lower_from_less (f ∷ fs) (g ∷ gs) w e = lower_ranked f g fs gs (nat_cmp f g) (lower_from_less fs gs (omega arith)) (ranks f g) e

less_at : (k : ℕ) (fs gs : Figures) → length fs ≡ length gs → take k fs ≡ take k gs → slice_index fs k < slice_index gs k → order fs gs ≡ Less
less_at k [] [] w e h = absurd (omega (arith, h))
less_at k [] (g ∷ gs) w e h = absurd (omega arith)
less_at k (f ∷ fs) [] w e h = absurd (omega arith)
less_at zero (f ∷ fs) (g ∷ gs) w e h = ap (λ o. ordering_then o (order fs gs)) (rank_less f g h)
less_at (suc k) (f ∷ fs) (g ∷ gs) w e h = ap (λ o. ordering_then o (order fs gs)) (ap (λ n. nat_cmp f n) (sym (ap (λ xs. slice_index xs 0) e)) ∙ rank_same f) ∙ less_at k fs gs (omega arith) (ap (drop 1) e) h

less_from_lower : (fs gs : Figures) → length fs ≡ length gs → FirstLower fs gs → order fs gs ≡ Less
less_from_lower fs gs w (k, h) = less_at k fs gs w h.0 h.1

pub order_means : (fs gs : Figures) → OrderMeans fs gs
order_means fs gs = ((same_from_order fs gs, λ e. ap (order fs) (sym e) ∙ order_same fs), λ w. (lower_from_less fs gs w, less_from_lower fs gs w))
