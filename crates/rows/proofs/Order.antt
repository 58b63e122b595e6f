-- The rows come in strict order.
use Rattle.std.proofs.Common.{◌≡◌, ℕ, zero, suc, ◌+◌, ◌-◌, ◌≤◌, List, [], ◌∷◌, ◌++◌, map, refl, inl, inr, arith}
use Rattle.harmony.specs.Pitches.{class}
use Rattle.harmony.specs.declared.range.Bounds.{Bounds}
use Rattle.rows.specs.Arrangements.{Earlier}
use Rattle.rows.specs.Enumeration.{Footing, InOrder, above, all_zero, less, may, rows_on}
use Rattle.std.proofs.ByRecursion.{All-append, All-map, All-weaker}
use Rattle.std.proofs.lemmas.Bool.{cond_both}
use Rattle.std.specs.List.{range_with_len, flat_map, AllByRecursion}

-- what begins with p, and with p or a higher pitch
abbrev From : ℕ → List ℕ → Type 0
From p [] = ⊥
From p (q ∷ qs) = p ≤ q

abbrev At : ℕ → List ℕ → Type 0
At p [] = ⊥
At p (q ∷ qs) = q ≡ p

at_before : (p : ℕ) (r s : List ℕ) → At p r → From (p + 1) s → Earlier r s
at_before p [] s h k = absurd h
at_before p (q ∷ qs) [] h k = absurd k
at_before p (q ∷ qs) (t ∷ ts) h k = inl (omega arith)

order_append : (p : ℕ) (xs ys : List (List ℕ)) → AllByRecursion (At p) xs → AllByRecursion (From (p + 1)) ys → InOrder xs → InOrder ys → InOrder (xs ++ ys)
order_append p [] ys h k o u = u
order_append p (x ∷ xs) ys h k o u =
    (All-append (Earlier x) xs ys o.0 (All-weaker (From (p + 1)) (Earlier x) (λ y g. at_before p x y h.0 g) ys k), order_append p xs ys h.1 k o.1 u)

order_map : (p : ℕ) (xs : List (List ℕ)) → InOrder xs → InOrder (map (λ ps. p ∷ ps) xs)
order_map p [] o = tt
order_map p (x ∷ xs) o =
    (All-map (Earlier (p ∷ x)) (λ ps. p ∷ ps) xs (All-weaker (Earlier x) (λ y. Earlier (p ∷ x) (p ∷ y)) (λ y g. inr (refl, g)) xs o.0), order_map p xs o.1)

at_map : (p : ℕ) (xs : List (List ℕ)) → AllByRecursion (At p) (map (λ ps. p ∷ ps) xs)
at_map p [] = tt
at_map p (x ∷ xs) = (refl, at_map p xs)

at_from : (p a : ℕ) (xs : List (List ℕ)) → a ≤ p → AllByRecursion (At p) xs → AllByRecursion (From a) xs
at_from p a xs h = All-weaker (At p) (From a) (λ x g. one x g) xs
  where
    one : (x : List ℕ) → At p x → From a x
    one [] g = absurd g
    one (q ∷ qs) g = omega arith

module _ (f : ℕ → List (List ℕ)) (begins : (p : ℕ) → AllByRecursion (At p) (f p)) where
  from_joined : (a n : ℕ) → AllByRecursion (From a) (flat_map f (range_with_len a n))
  from_joined a zero = tt
  from_joined a (suc n) =
      All-append (From a) (f a) (flat_map f (range_with_len (a + 1) n)) (at_from a a (f a) (omega arith) (begins a))
      (All-weaker (From (a + 1)) (From a) lower (flat_map f (range_with_len (a + 1) n)) (from_joined (a + 1) n))
    where
      lower : (x : List ℕ) → From (a + 1) x → From a x
      lower [] g = g
      lower (q ∷ qs) g = omega arith

  order_joined : ((p : ℕ) → InOrder (f p)) → (a n : ℕ) → InOrder (flat_map f (range_with_len a n))
  order_joined o a zero = tt
  order_joined o a (suc n) =
      order_append a (f a) (flat_map f (range_with_len (a + 1) n)) (begins a) (from_joined (a + 1) n) (o a) (order_joined o (a + 1) n)

pub in_order : (vs : List Bounds) (footing : Footing) (left : List ℕ) → InOrder (rows_on vs footing left)
unfolding rows_on
in_order [] footing left = cond_both (all_zero left) ([] ∷ []) [] InOrder (λ e. (tt, tt)) (λ e. tt)
in_order (v ∷ vs) footing left =
    order_joined _
    (λ p. cond_both (may footing left p) _ [] (AllByRecursion (At p)) (λ e. at_map p (rows_on vs (above p) (less left (class p)))) (λ e. tt))
    (λ p. cond_both (may footing left p) _ [] InOrder (λ e. order_map p _ (in_order vs (above p) (less left (class p)))) (λ e. tt))
    v.low (suc v.high - v.low)
