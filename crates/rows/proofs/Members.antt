-- What lies in lists that are mapped and joined.
use Rattle.std.proofs.Common.{◌≡◌, ℕ, zero, suc, ◌+◌, ◌<◌, ◌≤◌, ◌⊎◌, List, [], ◌∷◌, ◌++◌, map, sym, refl, ap, subst, inl, inr, arith}
use Rattle.rows.specs.Enumeration.{In}
use Rattle.std.proofs.lemmas.Bool.{cases_eq}
use Rattle.std.specs.List.{range_with_len, flat_map}

module _ {X : Type 0} where
  pub in_left : (x : X) (xs ys : List X) → In x xs → In x (xs ++ ys)
  in_left x [] ys h = absurd h
  in_left x (y ∷ xs) ys (inl e) = inl e
  in_left x (y ∷ xs) ys (inr h) = inr (in_left x xs ys h)

  pub in_right : (x : X) (xs ys : List X) → In x ys → In x (xs ++ ys)
  in_right x [] ys h = h
  in_right x (y ∷ xs) ys h = inr (in_right x xs ys h)

  pub in_append : (x : X) (xs ys : List X) → In x (xs ++ ys) → In x xs ⊎ In x ys
  in_append x [] ys h = inr h
  in_append x (y ∷ xs) ys (inl e) = inl (inl e)
  in_append x (y ∷ xs) ys (inr h) = elim (in_append x xs ys h) [ inl g ↦ inl (inr g) | inr g ↦ inr g ]

module _ {X Y : Type 0} (f : X → Y) where
  pub in_map : (x : X) (xs : List X) → In x xs → In (f x) (map f xs)
  in_map x [] h = absurd h
  in_map x (y ∷ xs) (inl e) = inl (ap f e)
  in_map x (y ∷ xs) (inr h) = inr (in_map x xs h)

  pub from_map : (y : Y) (xs : List X) → In y (map f xs) → (x : X) × (f x ≡ y) × In x xs
  from_map y [] h = absurd h
  from_map y (x ∷ xs) (inl e) = (x, e, inl refl)
  from_map y (x ∷ xs) (inr h) = let r = from_map y xs h in (r.0, r.1, inr r.2)

module _ {X Y : Type 0} (f : X → List Y) where
  pub in_joined : (y : Y) (x : X) (xs : List X) → In x xs → In y (f x) → In y (flat_map f xs)
  in_joined y x [] h k = absurd h
  in_joined y x (z ∷ xs) (inl e) k = in_left y (f z) (flat_map f xs) (subst (λ w. In y (f w)) (sym e) k)
  in_joined y x (z ∷ xs) (inr h) k = in_right y (f z) (flat_map f xs) (in_joined y x xs h k)

  pub from_joined : (y : Y) (xs : List X) → In y (flat_map f xs) → (x : X) × In x xs × In y (f x)
  from_joined y [] h = absurd h
  from_joined y (x ∷ xs) h = elim (in_append y (f x) (flat_map f xs) h) [ inl g ↦ (x, inl refl, g) | inr g ↦ (let r = from_joined y xs g in (r.0, inr r.1, r.2)) ]

-- what a count from a upward has
pub in_counting : (p a n : ℕ) → a ≤ p → p < a + n → In p (range_with_len a n)
in_counting p a zero h k = absurd (omega arith)
in_counting p a (suc n) h k = elim (cases_eq a p) [ inl e ↦ inl e | inr ne ↦ inr (in_counting p (a + 1) n (omega arith) (omega arith)) ]

pub from_counting : (p a n : ℕ) → In p (range_with_len a n) → (a ≤ p) × (p < a + n)
from_counting p a zero h = absurd h
from_counting p a (suc n) (inl e) = (omega arith, omega arith)
from_counting p a (suc n) (inr h) = let r = from_counting p (a + 1) n h in (omega arith, omega arith)
