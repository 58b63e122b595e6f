-- What a function says of each element of a list, as a list.
use Rattle.std.proofs.Common.{◌≡◌, ℕ, suc, ◌<◌, List, [], ◌∷◌, map, length, get_or, refl, arith}

pub mapped_all : {X : Type 0} (f : X → ℕ) (xs : List X) (ys : List ℕ) → length ys ≡ length xs → ((i : ℕ) (d : X) → i < length xs → get_or ys i 0 ≡ f (get_or xs i d)) → ys ≡ map f xs
mapped_all f [] [] long h = refl
mapped_all f [] (y ∷ ys) long h = absurd (omega arith)
mapped_all f (x ∷ xs) [] long h = absurd (omega arith)
mapped_all f (x ∷ xs) (y ∷ ys) long h = λ i. h 0 x (omega arith) i ∷ mapped_all f xs ys (omega arith) (λ k d l. h (suc k) d (omega arith)) i
