-- The test of neighbours, from what is known of each pair.
use Rattle.std.proofs.Common.{◌≡◌, ℕ, zero, suc, ◌+◌, ◌<◌, Bool, true, false, List, [], ◌∷◌, length, get_or, sym, refl, arith}
use Rattle.harmony.specs.Neighbours.{neighbours}
use Rattle.std.proofs.lemmas.Bool.{and_right}
use Rattle.std.specs.List.{IsAllAdjacentAnswer}

module _ {X : Type 0} (pass : X → X → Bool) where
  passed : (xs : List X) → ((k : ℕ) (d : X) → k + 1 < length xs → true ≡ pass (get_or xs k d) (get_or xs (k + 1) d)) → neighbours pass xs ≡ true
  passed [] h = refl
  passed (x ∷ []) h = refl
  passed (x ∷ y ∷ ys) h = rw (sym (h 0 x (omega arith))) (passed (y ∷ ys) (λ k d i. let e : suc k + 1 ≡ suc (k + 1) = omega arith in rw e at (h (suc k) d (omega arith))))

  failed : (xs : List X) (k : ℕ) → k + 1 < length xs → ((d : X) → false ≡ pass (get_or xs k d) (get_or xs (k + 1) d)) → neighbours pass xs ≡ false
  failed [] k h e = absurd (omega arith)
  failed (x ∷ []) k h e = absurd (omega arith)
  failed (x ∷ y ∷ ys) zero h e = rw (sym (e x))
  failed (x ∷ y ∷ ys) (suc k) h e = and_right (pass x y) (neighbours pass (y ∷ ys)) (failed (y ∷ ys) k (omega arith) (λ d. let f : suc k + 1 ≡ suc (k + 1) = omega arith in rw f at (e d)))

  -- what a search for a pair that fails has answered
  pub neighbours_are : (xs : List X) (answer : Bool) → IsAllAdjacentAnswer (λ x y b. b ≡ pass x y) xs answer → answer ≡ neighbours pass xs
  neighbours_are xs true h = sym (passed xs h)
  neighbours_are xs false h = sym (failed xs h.0 h.1 h.2)
