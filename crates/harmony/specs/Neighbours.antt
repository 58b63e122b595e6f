-- A test of each two neighbours of a list.
use Rattle.std.specs.Prelude.{Bool, true, ◌&&◌, List, [], ◌∷◌}

-- every element and the one behind it pass the test
abbrev pub neighbours : {X : Type 0} → (X → X → Bool) → List X → Bool
neighbours pass [] = true
neighbours pass (x ∷ []) = true
neighbours pass (x ∷ y ∷ ys) = pass x y && neighbours pass (y ∷ ys)
