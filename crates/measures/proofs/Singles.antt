-- Measures of one figure.
use Rattle.std.proofs.Common.{◌≡◌, ℕ, ◌+◌, ◌<◌, ◌≤◌, [], ◌∷◌, refl, ap}
use Rattle.harmony.specs.Moves.{IsMove, Semitones, move}
use Rattle.measures.specs.Orders.{at_most_one, below_one, le_from_at_most, lt_from_below}
use Rattle.measures.specs.Figures.{IsFigure}
use Rattle.measures.specs.Laws.{Laws, StrictLaws}
use Rattle.measures.specs.Readings.{Reading, Takes, most_moves, only}

-- a measure of one figure, from what a move makes of it
module _ {C : Type 0} (figure moves : C → ℕ) (none : C) (pushed : C → Semitones → C) (with : ℕ → Semitones → ℕ) where
  abbrev pub single : Reading C
  single = record {
    width = 1;
    figures = λ c. figure c ∷ [];
    moves = moves;
    none = none;
    pushed = pushed;
    step = only with;
  }

  -- what is left to show of it
  pub record SingleLaws : Type 0 where
    pub bounded : (c : C) → moves c ≤ most_moves
    pub empty : moves none ≡ 0
    pub longer : (c : C) (d : Semitones) → Takes single 1 c → IsMove d → moves (pushed c d) ≡ moves c + 1
    pub stepped : (c : C) (d : Semitones) → Takes single 1 c → IsMove d → figure (pushed c d) ≡ with (figure c) d
    pub small : IsFigure (figure none) × ((c : C) (d : Semitones) → Takes single 1 c → IsMove d → IsFigure (with (figure c) d))
    pub swap : (f : ℕ) (d e : Semitones) → with (with f d) e ≡ with (with f e) d
    pub keep : (f g : ℕ) (d : Semitones) → f ≤ g → with f d ≤ with g d
    pub uncross : (f a a2 b b2 : ℕ) → a ≤ a2 → b ≤ b2 → IsMove (move a b2) → IsMove (move a2 b) → with (with f (move a b)) (move a2 b2) ≤ with (with f (move a b2)) (move a2 b)

  pub single_laws : SingleLaws → Laws single
  single_laws l = record {
    steady = λ c. refl;
    bounded = l.bounded;
    empty = l.empty;
    longer = l.longer;
    stepped = λ c d t h. ap (λ f. f ∷ []) (l.stepped c d t h);
    small = ((l.small.0, tt), λ c d t h. (l.small.1 c d t h, tt));
    swap = λ c d e t h k. ap (λ f. f ∷ []) (l.swap (figure c) d e);
    keep = λ b c d s t h k. at_most_one (with (figure b) d) (with (figure c) d) (l.keep (figure b) (figure c) d (le_from_at_most (figure b) (figure c) k));
    uncross = λ c a a2 b b2 _ _ p q t h k. at_most_one (with (with (figure c) (move a b)) (move a2 b2)) (with (with (figure c) (move a b2)) (move a2 b)) (l.uncross (figure c) a a2 b b2 p q h k);
  }

  pub single_strict_laws : SingleLaws → ((f g : ℕ) (d : Semitones) → f < g → with f d < with g d) → StrictLaws single
  single_strict_laws l s = record {
    weak = single_laws l;
    strict = λ b c d _ _ h k. below_one (with (figure b) d) (with (figure c) d) (s (figure b) (figure c) d (lt_from_below (figure b) (figure c) k));
  }
