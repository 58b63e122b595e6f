-- The straight moves of two voices beside the crossed ones.
use Rattle.std.specs.Prelude.{◌≡◌, ℕ, ◌+◌, ◌-◌, ◌≤◌, min, max}
use Rattle.std.proofs.Common.{subst, arith}
use Rattle.harmony.specs.Moves.{IsMove, Semitones, move}
use Rattle.harmony.specs.Pitches.{IsPitch}

module _ (a a2 b b2 : ℕ) (p : a ≤ a2) (q : b ≤ b2) where
  pub straight_together : move a b + move a2 b2 ≤ move a b2 + move a2 b
  straight_together = omega arith

  pub straight_greater : max (move a b) (move a2 b2) ≤ max (move a b2) (move a2 b)
  straight_greater = omega arith

  pub straight_moves : IsMove (move a b2) → IsMove (move a2 b) → IsMove (move a b) × IsMove (move a2 b2)
  straight_moves h k = (omega arith, omega arith)

-- two voices so many semitones lower move as they did
lowered : (m a b : ℕ) → m ≤ a → m ≤ b → move (a - m) (b - m) ≡ move a b
lowered m a b h k = omega arith

-- what the moves of two voices keep wherever pitches stand, they keep everywhere: the four lie within 48 semitones
pub anywhere : (P : Semitones → Semitones → Semitones → Semitones → Type 0) → ((a a2 b b2 : ℕ) → IsPitch a2 → IsPitch b2 → a ≤ a2 → b ≤ b2 → IsMove (move a b2) → IsMove (move a2 b) → P (move a b) (move a2 b2) (move a b2) (move a2 b)) → (a a2 b b2 : ℕ) → a ≤ a2 → b ≤ b2 → IsMove (move a b2) → IsMove (move a2 b) → P (move a b) (move a2 b2) (move a b2) (move a2 b)
anywhere P law a a2 b b2 p q h k =
    let m = min a b in
    let ab = lowered m a b (omega arith) (omega arith) in
    let a2b2 = lowered m a2 b2 (omega arith) (omega arith) in
    let ab2 = lowered m a b2 (omega arith) (omega arith) in
    let a2b = lowered m a2 b (omega arith) (omega arith) in
    subst (λ d. P d (move a2 b2) (move a b2) (move a2 b)) ab
    (subst (λ d. P (move (a - m) (b - m)) d (move a b2) (move a2 b)) a2b2
    (subst (λ d. P (move (a - m) (b - m)) (move (a2 - m) (b2 - m)) d (move a2 b)) ab2
    (subst (λ d. P (move (a - m) (b - m)) (move (a2 - m) (b2 - m)) (move (a - m) (b2 - m)) d) a2b
    (law (a - m) (a2 - m) (b - m) (b2 - m) (omega arith) (omega arith) (omega arith) (omega arith) (omega arith) (omega arith)))))
