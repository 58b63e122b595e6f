-- The number of moves of a content.
use Rattle.std.proofs.Common.{◌≡◌, ℕ, ◌+◌, ◌<◌, ◌≤◌, Bool, true, false, cond, ◌&&◌, ltb, refl, arith, ltb-false, ltb-true}
use Rattle.measures.specs.Readings.{held, most_moves}

-- what holds of a content that can take a move
pub record Held (could_be : Bool) (moves : ℕ) : Type 0 where
  pub possible : could_be ≡ true
  pub few : moves < most_moves
  pub named : held could_be moves ≡ moves

tested_taking : (small could_be : Bool) (moves : ℕ) → ltb moves most_moves ≡ small → cond (small && could_be) moves most_moves + 1 ≤ most_moves → Held could_be moves
tested_taking true true moves e h = record { possible = refl; few = ltb-true moves most_moves e; named = λ i. cond (e i && true) moves most_moves }
tested_taking true false moves e h = absurd (omega arith)
tested_taking false could_be moves e h = absurd (omega arith)

pub held_taking : (could_be : Bool) (moves : ℕ) → held could_be moves + 1 ≤ most_moves → Held could_be moves
held_taking could_be moves h = tested_taking (ltb moves most_moves) could_be moves refl h

tested_bounded : (small could_be : Bool) (moves : ℕ) → ltb moves most_moves ≡ small → cond (small && could_be) moves most_moves ≤ most_moves
tested_bounded true true moves e = let h : moves < most_moves = ltb-true moves most_moves e in omega arith
tested_bounded true false moves e = omega arith
tested_bounded false could_be moves e = omega arith

pub held_bounded : (could_be : Bool) (moves : ℕ) → held could_be moves ≤ most_moves
held_bounded could_be moves = tested_bounded (ltb moves most_moves) could_be moves refl

tested_more : (small could_be : Bool) (moves : ℕ) → ltb (moves + 1) most_moves ≡ small → moves < most_moves → could_be ≡ true → cond (small && could_be) (moves + 1) most_moves ≡ moves + 1
tested_more true could_be moves e h p = λ i. cond (p i) (moves + 1) most_moves
tested_more false could_be moves e h p = let k : most_moves ≤ moves + 1 = ltb-false (moves + 1) most_moves e in omega arith

-- a move more, where the figures still could be
pub held_more : (could_be : Bool) (moves : ℕ) → moves < most_moves → could_be ≡ true → held could_be (moves + 1) ≡ moves + 1
held_more could_be moves h p = tested_more (ltb (moves + 1) most_moves) could_be moves refl h p
