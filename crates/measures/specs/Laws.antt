-- What a measure has to show of its reading, for every content of a cost.
--
-- Laws         what every measure shows
--   steady       all costs have equally many figures
--   bounded      no cost holds more than 378 moves
--   empty        the cost of no moves holds none
--   longer       a move added is one move more
--   stepped      the figures then depend only on the figures before and the move
--   small        what moves make of a cost that takes them are figures, and so are those of no moves
--   swap         two moves added in either order give the same figures
--   keep         a cost not greater than another is still not greater after the same move
--   uncross      the straight moves of two voices are not greater than the crossed ones; the higher pitches, and so all four, are pitches
-- StrictLaws   these, and one law more
--   strict       a cost less than another is still less after the same move
use Rattle.std.specs.Prelude.{◌≡◌, ℕ, ◌+◌, ◌≤◌, length}
use Rattle.harmony.specs.Moves.{IsMove, Semitones, move}
use Rattle.harmony.specs.Pitches.{IsPitch}
use Rattle.measures.specs.Figures.{AtMost, Below, IsFigure}
use Rattle.measures.specs.Readings.{Reading, Takes, most_moves}
use Rattle.std.specs.List.{AllByRecursion}

pub record Laws {C : Type 0} (r : Reading C) : Type 0 where
  pub steady : (c : C) → length (r.figures c) ≡ r.width
  pub bounded : (c : C) → r.moves c ≤ most_moves
  pub empty : r.moves r.none ≡ 0
  pub longer : (c : C) (d : Semitones) → Takes r 1 c → IsMove d → r.moves (r.pushed c d) ≡ r.moves c + 1
  pub stepped : (c : C) (d : Semitones) → Takes r 1 c → IsMove d → r.figures (r.pushed c d) ≡ r.step (r.figures c) d
  pub small : AllByRecursion IsFigure (r.figures r.none) × ((c : C) (d : Semitones) → Takes r 1 c → IsMove d → AllByRecursion IsFigure (r.step (r.figures c) d))
  pub swap : (c : C) (d e : Semitones) → Takes r 2 c → IsMove d → IsMove e → r.step (r.step (r.figures c) d) e ≡ r.step (r.step (r.figures c) e) d
  pub keep : (b c : C) (d : Semitones) → Takes r 1 b → Takes r 1 c → IsMove d → AtMost (r.figures b) (r.figures c) → AtMost (r.step (r.figures b) d) (r.step (r.figures c) d)
  pub uncross : (c : C) (a a2 b b2 : ℕ) → IsPitch a2 → IsPitch b2 → a ≤ a2 → b ≤ b2 → Takes r 2 c → IsMove (move a b2) → IsMove (move a2 b) → AtMost (r.step (r.step (r.figures c) (move a b)) (move a2 b2)) (r.step (r.step (r.figures c) (move a b2)) (move a2 b))

pub record StrictLaws {C : Type 0} (r : Reading C) : Type 0 where
  pub weak : Laws r
  pub strict : (b c : C) (d : Semitones) → Takes r 1 b → Takes r 1 c → IsMove d → Below (r.figures b) (r.figures c) → Below (r.step (r.figures b) d) (r.step (r.figures c) d)
