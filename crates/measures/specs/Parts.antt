-- What the parts of a measure answer and write, told by its reading.
--
-- added    a cost after a number was added: one move more where the number is a move and the cost can take it, else as it was
-- left     how many numbers a line has left behind the figures; a line that is too short is refused
-- told     a line after the figures were written to its front; a line that is too short stays as it was
use Rattle.std.specs.Prelude.{ℕ, ◌-◌, cond, ◌&&◌, List, ◌++◌, length, drop, Ok, Err, Result, nat_le, nat_lt}
use Rattle.harmony.specs.Moves.{Semitones, is_move}
use Rattle.harmony.specs.declared.refusal.Refusal.{Refusal}
use Rattle.harmony.specs.declared.refusal.Refusal.TheVariants.{ShortFigureLine}
use Rattle.measures.specs.Figures.{Figures}
use Rattle.measures.specs.Readings.{Reading, most_moves}

module _ {C : Type 0} (r : Reading C) where
  abbrev pub added : C → Semitones → C
  added c d = cond (is_move d && nat_lt (r.moves c) most_moves) (r.pushed c d) c

abbrev pub left : ℕ → ℕ → Result ℕ Refusal
left width length = cond (nat_le width length) (Ok (length - width)) (Err ShortFigureLine)

abbrev pub told : ℕ → Figures → List ℕ → List ℕ
told width figures line = cond (nat_le width (length line)) (figures ++ drop width line) line
