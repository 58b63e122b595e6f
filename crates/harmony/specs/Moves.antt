-- The move of a voice from one chord to the next.
--
-- Semitones   the number that tells a move
-- widest      the widest move; a voice never leaves its range, and no range is wider
-- IsMove      which numbers are moves, and is_move, the same as a test
-- move        the move from a voice's pitch to its pitch at the next chord, always in this order
use Rattle.std.specs.Prelude.{ℕ, ◌+◌, ◌-◌, ◌≤◌, Bool, nat_le}

abbrev pub Semitones : Type 0
Semitones = ℕ

abbrev pub widest : Semitones
widest = 24

abbrev pub IsMove : Semitones → Type 0
IsMove d = d ≤ widest

abbrev pub is_move : Semitones → Bool
is_move d = nat_le d widest

-- the distance: one of the two differences is 0
abbrev pub move : ℕ → ℕ → Semitones
move from to = (from - to) + (to - from)
