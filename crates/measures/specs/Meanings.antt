-- A measure as plain data, and the figures of a list of moves.
--
-- Meaning          how many figures there are, those of no moves, and those with one move more
-- meaning          the meaning of a reading
-- figures_of       the figures of a list of moves, the first move first
-- Fits             a list that a cost can hold: moves all, and at most 378
-- Lawful           the laws over lists of moves
--   steady           equally many figures for all lists
--   small            each figure is 0 to 2^32 - 1
--   swap             two moves in either order give the same figures
--   keep             moves not greater than others are still not greater with the same move behind both
--   uncross          the straight moves of two voices are not greater than the crossed ones, for any numbers in place of pitches
-- StrictlyLawful   these, and
--   strict           moves less than others are still less with the same move behind both
use Rattle.std.specs.Prelude.{◌≡◌, ℕ, ◌≤◌, List, [], ◌∷◌, ◌++◌, length, fold}
use Rattle.harmony.specs.Moves.{IsMove, Semitones, move}
use Rattle.measures.specs.Figures.{AtMost, Below, Figures, IsFigure}
use Rattle.measures.specs.Readings.{Reading, most_moves}
use Rattle.std.specs.List.{AllByRecursion}

pub record Meaning : Type 0 where
  pub width : ℕ
  pub start : Figures
  pub step : Figures → Semitones → Figures

abbrev pub meaning : {C : Type 0} → Reading C → Meaning
meaning r = record { width = r.width; start = r.figures r.none; step = r.step }

abbrev pub figures_of : Meaning → List Semitones → Figures
figures_of m ds = fold m.step m.start ds

pub record Fits (ds : List Semitones) : Type 0 where
  pub moves : AllByRecursion IsMove ds
  pub few : length ds ≤ most_moves

pub record Lawful (m : Meaning) : Type 0 where
  pub steady : (ds : List Semitones) → Fits ds → length (figures_of m ds) ≡ m.width
  pub small : (ds : List Semitones) → Fits ds → AllByRecursion IsFigure (figures_of m ds)
  pub swap : (ds : List Semitones) (d e : Semitones) → Fits (ds ++ d ∷ e ∷ []) → figures_of m (ds ++ d ∷ e ∷ []) ≡ figures_of m (ds ++ e ∷ d ∷ [])
  pub keep : (ds es : List Semitones) (d : Semitones) → Fits (ds ++ d ∷ []) → Fits (es ++ d ∷ []) → AtMost (figures_of m ds) (figures_of m es) → AtMost (figures_of m (ds ++ d ∷ [])) (figures_of m (es ++ d ∷ []))
  pub uncross : (ds : List Semitones) (a a2 b b2 : ℕ) → a ≤ a2 → b ≤ b2 → Fits (ds ++ move a b2 ∷ move a2 b ∷ []) → AtMost (figures_of m (ds ++ move a b ∷ move a2 b2 ∷ [])) (figures_of m (ds ++ move a b2 ∷ move a2 b ∷ []))

pub record StrictlyLawful (m : Meaning) : Type 0 where
  pub weak : Lawful m
  pub strict : (ds es : List Semitones) (d : Semitones) → Fits (ds ++ d ∷ []) → Fits (es ++ d ∷ []) → Below (figures_of m ds) (figures_of m es) → Below (figures_of m (ds ++ d ∷ [])) (figures_of m (es ++ d ∷ []))
