-- The measures that a text names by a letter, told by what they measure.
--
-- letter_of    the letter
-- Named        the measure with this letter, or no measure has it
-- greatest     the largest of some numbers, 0 for none
-- figures_by   the figures of a list of moves
-- meaning_by   the measure as plain data
-- Meant        the figures of every list of moves that a cost can hold are these
-- width_by     how many figures there are
use Rattle.std.specs.Prelude.{◌≡◌, ◌≢◌, ℕ, ◌*◌, max, List, [], ◌∷◌, fold, sum_by, sum, Result, MatchResult}
use Rattle.harmony.specs.Moves.{Semitones}
use Rattle.house.specs.Largest.{largest}
use Rattle.house.specs.Tables.{table, tabled}
use Rattle.house.specs.Weights.{weighed}
use Rattle.house.specs.declared.named.HouseMeasure.{HouseMeasure}
use Rattle.house.specs.declared.named.UnknownLetter.{UnknownLetter}
use Rattle.house.specs.declared.named.HouseMeasure.TheVariants.{Largest, Squares, Sum, SumThenLargest, Table}
use Rattle.measures.specs.Figures.{Figures}
use Rattle.measures.specs.Meanings.{Fits, Meaning, figures_of, meaning}
use Rattle.measures.specs.Pairs.{both}

abbrev pub letter_of : HouseMeasure → ℕ
letter_of Sum = 83
letter_of Squares = 81
letter_of Largest = 76
letter_of Table = 77
letter_of SumThenLargest = 80

abbrev pub Named : ℕ → Result HouseMeasure UnknownLetter → Type 0
Named letter r = MatchResult r (λ h. letter_of h ≡ letter) (λ _. (h : HouseMeasure) → letter_of h ≢ letter)

abbrev pub greatest : List ℕ → ℕ
greatest ns = fold max 0 ns

abbrev pub figures_by : HouseMeasure → List Semitones → Figures
figures_by Sum ds = sum ds ∷ []
figures_by Squares ds = sum_by (λ d. d * d) ds ∷ []
figures_by Largest ds = greatest ds ∷ []
figures_by Table ds = table ds
figures_by SumThenLargest ds = sum ds ∷ greatest ds ∷ []

abbrev pub width_by : HouseMeasure → ℕ
width_by Sum = 1
width_by Squares = 1
width_by Largest = 1
width_by Table = 24
width_by SumThenLargest = 2

abbrev pub meaning_by : HouseMeasure → Meaning
meaning_by Sum = meaning (weighed (λ d. d))
meaning_by Squares = meaning (weighed (λ d. d * d))
meaning_by Largest = meaning largest
meaning_by Table = meaning tabled
meaning_by SumThenLargest = meaning (both (weighed (λ d. d)) largest)

abbrev pub Meant : HouseMeasure → Type 0
Meant h = (ds : List Semitones) → Fits ds → figures_of (meaning_by h) ds ≡ figures_by h ds
