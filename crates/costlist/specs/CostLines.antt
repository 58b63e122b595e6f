-- What is printed of the moves of a line.
--
-- spaced       numbers in decimal, a space before each
-- cost_line    the letter of the measure, how many moves its cost holds, and the figures
use Rattle.std.specs.Prelude.{ℕ, List, [], ◌∷◌, ◌++◌, length, codes, decimal}
use Rattle.harmony.specs.Moves.{Semitones}
use Rattle.house.specs.Letters.{figures_by, letter_of}
use Rattle.house.specs.declared.named.HouseMeasure.{HouseMeasure}
use Rattle.measures.specs.Totals.{heard}
use Rattle.std.specs.List.{flat_map}

abbrev pub spaced : List ℕ → List ℕ
spaced ns = flat_map (λ n. 32 ∷ decimal n) ns

abbrev pub cost_line : HouseMeasure → List Semitones → List ℕ
cost_line h numbers = letter_of h ∷ (codes " moves " ++ (decimal (length (heard numbers)) ++ (codes " figures" ++ (spaced (figures_by h (heard numbers)) ++ 10 ∷ []))))
