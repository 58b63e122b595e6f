-- That the measures of the letters are what their names say.
use Rattle.std.proofs.Common.{◌≡◌, ℕ, ◌+◌, ◌*◌, max, List, [], ◌∷◌, ◌++◌, fold, sum_by, sym, refl, ap, ◌∙◌, arith}
use Rattle.harmony.specs.Moves.{Semitones}
use Rattle.house.specs.TablesLemmas.{table_figures}
use Rattle.house.specs.WeightsLemmas.{weighed_strict_laws}
use Rattle.house.specs.Largest.{largest}
use Rattle.house.specs.Letters.{Meant, figures_by, greatest, meaning_by, width_by}
use Rattle.measures.proofs.Totals.{heard_fits}
use Rattle.house.specs.Weights.{WeightLaws, weighed}
use Rattle.house.specs.declared.named.HouseMeasure.{HouseMeasure}
use Rattle.house.specs.declared.named.HouseMeasure.TheVariants.{Largest, Squares, Sum, SumThenLargest, Table}
use Rattle.measures.specs.PairsLemmas.{in_turn}
use Rattle.measures.specs.Meanings.{figures_of, meaning}
use Rattle.measures.specs.Parts.{told}
use Rattle.measures.specs.Readings.{only}
use Rattle.measures.specs.Totals.{heard}

only_figures : (f : ℕ → Semitones → ℕ) (a : ℕ) (ds : List Semitones) → fold (only f) (a ∷ []) ds ≡ fold f a ds ∷ []
only_figures f a [] = refl
only_figures f a (d ∷ ds) = only_figures f (f a d) ds

-- the figure of a sum of weights is that sum
weighed_figures : (w : Semitones → ℕ) (ds : List Semitones) → figures_of (meaning (weighed w)) ds ≡ sum_by w ds ∷ []
weighed_figures w ds = only_figures (λ f d. f + w d) 0 ds

largest_figures : (ds : List Semitones) → figures_of (meaning largest) ds ≡ greatest ds ∷ []
largest_figures ds = only_figures max 0 ds

plain_laws : WeightLaws (λ d. d)
plain_laws = record { rises = λ d h. omega arith; bends = λ d h. omega arith; light = λ d h. omega arith }

pub all_meant : (h : HouseMeasure) → Meant h
all_meant Sum ds fits = weighed_figures (λ d. d) ds
all_meant Squares ds fits = weighed_figures (λ d. d * d) ds
all_meant Largest ds fits = largest_figures ds
all_meant Table ds fits = table_figures ds fits
all_meant SumThenLargest ds fits = in_turn (weighed (λ d. d)) largest (weighed_strict_laws (λ d. d) plain_laws) ds fits ∙ (λ i. weighed_figures (λ d. d) ds i ++ largest_figures ds i)

-- what is told of the figures that the measure of a name gives is told as the name says
pub told_as : (h k : HouseMeasure) → h ≡ k → (numbers line : List ℕ) {after : List ℕ} → after ≡ told (width_by k) (figures_of (meaning_by k) (heard numbers)) line → after ≡ told (width_by h) (figures_by h (heard numbers)) line
told_as h k is numbers line t = t ∙ ap (λ fs. told (width_by k) fs line) (all_meant k (heard numbers) (heard_fits numbers)) ∙ ap (λ x. told (width_by x) (figures_by x (heard numbers)) line) (sym is)
