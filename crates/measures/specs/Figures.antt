-- Figures: what a cost tells, weightiest first.
--
-- Figures      a list of them
-- IsFigure     what a figure may be: 0 to 2^32 - 1
-- order        less, equal or greater, by the first place where two lists of figures differ
-- Below        the first is less than the second
-- AtMost       the first is not greater than the second
-- FirstLower   the first list has the lower figure at the first place where they differ
-- OrderMeans   the order answers equal for the same figures and no others, and less, of equally many, where the first is so lower
use Rattle.std.specs.Prelude.{◌≡◌, ℕ, ◌^◌, ◌<◌, true, false, List, length, take, slice_index}
use Rattle.std.specs.declared.cmp.Ordering.TheVariants.{Less, Equal}
use Rattle.std.specs.declared.cmp.Ordering.{Ordering}
use Rattle.std.specs.Ordering.{is_gt, is_lt, nat_cmp}
use Rattle.std.specs.Cmp.Lexicographic.{slice_cmp}

abbrev pub Figures : Type 0
Figures = List ℕ

abbrev pub IsFigure : ℕ → Type 0
IsFigure f = f < 2 ^ 32

abbrev pub order : Figures → Figures → Ordering
order fs gs = slice_cmp nat_cmp fs gs

unfoldable pub Below : Figures → Figures → Type 0
Below fs gs = is_lt (order fs gs) ≡ true

unfoldable pub AtMost : Figures → Figures → Type 0
AtMost fs gs = is_gt (order fs gs) ≡ false

abbrev pub FirstLower : Figures → Figures → Type 0
FirstLower fs gs = (k : ℕ) × ((take k fs ≡ take k gs) × (slice_index fs k < slice_index gs k))

abbrev pub OrderMeans : Figures → Figures → Type 0
OrderMeans fs gs = ((order fs gs ≡ Equal → fs ≡ gs) × (fs ≡ gs → order fs gs ≡ Equal)) × (length fs ≡ length gs → (order fs gs ≡ Less → FirstLower fs gs) × (FirstLower fs gs → order fs gs ≡ Less))
