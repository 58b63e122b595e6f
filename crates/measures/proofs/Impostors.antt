-- Why two orders of moves are no measures, and why the laws alone do not tell what a measure measures.
use Rattle.std.proofs.Common.{◌≡◌, List, [], ◌∷◌, ◌++◌, length, sym, refl, ap, ◌∙◌, subst, true≢false, lit<, lit≤}
use Rattle.harmony.specs.Moves.{Semitones, move}
use Rattle.measures.proofs.Meanings.{lawful_lists}
use Rattle.measures.specs.Orders.{at_most_same}
use Rattle.measures.specs.Figures.{AtMost, IsFigure}
use Rattle.measures.specs.Impostors.{Gives, all_equal, largest_then_sum, voices_moving}
use Rattle.measures.specs.Laws.{Laws}
use Rattle.measures.specs.Meanings.{Fits, Lawful, Meaning, figures_of, meaning}
use Rattle.measures.specs.Readings.{Reading}
use Rattle.std.specs.List.{AllByRecursion}

module _ {C : Type 0} (r : Reading C) (laws : Laws r) where
  -- figures that the reading has are those of what it gives
  given : (m : Meaning) → Gives m r → (ds es : List Semitones) → Fits ds → Fits es → AtMost (figures_of (meaning r) ds) (figures_of (meaning r) es) → AtMost (figures_of m ds) (figures_of m es)
  given m g ds es h k is = subst (λ fs. AtMost fs (figures_of m es)) (g ds h) (subst (AtMost (figures_of (meaning r) ds)) (g es k) is)

  giving : (m : Meaning) → Gives m r → (ds es : List Semitones) → Fits ds → Fits es → AtMost (figures_of m ds) (figures_of m es) → AtMost (figures_of (meaning r) ds) (figures_of (meaning r) es)
  giving m g ds es h k is = subst (λ fs. AtMost fs (figures_of (meaning r) es)) (sym (g ds h)) (subst (AtMost (figures_of m ds)) (sym (g es k)) is)

-- the moves 3 3 3 are less than 4 0 0, and greater once 5 is added
fits_threes : Fits (3 ∷ 3 ∷ 3 ∷ [])
fits_threes = record { moves = (lit≤ tt, (lit≤ tt, (lit≤ tt, tt))); few = lit≤ tt }

fits_four : Fits (4 ∷ 0 ∷ 0 ∷ [])
fits_four = record { moves = (lit≤ tt, (lit≤ tt, (lit≤ tt, tt))); few = lit≤ tt }

fits_threes_five : Fits (3 ∷ 3 ∷ 3 ∷ 5 ∷ [])
fits_threes_five = record { moves = (lit≤ tt, (lit≤ tt, (lit≤ tt, (lit≤ tt, tt)))); few = lit≤ tt }

fits_four_five : Fits (4 ∷ 0 ∷ 0 ∷ 5 ∷ [])
fits_four_five = record { moves = (lit≤ tt, (lit≤ tt, (lit≤ tt, (lit≤ tt, tt)))); few = lit≤ tt }

threes_less : AtMost (figures_of largest_then_sum (3 ∷ 3 ∷ 3 ∷ [])) (figures_of largest_then_sum (4 ∷ 0 ∷ 0 ∷ []))
unfolding AtMost
threes_less = refl

threes_greater : AtMost (figures_of largest_then_sum (3 ∷ 3 ∷ 3 ∷ 5 ∷ [])) (figures_of largest_then_sum (4 ∷ 0 ∷ 0 ∷ 5 ∷ [])) → ⊥
unfolding AtMost
threes_greater h = true≢false h

pub no_largest_then_sum : {C : Type 0} (r : Reading C) → Gives largest_then_sum r → Laws r → ⊥
no_largest_then_sum r g laws =
    let threes = 3 ∷ 3 ∷ 3 ∷ [] in
    let four = 4 ∷ 0 ∷ 0 ∷ [] in
    threes_greater (given r laws largest_then_sum g (threes ++ 5 ∷ []) (four ++ 5 ∷ []) fits_threes_five fits_four_five ((lawful_lists r laws).keep threes four 5 fits_threes_five fits_four_five (giving r laws largest_then_sum g threes four fits_threes fits_four threes_less)))

-- from 60 and 62 to 62 and 64, one voice moves crossing and two straight
fits_crossed : Fits (4 ∷ 0 ∷ [])
fits_crossed = record { moves = (lit≤ tt, (lit≤ tt, tt)); few = lit≤ tt }

fits_straight : Fits (2 ∷ 2 ∷ [])
fits_straight = record { moves = (lit≤ tt, (lit≤ tt, tt)); few = lit≤ tt }

two_voices : AtMost (figures_of voices_moving (2 ∷ 2 ∷ [])) (figures_of voices_moving (4 ∷ 0 ∷ [])) → ⊥
unfolding AtMost
two_voices h = true≢false h

pub no_voices_moving : {C : Type 0} (r : Reading C) → Gives voices_moving r → Laws r → ⊥
no_voices_moving r g laws = two_voices (given r laws voices_moving g (2 ∷ 2 ∷ []) (4 ∷ 0 ∷ []) fits_straight fits_crossed ((lawful_lists r laws).uncross [] 60 62 62 64 (lit≤ tt) (lit≤ tt) fits_crossed))

-- ---- all costs equal

equal_figures : (ds : List Semitones) → figures_of all_equal ds ≡ 0 ∷ []
equal_figures [] = refl
equal_figures (d ∷ ds) = equal_figures ds

same_figures : (ds es : List Semitones) → AtMost (figures_of all_equal ds) (figures_of all_equal es)
same_figures ds es = at_most_same (figures_of all_equal ds) (figures_of all_equal es) (equal_figures ds ∙ sym (equal_figures es))

pub all_equal_lawful : Lawful all_equal
all_equal_lawful = record {
  steady = λ ds h. ap length (equal_figures ds);
  small = λ ds h. subst (AllByRecursion IsFigure) (sym (equal_figures ds)) (lit< tt, tt);
  swap = λ ds d e h. equal_figures (ds ++ d ∷ e ∷ []) ∙ sym (equal_figures (ds ++ e ∷ d ∷ []));
  keep = λ ds es d h k is. same_figures (ds ++ d ∷ []) (es ++ d ∷ []);
  uncross = λ ds a a2 b b2 p q h. same_figures (ds ++ move a b ∷ move a2 b2 ∷ []) (ds ++ move a b2 ∷ move a2 b ∷ []);
}
