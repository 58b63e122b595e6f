-- From the laws over costs to the laws over lists of moves.
use Rattle.std.proofs.Common.{◌≡◌, ℕ, ◌+◌, ◌≤◌, List, [], ◌∷◌, ◌++◌, length, fold, sym, refl, ap, ◌∙◌, subst, arith}
use Rattle.harmony.specs.Moves.{IsMove, Semitones, move}
use Rattle.measures.specs.Uncrossed.{anywhere}
use Rattle.measures.specs.Figures.{AtMost, Below, Figures, IsFigure}
use Rattle.measures.specs.Laws.{Laws, StrictLaws}
use Rattle.measures.specs.Meanings.{Fits, Lawful, StrictlyLawful, figures_of, meaning}
use Rattle.measures.specs.Readings.{Reading, Takes, most_moves}
use Rattle.std.proofs.lemmas.List.{length-append}
use Rattle.std.proofs.lemmas.List.Sums.{fold-append}
use Rattle.std.specs.List.{AllByRecursion}

-- ---- lists of moves

pub all_front : {A : Type 0} (P : A → Type 0) (xs ys : List A) → AllByRecursion P (xs ++ ys) → AllByRecursion P xs
all_front P [] ys h = tt
all_front P (x ∷ xs) ys h = (h.0, all_front P xs ys h.1)

pub all_back : {A : Type 0} (P : A → Type 0) (xs ys : List A) → AllByRecursion P (xs ++ ys) → AllByRecursion P ys
all_back P [] ys h = h
all_back P (x ∷ xs) ys h = all_back P xs ys h.1

pub fits_front : (ds es : List Semitones) → Fits (ds ++ es) → Fits ds
fits_front ds es h =
    let few : length (ds ++ es) ≤ most_moves = h.few in
    let long : length (ds ++ es) ≡ length ds + length es = length-append ds es in
    record { moves = all_front IsMove ds es h.moves; few = omega arith }

-- ---- the cost that a list of moves makes

module _ {C : Type 0} (r : Reading C) (laws : Laws r) where
  pub pushed_moves : (c : C) (ds : List Semitones) → r.moves c + length ds ≤ most_moves → AllByRecursion IsMove ds → r.moves (fold r.pushed c ds) ≡ r.moves c + length ds
  pushed_moves c [] h a = omega arith
  pushed_moves c (d ∷ ds) h a =
      let one : r.moves (r.pushed c d) ≡ r.moves c + 1 = laws.longer c d (omega arith) a.0 in
      let rest : r.moves (fold r.pushed (r.pushed c d) ds) ≡ r.moves (r.pushed c d) + length ds = pushed_moves (r.pushed c d) ds (omega arith) a.1 in
      omega arith

  pub pushed_figures : (c : C) (ds : List Semitones) → r.moves c + length ds ≤ most_moves → AllByRecursion IsMove ds → r.figures (fold r.pushed c ds) ≡ fold r.step (r.figures c) ds
  pushed_figures c [] h a = refl
  pushed_figures c (d ∷ ds) h a =
      let one : r.moves (r.pushed c d) ≡ r.moves c + 1 = laws.longer c d (omega arith) a.0 in
      pushed_figures (r.pushed c d) ds (omega arith) a.1 ∙ ap (λ fs. fold r.step fs ds) (laws.stepped c d (omega arith) a.0)

  pub made_moves : (ds : List Semitones) → Fits ds → r.moves (fold r.pushed r.none ds) ≡ length ds
  made_moves ds h =
      let few : length ds ≤ most_moves = h.few in
      let none : r.moves r.none ≡ 0 = laws.empty in
      let is : r.moves (fold r.pushed r.none ds) ≡ r.moves r.none + length ds = pushed_moves r.none ds (omega arith) h.moves in
      omega arith

  pub made_figures : (ds : List Semitones) → Fits ds → r.figures (fold r.pushed r.none ds) ≡ figures_of (meaning r) ds
  made_figures ds h =
      let few : length ds ≤ most_moves = h.few in
      let none : r.moves r.none ≡ 0 = laws.empty in
      pushed_figures r.none ds (omega arith) h.moves

  -- the cost of moves in front of others that fit takes these
  module _ (ds es : List Semitones) (h : Fits (ds ++ es)) where
    takes : Takes r (length es) (fold r.pushed r.none ds)
    takes =
        let few : length (ds ++ es) ≤ most_moves = h.few in
        let long : length (ds ++ es) ≡ length ds + length es = length-append ds es in
        let is : r.moves (fold r.pushed r.none ds) ≡ length ds = made_moves ds (fits_front ds es h) in
        omega arith

    moved : AllByRecursion IsMove es
    moved = all_back IsMove ds es h.moves

    front : r.figures (fold r.pushed r.none ds) ≡ figures_of (meaning r) ds
    front = made_figures ds (fits_front ds es h)

  -- the figures of moves with some more behind
  behind : (ds es : List Semitones) → fold r.step (figures_of (meaning r) ds) es ≡ figures_of (meaning r) (ds ++ es)
  behind ds es = sym (fold-append r.step (meaning r).start ds es)

  list_steady : (ds : List Semitones) → Fits ds → length (figures_of (meaning r) ds) ≡ r.width
  list_steady ds h = subst (λ fs. length fs ≡ r.width) (made_figures ds h) (laws.steady (fold r.pushed r.none ds))

  pushed_small : (c : C) (ds : List Semitones) → r.moves c + length ds ≤ most_moves → AllByRecursion IsMove ds → AllByRecursion IsFigure (r.figures c) → AllByRecursion IsFigure (fold r.step (r.figures c) ds)
  pushed_small c [] h a k = k
  pushed_small c (d ∷ ds) h a k =
      let one : r.moves (r.pushed c d) ≡ r.moves c + 1 = laws.longer c d (omega arith) a.0 in
      let is : r.figures (r.pushed c d) ≡ r.step (r.figures c) d = laws.stepped c d (omega arith) a.0 in
      let next : AllByRecursion IsFigure (r.step (r.figures c) d) = laws.small.1 c d (omega arith) a.0 in
      subst (λ fs. AllByRecursion IsFigure (fold r.step fs ds)) is (pushed_small (r.pushed c d) ds (omega arith) a.1 (subst (AllByRecursion IsFigure) (sym is) next))

  list_small : (ds : List Semitones) → Fits ds → AllByRecursion IsFigure (figures_of (meaning r) ds)
  list_small ds h =
      let few : length ds ≤ most_moves = h.few in
      let none : r.moves r.none ≡ 0 = laws.empty in
      pushed_small r.none ds (omega arith) h.moves laws.small.0

  list_swap : (ds : List Semitones) (d e : Semitones) → Fits (ds ++ d ∷ e ∷ []) → figures_of (meaning r) (ds ++ d ∷ e ∷ []) ≡ figures_of (meaning r) (ds ++ e ∷ d ∷ [])
  list_swap ds d e h =
      let more = moved ds (d ∷ e ∷ []) h in
      let swapped = laws.swap (fold r.pushed r.none ds) d e (takes ds (d ∷ e ∷ []) h) more.0 more.1.0 in
      sym (behind ds (d ∷ e ∷ [])) ∙ subst (λ fs. r.step (r.step fs d) e ≡ r.step (r.step fs e) d) (front ds (d ∷ e ∷ []) h) swapped ∙ behind ds (e ∷ d ∷ [])

  -- a relation of figures that one more move keeps, over costs and over lists
  kept : (R : Figures → Figures → Type 0) (ds es : List Semitones) (d : Semitones) → Fits (ds ++ d ∷ []) → Fits (es ++ d ∷ []) → ((b c : C) → Takes r 1 b → Takes r 1 c → IsMove d → R (r.figures b) (r.figures c) → R (r.step (r.figures b) d) (r.step (r.figures c) d)) → R (figures_of (meaning r) ds) (figures_of (meaning r) es) → R (figures_of (meaning r) (ds ++ d ∷ [])) (figures_of (meaning r) (es ++ d ∷ []))
  kept R ds es d h k law is =
      let p = front ds (d ∷ []) h in
      let q = front es (d ∷ []) k in
      let costs = law (fold r.pushed r.none ds) (fold r.pushed r.none es) (takes ds (d ∷ []) h) (takes es (d ∷ []) k) (moved ds (d ∷ []) h).0 (subst (λ fs. R fs (r.figures (fold r.pushed r.none es))) (sym p) (subst (R (figures_of (meaning r) ds)) (sym q) is)) in
      let stepped = subst (λ fs. R (r.step fs d) (r.step (figures_of (meaning r) es) d)) p (subst (λ gs. R (r.step (r.figures (fold r.pushed r.none ds)) d) (r.step gs d)) q costs) in
      subst (λ fs. R fs (figures_of (meaning r) (es ++ d ∷ []))) (behind ds (d ∷ [])) (subst (R (r.step (figures_of (meaning r) ds) d)) (behind es (d ∷ [])) stepped)

  uncross_anywhere : (c : C) → Takes r 2 c → (a a2 b b2 : ℕ) → a ≤ a2 → b ≤ b2 → IsMove (move a b2) → IsMove (move a2 b) → AtMost (r.step (r.step (r.figures c) (move a b)) (move a2 b2)) (r.step (r.step (r.figures c) (move a b2)) (move a2 b))
  uncross_anywhere c room = anywhere (λ s t x y. AtMost (r.step (r.step (r.figures c) s) t) (r.step (r.step (r.figures c) x) y)) (λ a a2 b b2 high high2 p q h k. laws.uncross c a a2 b b2 high high2 p q room h k)

  list_uncross : (ds : List Semitones) (a a2 b b2 : ℕ) → a ≤ a2 → b ≤ b2 → Fits (ds ++ move a b2 ∷ move a2 b ∷ []) → AtMost (figures_of (meaning r) (ds ++ move a b ∷ move a2 b2 ∷ [])) (figures_of (meaning r) (ds ++ move a b2 ∷ move a2 b ∷ []))
  list_uncross ds a a2 b b2 p q h =
      let crossed = move a b2 ∷ move a2 b ∷ [] in
      let straight = move a b ∷ move a2 b2 ∷ [] in
      let more = moved ds crossed h in
      let costs = uncross_anywhere (fold r.pushed r.none ds) (takes ds crossed h) a a2 b b2 p q more.0 more.1.0 in
      let lists = subst (λ fs. AtMost (fold r.step fs straight) (fold r.step fs crossed)) (front ds crossed h) costs in
      subst (λ fs. AtMost fs (figures_of (meaning r) (ds ++ crossed))) (behind ds straight) (subst (AtMost (fold r.step (figures_of (meaning r) ds) straight)) (behind ds crossed) lists)

  pub lawful_lists : Lawful (meaning r)
  lawful_lists = record {
    steady = list_steady;
    small = list_small;
    swap = list_swap;
    keep = λ ds es d h k. kept AtMost ds es d h k (λ b c. laws.keep b c d);
    uncross = list_uncross;
  }

pub strictly_lawful_lists : {C : Type 0} (r : Reading C) → StrictLaws r → StrictlyLawful (meaning r)
strictly_lawful_lists r laws = record {
  weak = lawful_lists r laws.weak;
  strict = λ ds es d h k. kept r laws.weak Below ds es d h k (λ b c. laws.strict b c d);
}
