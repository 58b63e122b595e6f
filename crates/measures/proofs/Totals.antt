-- What a cost takes in of a list of numbers.
use Rattle.std.proofs.Common.{◌≡◌, ℕ, zero, suc, ◌+◌, ◌<◌, ◌≤◌, min, Bool, true, false, cond, ◌&&◌, ltb, List, [], ◌∷◌, length, take, fold, filter, refl, ap, ◌∙◌, arith, length-take, ltb-false, ltb-true}
use Rattle.harmony.specs.Moves.{IsMove, Semitones, is_move, widest}
use Rattle.measures.proofs.Meanings.{made_figures, made_moves}
use Rattle.measures.specs.Laws.{Laws}
use Rattle.measures.specs.Meanings.{Fits, figures_of, meaning}
use Rattle.measures.specs.Parts.{added}
use Rattle.measures.specs.Readings.{Reading, most_moves}
use Rattle.measures.specs.Totals.{Totalled, heard, total}
use Rattle.std.proofs.ByRecursion.{All-take, All-weaker, kept_by_passes}
use Rattle.std.proofs.lemmas.Bool.{leb-true}

pub heard_fits : (ds : List Semitones) → Fits (heard ds)
heard_fits ds = record {
  moves = All-take IsMove most_moves (filter is_move ds) (All-weaker (λ d. is_move d ≡ true) IsMove (λ d. leb-true d widest) (filter is_move ds) (kept_by_passes is_move ds));
  few = let is : length (heard ds) ≡ min most_moves (length (filter is_move ds)) = length-take most_moves (filter is_move ds) in omega arith;
}

module _ {C : Type 0} (r : Reading C) (laws : Laws r) where
  -- a cost with room for n moves takes in the first n of a list
  module _ (d : Semitones) (ds : List Semitones) (rest : (n : ℕ) (c : C) → r.moves c + n ≡ most_moves → fold (added r) c ds ≡ fold r.pushed c (take n (filter is_move ds))) where
    tested : (n : ℕ) (c : C) (yes small : Bool) → r.moves c + n ≡ most_moves → is_move d ≡ yes → ltb (r.moves c) most_moves ≡ small → fold (added r) (cond (yes && small) (r.pushed c d) c) ds ≡ fold r.pushed c (take n (cond yes (d ∷ filter is_move ds) (filter is_move ds)))
    tested n c false small h p q = rest n c h
    tested zero c true false h p q = rest zero c h
    tested (suc n) c true false h p q = let k : most_moves ≤ r.moves c = ltb-false (r.moves c) most_moves q in absurd (omega arith)
    tested zero c true true h p q = let k : r.moves c < most_moves = ltb-true (r.moves c) most_moves q in absurd (omega arith)
    tested (suc n) c true true h p q =
        let one : r.moves (r.pushed c d) ≡ r.moves c + 1 = laws.longer c d (omega arith) (leb-true d widest p) in
        rest n (r.pushed c d) (omega arith)

  total_taken : (ds : List Semitones) (n : ℕ) (c : C) → r.moves c + n ≡ most_moves → fold (added r) c ds ≡ fold r.pushed c (take n (filter is_move ds))
  total_taken [] zero c h = refl
  total_taken [] (suc n) c h = refl
  total_taken (d ∷ ds) n c h = tested d ds (total_taken ds) n c (is_move d) (ltb (r.moves c) most_moves) h refl refl

  total_heard : (ds : List Semitones) → total r ds ≡ fold r.pushed r.none (heard ds)
  total_heard ds = let none : r.moves r.none ≡ 0 = laws.empty in total_taken ds most_moves r.none (omega arith)

  total_moves : (ds : List Semitones) → r.moves (total r ds) ≡ length (heard ds)
  total_moves ds = ap r.moves (total_heard ds) ∙ made_moves r laws (heard ds) (heard_fits ds)

  total_figures : (ds : List Semitones) → r.figures (total r ds) ≡ figures_of (meaning r) (heard ds)
  total_figures ds = ap r.figures (total_heard ds) ∙ made_figures r laws (heard ds) (heard_fits ds)

  pub totalled : (ds : List Semitones) (c : C) → c ≡ total r ds → Totalled r ds c
  totalled ds c is = record { cost = is; moves = ap r.moves is ∙ total_moves ds; figures = ap r.figures is ∙ total_figures ds }
