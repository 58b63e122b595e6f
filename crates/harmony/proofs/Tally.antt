-- The tally of a list of classes, with one class more.
use Rattle.std.proofs.Common.{◌≡◌, ℕ, ◌+◌, ◌<◌, cond, eqb, List, [], ◌∷◌, ◌++◌, length, get_or, set, sum, count_by, sym, refl, ap, ◌∙◌, ⊎_elim, arith}
use Rattle.harmony.specs.Chords.{tally}
use Rattle.std.proofs.lemmas.List.FromFn.{fill_by_all, get_or-map-range_with_len}
use Rattle.std.proofs.lemmas.List.{get_or-set_other, get_or-set_same, length-set}
use Rattle.std.proofs.lemmas.List.Sums.{sum_by-cons, sum_by_push, sum_by-set}
use Rattle.std.proofs.lemmas.Bool.{cases_eq, eq-eqb, ne_eqb}
use Rattle.std.specs.List.{AllByRecursion}

pub length_tally : (cs : List ℕ) → length (tally cs) ≡ 12
length_tally cs = refl

-- a class's count
pub get_or_tally : (cs : List ℕ) (k : ℕ) → k < 12 → get_or (tally cs) k 0 ≡ count_by (eqb k) cs
get_or_tally cs k h = get_or-map-range_with_len (λ j. count_by (eqb j) cs) 0 12 k k 0 h (omega arith)

-- a list that has c once more is counted one higher at c
module _ (c : ℕ) (cs ds : List ℕ) (inside : c < 12) (more : (k : ℕ) → count_by (eqb k) ds ≡ count_by (eqb k) cs + cond (eqb k c) 1 0) where
  there : (k : ℕ) → k ≡ c → get_or (tally cs) c 0 + 1 ≡ count_by (eqb k) ds
  there k same =
      omega
      (arith, get_or_tally cs c inside, rw (eq-eqb k c same) at (more k), ap (λ j. count_by (eqb j) cs) same)

  elsewhere : (k : ℕ) → (k ≡ c → ⊥) → count_by (eqb k) cs ≡ count_by (eqb k) ds
  elsewhere k other = omega (arith, rw (ne_eqb k c other) at (more k))

  one_more : tally ds ≡ set (tally cs) c (get_or (tally cs) c 0 + 1)
  one_more =
      let old = tally cs in
      let n = get_or old c 0 + 1 in
      sym (fill_by_all (λ k. count_by (eqb k) ds) (set old c n) 12 0 (length-set old c n)
      (λ k h. ⊎_elim
      (λ same. ap (λ j. get_or (set old c n) j 0) same ∙ get_or-set_same old c n 0 inside ∙ there k same)
      (λ other. get_or-set_other old c k n 0 other ∙ get_or_tally cs k h ∙ elsewhere k other)
      (cases_eq k c)))

pub tally_cons : (c : ℕ) (cs : List ℕ) → c < 12 → tally (c ∷ cs) ≡ set (tally cs) c (get_or (tally cs) c 0 + 1)
tally_cons c cs h = one_more c cs (c ∷ cs) h (λ k. omega (arith, sum_by-cons (λ x. cond (eqb k x) 1 0) c cs))

pub tally_push : (c : ℕ) (cs : List ℕ) → c < 12 → tally (cs ++ c ∷ []) ≡ set (tally cs) c (get_or (tally cs) c 0 + 1)
tally_push c cs h = one_more c cs (cs ++ c ∷ []) h (λ k. sum_by_push (λ x. cond (eqb k x) 1 0) cs c)

-- every class of a list is counted once
pub sum_tally : (cs : List ℕ) → AllByRecursion (λ c. c < 12) cs → sum (tally cs) ≡ length cs
sum_tally [] h = refl
sum_tally (c ∷ cs) h =
    let old = tally cs in
    omega (arith, ap sum (tally_cons c cs h.0), sum_by-set (λ x. x) old c (get_or old c 0 + 1) 0 h.0, sum_tally cs h.1)
