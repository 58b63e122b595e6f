-- The count table: costs, laws, and the figures of a list of moves.
use Rattle.std.specs.Prelude.{◌≡◌, ℕ, zero, suc, ◌+◌, ◌-◌, ◌^◌, ◌<◌, ◌≤◌, min, max, true, cond, leb, List, [], ◌∷◌, map, length, fold, sum, count_by, ◌==◌, ◌≢◌, nat_eq, nat_le, slice_index, slice_set, refl}
use mathlib.Core.HLevel.{is_prop→PathP}
use Rattle.std.proofs.Common.{⊎_elim, ◌∙◌, ap, subst, sym, add-zero, zero-add, arith}
use Rattle.std.proofs.Math.Nat.{ℕ_set}
use Rattle.harmony.specs.Moves.{IsMove, Semitones, move, widest}
use Rattle.house.specs.Bumps.{at_most_bump, below_bump, bump_bump, later_bumps}
use Rattle.measures.proofs.Held.{Held, held_bounded, held_more, held_taking}
use Rattle.measures.specs.Uncrossed.{straight_greater, straight_together}
use Rattle.measures.specs.Figures.{AtMost, Figures, IsFigure}
use Rattle.measures.specs.Laws.{StrictLaws}
use Rattle.measures.specs.Meanings.{Fits, figures_of, meaning}
use Rattle.measures.specs.Readings.{Takes, held, most_moves}
use Rattle.house.specs.Tables.{bump, could_count, down_from, raised, size_place, table, tabled}
use Rattle.house.specs.declared.table.cost.TableCost.{TableCost}
use Rattle.std.proofs.ByRecursion.{All-from_get_or, All-set}
use Rattle.std.proofs.lemmas.List.{get_or_past, set_past}
use Rattle.std.proofs.lemmas.List.Sums.{get_or-le-sum_by, sum_by-cons, sum_by-set}
use Rattle.std.proofs.lemmas.Bool.{cases_lt, eq-eqb, le-leb, leb-true, ne_eqb}
use Rattle.std.specs.List.{AllByRecursion}

-- that the counts are 24 holds in one way only
pub same_costs : (b c : TableCost) → b.counts ≡ c.counts → b.moves ≡ c.moves → b ≡ c
same_costs b c p q = λ i. record {
  counts = p i;
  moves = q i;
  whole = is_prop→PathP (λ j. length (p j) ≡ 24) (λ j. ℕ_set (length (p j)) 24) b.whole c.whole i;
}

-- ---- sums of counts

count_in_sum : (fs : Figures) (i : ℕ) → slice_index fs i ≤ sum fs
count_in_sum fs i = ⊎_elim (get_or-le-sum_by (λ f. f) fs i 0) (λ h. omega (arith, get_or_past fs i 0 h)) (cases_lt i (length fs))

sum_raised : (fs : Figures) (i : ℕ) → sum (raised i fs) ≤ sum fs + 1
sum_raised fs i = ⊎_elim (λ h. omega (arith, sum_by-set (λ f. f) fs i (min (slice_index fs i + 1) 65535) 0 h)) (λ h. omega (arith, ap sum (set_past fs i (min (slice_index fs i + 1) 65535) h))) (cases_lt i (length fs))

raised_bump : (fs : Figures) (i : ℕ) → sum fs < most_moves → raised i fs ≡ bump i fs
raised_bump fs i h = let k = count_in_sum fs i in ap (slice_set fs i) (omega arith)

small_counts : (fs : Figures) → sum fs < most_moves → AllByRecursion IsFigure fs
small_counts fs h = All-from_get_or IsFigure fs 0 (λ i k. omega (arith, count_in_sum fs i))

small_bump : (fs : Figures) (i : ℕ) → sum fs < most_moves → AllByRecursion IsFigure (bump i fs)
small_bump fs i h = All-set IsFigure fs i (slice_index fs i + 1) (omega (arith, count_in_sum fs i)) (small_counts fs h)

-- ---- costs that take a move

module _ (c : TableCost) (d : Semitones) (t : Takes tabled 1 c) where
  room : Held (could_count c) c.moves
  room = held_taking (could_count c) c.moves t

  few_counts : sum c.counts < most_moves
  few_counts =
      let few : c.moves < most_moves = room.few in
      let made : sum c.counts ≤ c.moves = leb-true (sum c.counts) c.moves room.possible in
      omega arith

  table_longer : tabled.moves (tabled.pushed c d) ≡ tabled.moves c + 1
  table_longer =
      let up = sum_raised c.counts (size_place d) in
      let few : c.moves < most_moves = room.few in
      let made : sum c.counts ≤ c.moves = leb-true (sum c.counts) c.moves room.possible in
      let one : min (c.moves + 1) (2 ^ 16 - 1) ≡ c.moves + 1 = omega arith in
      let counts = raised (size_place d) c.counts in
      let could_be : leb (sum counts) (c.moves + 1) ≡ true = le-leb (sum counts) (c.moves + 1) (omega arith) in
      (λ i. held (nat_le (sum counts) (one i)) (one i)) ∙ held_more (nat_le (sum counts) (c.moves + 1)) c.moves few could_be ∙ ap (λ n. n + 1) (sym room.named)

-- ---- crossed moves

uncrossed_bumps : (fs : Figures) (s t p q : Semitones) → IsMove p → IsMove q → s + t ≤ p + q → max s t ≤ max p q → AtMost (bump (size_place t) (bump (size_place s) fs)) (bump (size_place q) (bump (size_place p) fs))
uncrossed_bumps fs s t p q m n together greater =
    ⊎_elim
    (λ h. later_bumps (size_place t) (size_place s) (size_place q) (size_place p) fs (omega arith) (omega arith) (omega arith) (omega arith))
    (λ h. subst (AtMost (bump (size_place t) (bump (size_place s) fs))) (bump_bump (size_place p) (size_place q) fs) (later_bumps (size_place t) (size_place s) (size_place p) (size_place q) fs (omega arith) (omega arith) (omega arith) (omega arith)))
    (cases_lt p q)

-- ---- the laws

pub table_strict_laws : StrictLaws tabled
table_strict_laws = record {
  weak = record {
    steady = λ c. c.whole;
    bounded = λ c. held_bounded (could_count c) c.moves;
    empty = refl;
    longer = λ c d t _. table_longer c d t;
    stepped = λ c d t _. raised_bump c.counts (size_place d) (few_counts c d t);
    small = (small_counts tabled.none.counts (omega arith), λ c d t _. small_bump c.counts (size_place d) (few_counts c d t));
    swap = λ c d e _ _ _. bump_bump (size_place e) (size_place d) c.counts;
    keep = λ b c d _ _ _. at_most_bump (size_place d) b.counts c.counts;
    uncross = λ c a a2 b b2 _ _ h k _ m n. uncrossed_bumps c.counts (move a b) (move a2 b2) (move a b2) (move a2 b) m n (straight_together a a2 b b2 h k) (straight_greater a a2 b b2 h k);
  };
  strict = λ b c d _ _ _. below_bump (size_place d) b.counts c.counts;
}

-- ---- the figures of a list of moves

unlike : (n m d : ℕ) → (m ≢ d) → n ≡ n + cond (m == d) 1 0
unlike n m d h = sym (ap (λ t. n + cond t 1 0) (ne_eqb m d h) ∙ add-zero n)

-- where f n is the count of each size n: a wider move changes nothing, and a move among them its own count
bump_none : (f : ℕ → ℕ) (n d : ℕ) → n < d → map f (down_from n) ≡ map (λ m. f m + cond (m == d) 1 0) (down_from n)
bump_none f zero d h = refl
bump_none f (suc n) d h = λ i. unlike (f (suc n)) (suc n) d (λ e. omega arith) i ∷ bump_none f n d (omega arith) i

bump_one : (f : ℕ → ℕ) (n d : ℕ) → d ≤ n → bump (n - d) (map f (down_from n)) ≡ map (λ m. f m + cond (m == d) 1 0) (down_from n)
bump_one f zero d h = refl
bump_one f (suc n) d h = ⊎_elim
    (λ k. let e : suc n - d ≡ suc (n - d) = omega arith in ap (λ p. bump p (map f (down_from (suc n)))) e ∙ (λ i. unlike (f (suc n)) (suc n) d (λ e. omega arith) i ∷ bump_one f n d (omega arith) i))
    (λ k. let e : suc n - d ≡ 0 = omega arith in ap (λ p. bump p (map f (down_from (suc n)))) e ∙ (λ i. ap (λ t. f (suc n) + cond t 1 0) (sym (eq-eqb (suc n) d (omega arith))) i ∷ bump_none f n d k i))
    (cases_lt d (suc n))

one_more : (n m d : ℕ) (ds : List Semitones) → n + cond (m == d) 1 0 + count_by (nat_eq m) ds ≡ n + count_by (nat_eq m) (d ∷ ds)
one_more n m d ds = omega (arith, sum_by-cons (λ e. cond (m == e) 1 0) d ds)

-- from any counts on
counted : (f : ℕ → ℕ) (ds : List Semitones) → AllByRecursion IsMove ds → fold tabled.step (map f (down_from widest)) ds ≡ map (λ m. f m + count_by (nat_eq m) ds) (down_from widest)
counted f [] h = ap (λ g. map g (down_from widest)) (λ i m. sym (add-zero (f m)) i)
counted f (d ∷ ds) h =
    ap (λ fs. fold tabled.step fs ds) (bump_one f widest d h.0)
    ∙ counted (λ m. f m + cond (m == d) 1 0) ds h.1
    ∙ ap (λ g. map g (down_from widest)) (λ i m. one_more (f m) m d ds i)

pub table_figures : (ds : List Semitones) → Fits ds → figures_of (meaning tabled) ds ≡ table ds
table_figures ds h = counted (λ _. 0) ds h.moves ∙ ap (λ g. map g (down_from widest)) (λ i m. zero-add (count_by (nat_eq m) ds) i)
