-- Rows put into a table one behind the other fill its front.
use Rattle.std.proofs.Common.{◌≡◌, ℕ, suc, ◌+◌, ◌*◌, ◌≤◌, Bool, true, false, cond, leb, List, [], ◌∷◌, ◌++◌, length, drop, Some, None, Ok, Err, Result, sym, refl, ap, ◌∙◌, subst, inl, inr, append_assoc, append-nil, suc-mul, zero-mul, add-one, arith}
use Rattle.harmony.specs.Chords.{Harmony}
use Rattle.harmony.specs.declared.range.Bounds.{Bounds}
use Rattle.harmony.specs.declared.refusal.Refusal.{Refusal}
use Rattle.harmony.specs.declared.refusal.Refusal.TheVariants.{NoRow, TooManyRows}
use Rattle.rows.specs.Arrangements.{inside, within}
use Rattle.rows.specs.Enumeration.{In, rows}
use Rattle.rows.specs.Growth.{Completed, laid, placed}
use Rattle.rows.specs.Tables.{all_few, all_some, count_unless, counted, flat, together, written}
use Rattle.rows.proofs.Meaning.{meant}
use Rattle.std.proofs.lemmas.List.{drop_at, drop-drop, length-append, length-drop, take_at}
use Rattle.std.proofs.lemmas.Bool.{and_parts, cond-true, false≢true, le-leb, leb-true}
use Rattle.std.specs.List.{AllByRecursion}

-- every row is as long as the ranges are many
inside_length : (vs : List Bounds) (ps : List ℕ) → inside vs ps ≡ true → length ps ≡ length vs
inside_length [] [] h = refl
inside_length [] (p ∷ ps) h = absurd (false≢true h)
inside_length (v ∷ vs) [] h = absurd (false≢true h)
inside_length (v ∷ vs) (p ∷ ps) h = ap suc (inside_length vs ps (and_parts (within v p) (inside vs ps) h).1)

all_from_in : {X : Type 0} (P : X → Type 0) (xs : List X) → ((x : X) → In x xs → P x) → AllByRecursion P xs
all_from_in P [] h = tt
all_from_in P (x ∷ xs) h = (h x (inl refl), all_from_in P xs (λ y g. h y (inr g)))

pub rows_length : (vs : List Bounds) (c : Harmony) → length c.counts ≡ 12 → AllByRecursion (λ r. length r ≡ length vs) (rows vs c)
rows_length vs c full = all_from_in (λ r. length r ≡ length vs) (rows vs c) (λ r h. inside_length vs r ((meant vs c full).rows_only r h).arranged.ranges)

module _ (n : ℕ) where
  placed_behind : (k : ℕ) (front rest r : List ℕ) → length front ≡ k * n → n ≤ length rest → placed n (front ++ rest) k r ≡ (front ++ r) ++ drop n rest
  placed_behind k front rest r long room =
      let fits : k * n + n ≤ length (front ++ rest) = omega (arith, length-append front rest) in
      cond-true (leb (k * n + n) (length (front ++ rest))) _ _ (le-leb (k * n + n) (length (front ++ rest)) fits)
      ∙ ap (λ t. t ++ (r ++ drop (k * n + n) (front ++ rest))) (take_at front rest (k * n) long)
      ∙ ap (λ t. front ++ (r ++ t)) (sym (drop-drop n (k * n) (front ++ rest)) ∙ ap (drop n) (drop_at front rest (k * n) long))
      ∙ sym (append_assoc front r (drop n rest))

  laid_behind : (k : ℕ) (front rest : List ℕ) (rs : List (List ℕ)) → length front ≡ k * n → AllByRecursion (λ r. length r ≡ n) rs → length rs * n ≤ length rest → laid n (front ++ rest) k rs ≡ front ++ (flat rs ++ drop (length rs * n) rest)
  laid_behind k front rest [] long h room = ap (λ m. front ++ drop m rest) (sym (zero-mul n))
  laid_behind k front rest (r ∷ rs) long h room =
      let more : suc (length rs) * n ≡ length rs * n + n = suc-mul (length rs) n in
      let next : (k + 1) * n ≡ k * n + n = rw add-one (suc-mul k n) in
      let all : n + length rs * n ≡ suc (length rs) * n = omega (arith, more) in
      ap (λ t. laid n t (k + 1) rs) (placed_behind k front rest r long (omega (arith, more)))
      ∙ laid_behind (k + 1) (front ++ r) (drop n rest) rs (omega (arith, next, length-append front r, h.0)) h.1 (omega (arith, more, length-drop n rest))
      ∙ ap (λ t. (front ++ r) ++ (flat rs ++ t)) (drop-drop (length rs * n) n rest ∙ ap (λ m. drop m rest) all)
      ∙ append_assoc front r (flat rs ++ drop (suc (length rs) * n) rest)
      ∙ ap (λ t. front ++ t) (sym (append_assoc r (flat rs) (drop (suc (length rs) * n) rest)))

  pub laid_all : (table : List ℕ) (rs : List (List ℕ)) → AllByRecursion (λ r. length r ≡ n) rs → length rs * n ≤ length table → laid n table 0 rs ≡ flat rs ++ drop (length rs * n) table
  laid_all table rs h room = laid_behind 0 [] table rs (sym (zero-mul n)) h room

-- what an accepted count says
pub counted_parts : (rss : List (List (List ℕ))) (k : ℕ) → counted rss ≡ Ok k → (all_some rss ≡ true) × (all_few rss ≡ true) × (k ≡ length (together rss))
counted_parts rss k e = parts (all_some rss) (all_few rss) e
  where
    parts : (a b : Bool) → count_unless (cond a (cond b None (Some TooManyRows)) (Some NoRow)) rss ≡ Ok k → (a ≡ true) × (b ≡ true) × (k ≡ length (together rss))
    parts true true e = (refl, refl, cc)
    parts true false e = let z : ◌≡◌ {A = ℕ} 0 1 = cc in absurd (omega arith)
    parts false b e = let z : ◌≡◌ {A = ℕ} 0 1 = cc in absurd (omega arith)

-- a search that finds the rows of one chord, which were counted, has written them
pub found_table : (n : ℕ) (rs : List (List ℕ)) (part after : List ℕ) (k : ℕ) (r : Result ℕ Refusal) → AllByRecursion (λ row. length row ≡ n) rs → counted (rs ∷ []) ≡ Ok k → k * n ≤ length part → Completed n 0 rs part after r → after ≡ written n rs part r
found_table n rs part after k (Err e) widths was room done =
    absurd (omega (arith, done.1, leb-true (length rs) 256 (and_parts (leb (length rs) 256) true (counted_parts (rs ∷ []) k was).1).0))
found_table n rs part after k (Ok j) widths was room done =
    let one : k ≡ length rs = (counted_parts (rs ∷ []) k was).2 ∙ ap length (append-nil rs) in
    let all : length rs ≡ j = omega (arith, done.0) in
    done.2 ∙ laid_all n part rs widths (subst (λ m. m * n ≤ length part) one room) ∙ ap (λ m. flat rs ++ drop (m * n) part) all
