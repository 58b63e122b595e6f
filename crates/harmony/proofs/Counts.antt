-- The counts of a chord, tone by tone.
use Rattle.std.proofs.Common.{◌≡◌, ℕ, ◌+◌, ◌<◌, ◌≤◌, eqb, List, [], ◌∷◌, ◌++◌, map, length, get_or, set, sum, ap, ◌∙◌, arith}
use Rattle.harmony.specs.Chords.{tally}
use Rattle.harmony.specs.Pitches.{around}
use Rattle.harmony.specs.Symbols.{classes_above}
use Rattle.harmony.proofs.Tally.{get_or_tally, sum_tally, tally_push}
use Rattle.std.proofs.lemmas.List.{length-map, map_push}
use Rattle.std.proofs.lemmas.List.Sums.{count_by-le-length}
use Rattle.std.specs.List.{AllByRecursion}

-- f reads a tone of each item
module _ {X : Type 0} (f : X → ℕ) (root : ℕ) (items : List X) (class : ℕ) (counts : List ℕ) (inside : class < 12) (so_far : counts ≡ tally (classes_above root (map f items))) where
  -- no class is counted more often than there are tones
  pub count_le : get_or counts class 0 ≤ length items
  count_le =
      let cs = classes_above root (map f items) in
      rw (so_far, get_or_tally cs class inside)
      (omega (arith, count_by-le-length (eqb class) cs, length-map (map f items) (λ interval. around (root + interval)), length-map items f))

  -- one tone more
  pub counts_more : (item : X) → class ≡ around (root + f item) → set counts class (get_or counts class 0 + 1) ≡ tally (classes_above root (map f (items ++ item ∷ [])))
  counts_more item e =
      let cs = classes_above root (map f items) in
      rw (so_far, ← tally_push class cs inside, map_push f items item, map_push (λ interval. around (root + interval)) (map f items) (f item), e)

-- every tone is counted
pub counts_all : (root : ℕ) (tones : List ℕ) (counts : List ℕ) → counts ≡ tally (classes_above root tones) → sum counts ≡ length tones
counts_all root tones counts e =
    ap sum e ∙ sum_tally (classes_above root tones) (round tones) ∙ length-map tones (λ interval. around (root + interval))
  where
    round : (xs : List ℕ) → AllByRecursion (λ c. c < 12) (classes_above root xs)
    round [] = tt
    round (x ∷ xs) = (omega arith, round xs)
