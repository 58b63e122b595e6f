-- The number of ranges and the first six, kept as the line is read.
use Rattle.std.proofs.Common.{◌≡◌, ℕ, ◌+◌, ◌<◌, ◌≤◌, min, List, [], ◌∷◌, ◌++◌, length, take, set, Some, None, Option, sym, ap, ◌∙◌, inl, inr, arith}
use Rattle.harmony.proofs.Ranges.{voices_many}
use Rattle.harmony.specs.Ranges.{voices_of}
use Rattle.harmony.specs.declared.range.Bounds.{Bounds}
use Rattle.std.proofs.lemmas.List.{length_push, set_past, take_all, take-append-le, take_more_set}
use Rattle.std.proofs.lemmas.Bool.{cases_lt, le-leb, lt-leb}
use Rattle.text.specs.RangeLines.{added}
use Rattle.text.specs.Telling.{Kept, filled, more, voices_within}

module _ (rs first : List Bounds) (n : ℕ) (full : length first ≡ 6) (kept : Kept rs n first) where
  -- one range more, of the first six
  early : (r : Bounds) → n < 6 → take (min (n + 1) 6) (set first n r) ≡ take 6 (rs ++ r ∷ [])
  early r h =
      let at : min (n + 1) 6 ≡ n + 1 = omega arith in
      let before : min n 6 ≡ n = omega arith in
      let all : take 6 rs ≡ rs = take_all 6 rs (omega (arith, kept.counted)) in
      let fronts : take n first ≡ rs = rw before at kept.firsts ∙ all in
      let long : length (rs ++ r ∷ []) ≤ 6 = omega (arith, length_push rs r, kept.counted) in
      rw at (take_more_set first n r (omega arith)) ∙ ap (λ front. front ++ r ∷ []) fronts ∙ sym (take_all 6 (rs ++ r ∷ []) long)

  -- one range more, behind the first six
  late : (r : Bounds) → 6 ≤ n → take (min (n + 1) 6) (set first n r) ≡ take 6 (rs ++ r ∷ [])
  late r h =
      let at : min (n + 1) 6 ≡ 6 = omega arith in
      let before : min n 6 ≡ 6 = omega arith in
      let same : set first n r ≡ first = set_past first n r (omega arith) in
      rw (at, same) (rw before at kept.firsts) ∙ sym (take-append-le 6 rs (r ∷ []) (omega (arith, kept.counted)))

  step_kept : (closed : Option Bounds) → Kept (added rs closed) (more n closed) (filled first n closed)
  step_kept None = kept
  step_kept (Some r) =
      record {
        counted = ap (λ k. k + 1) kept.counted ∙ sym (length_push rs r);
        firsts = elim (cases_lt n 6) [ inl h ↦ early r h | inr h ↦ late r h ];
      }

  pub kept_more : (closed : Option Bounds) (m : ℕ) (fs : List Bounds) → m ≡ more n closed → fs ≡ filled first n closed → Kept (added rs closed) m fs
  kept_more closed m fs e f = rw (e, f) (step_kept closed)

  -- the number and the first six tell what voices the ranges give
  pub kept_voices : voices_of rs ≡ voices_within n first
  kept_voices = elim (cases_lt 6 n) [ inl h ↦ many h | inr h ↦ few h ]
    where
      many : 6 < n → voices_of rs ≡ voices_within n first
      many h =
          voices_many rs (omega (arith, kept.counted)) ∙ rw (lt-leb n 6 h)

      few : n ≤ 6 → voices_of rs ≡ voices_within n first
      few h =
          let before : min n 6 ≡ n = omega arith in
          let all : take 6 rs ≡ rs = take_all 6 rs (omega (arith, kept.counted)) in
          let fronts : take n first ≡ rs = rw before at kept.firsts ∙ all in
          rw (le-leb n 6 h, fronts)
