-- A search that goes through the pitches of a voice one after the other.
use Rattle.std.proofs.Common.{◌≡◌, ℕ, zero, suc, ◌+◌, ◌-◌, ◌<◌, ◌≤◌, true, false, cond, List, [], ◌∷◌, ◌++◌, map, length, get_or, drop, Ok, sym, ap, ◌∙◌, append_assoc, append-nil, add-zero, zero-add, arith}
use Rattle.harmony.specs.Pitches.{class}
use Rattle.harmony.specs.Ranges.{bounds}
use Rattle.harmony.specs.declared.range.Bounds.{Bounds}
use Rattle.harmony.specs.declared.range.Range.{Range}
use Rattle.rows.specs.Enumeration.{Footing, In, above, less, may, pitches}
use Rattle.rows.specs.Growth.{Completed, grown, laid, placed}
use Rattle.rows.proofs.Members.{in_counting, in_joined}
use Rattle.std.proofs.lemmas.List.{at_drop_more, drop_all, get_or-map, length-append, length-map}
use Rattle.std.proofs.lemmas.Bool.{cond-true, cond-false}
use Rattle.std.specs.List.{range_with_len, flat_map}

laid_append : (n : ℕ) (table : List ℕ) (k : ℕ) (xs ys : List (List ℕ)) → laid n table k (xs ++ ys) ≡ laid n (laid n table k xs) (k + length xs) ys
laid_append n table k [] ys = ap (λ m. laid n table m ys) (sym (add-zero k))
laid_append n table k (x ∷ xs) ys =
    let e : k + 1 + length xs ≡ k + suc (length xs) = omega arith in
    laid_append n (placed n table k x) (k + 1) xs ys ∙ ap (λ m. laid n (laid n (placed n table k x) (k + 1) xs) m ys) e

-- the rows that begin with these pitches and then p
abbrev pub branch : List ℕ → List Bounds → Footing → List ℕ → ℕ → List (List ℕ)
branch chosen vs footing left p = cond (may footing left p) (grown (chosen ++ p ∷ []) vs (above p) (less left (class p))) []

module _ (g : ℕ → List (List ℕ)) where
  -- what was found below the pitch s
  abbrev pub below : ℕ → ℕ → List (List ℕ)
  below low s = flat_map g (range_with_len low (s - low))

  split : (a m n : ℕ) → flat_map g (range_with_len a (m + n)) ≡ flat_map g (range_with_len a m) ++ flat_map g (range_with_len (a + m) n)
  split a zero n = ap (λ k. flat_map g (range_with_len a k)) (zero-add n) ∙ ap (λ b. flat_map g (range_with_len b n)) (sym (add-zero a))
  split a (suc m) n =
      let e : suc m + n ≡ suc (m + n) = omega arith in
      let f : a + 1 + m ≡ a + suc m = omega arith in
      ap (λ k. flat_map g (range_with_len a k)) e ∙ ap (λ rest. g a ++ rest) (split (a + 1) m n)
      ∙ sym (append_assoc (g a) (flat_map g (range_with_len (a + 1) m)) (flat_map g (range_with_len (a + 1 + m) n)))
      ∙ ap (λ b. (g a ++ flat_map g (range_with_len (a + 1) m)) ++ flat_map g (range_with_len b n)) f

  pub below_more : (low s : ℕ) → low ≤ s → below low (s + 1) ≡ below low s ++ g s
  below_more low s h =
      let e : s + 1 - low ≡ (s - low) + 1 = omega arith in
      let f : low + (s - low) ≡ s = omega arith in
      ap (λ k. flat_map g (range_with_len low k)) e ∙ split low (s - low) 1 ∙ ap (λ b. below low s ++ (g b ++ [])) f
      ∙ ap (λ x. below low s ++ x) (append-nil (g s))

  pub below_within : (low s high : ℕ) → low ≤ s → s ≤ high → length (below low s) ≤ length (below low high)
  below_within low s high h k =
      let e : high - low ≡ (s - low) + (high - s) = omega arith in
      let all = ap length (ap (λ m. flat_map g (range_with_len low m)) e ∙ split low (s - low) (high - s)) in
      omega (arith, all, length-append (below low s) (flat_map g (range_with_len (low + (s - low)) (high - s))))

  pub in_below : (ps : List ℕ) (low s high : ℕ) → low ≤ s → s < high → In ps (g s) → In ps (below low high)
  in_below ps low s high h k member = in_joined g ps s (range_with_len low (high - low)) (in_counting s low (high - low) h (omega arith)) member

module _ (n k m : ℕ) (xs ys zs : List (List ℕ)) (table mid : List ℕ) (both : zs ≡ xs ++ ys) where
  -- what is found behind rows that were found
  pub completed_both : Completed n k xs table mid (Ok m) → (j found : ℕ) (after last : List ℕ) → Completed n m ys mid after (Ok j) → found ≡ j → last ≡ after → Completed n k zs table last (Ok found)
  completed_both h j found after last g ef el = (
    omega (arith, h.0, g.0, ap length both, length-append xs ys),
    omega (arith, g.1),
    el ∙ g.2 ∙ ap (λ t. laid n t m ys) h.2 ∙ ap (λ i. laid n (laid n table k xs) i ys) h.0 ∙ sym (laid_append n table k xs ys)
        ∙ ap (laid n table k) (sym both),
  )

  pub completed_past : Completed n k xs table mid (Ok m) → 256 < m + length ys → 256 < k + length zs
  completed_past h g = omega (arith, h.0, ap length both, length-append xs ys)

-- a search at voice i of the ranges
module _ (ranges : List Range) (i : ℕ) (chosen : List ℕ) (footing : Footing) (left : List ℕ) where
  abbrev vs : List Bounds
  vs = map bounds ranges

  abbrev pub at_voice : ℕ → List (List ℕ)
  at_voice = branch chosen (drop (i + 1) vs) footing left

  -- what is found is what is found below one past the highest pitch
  pub grown_here : (r : Range) (low high : ℕ) → i < length ranges → r ≡ get_or ranges i r → low ≡ r.low.semitones → high ≡ r.high.semitones → grown chosen (drop i vs) footing left ≡ below at_voice low (high + 1)
  unfolding grown
  grown_here r low high h is el eh =
      let long : i < length vs = omega (arith, length-map ranges bounds) in
      let e : suc r.high.semitones ≡ high + 1 = omega arith in
      at_drop_more (λ us. grown chosen us footing left) vs i (bounds r) long
      ∙ ap (λ v. flat_map at_voice (pitches v)) (get_or-map bounds ranges i r (bounds r) h ∙ ap bounds (sym is))
      ∙ ap (λ k. flat_map at_voice (range_with_len r.low.semitones (k - r.low.semitones))) e
      ∙ ap (λ l. below at_voice l (high + 1)) (sym el)

  pub voice_none : (p : ℕ) → may footing left p ≡ false → at_voice p ≡ []
  voice_none p e = cond-false (may footing left p) (grown (chosen ++ p ∷ []) (drop (i + 1) vs) (above p) (less left (class p))) [] e

  -- what a climb with p for this voice finds
  pub voice_next : (p j : ℕ) (chosen' : List ℕ) (footing' : Footing) (left' : List ℕ) → may footing left p ≡ true → j ≡ i + 1 → chosen' ≡ chosen ++ p ∷ [] → footing' ≡ above p → left' ≡ less left (class p) → grown chosen' (drop j vs) footing' left' ≡ at_voice p
  voice_next p j chosen' footing' left' e ej ec ef el =
      ap (λ m. grown chosen' (drop m vs) footing' left') ej ∙ ap (λ ps. grown ps (drop (i + 1) vs) footing' left') ec
      ∙ ap (λ f. grown (chosen ++ p ∷ []) (drop (i + 1) vs) f left') ef ∙ ap (grown (chosen ++ p ∷ []) (drop (i + 1) vs) (above p)) el
      ∙ sym (cond-true (may footing left p) _ _ e)

  -- above the last voice there is no other
  pub grown_top : length ranges ≤ i → grown chosen (drop i vs) footing left ≡ grown chosen [] footing left
  grown_top h = ap (λ us. grown chosen us footing left) (drop_all i vs (omega (arith, length-map ranges bounds)))
