-- The rows that are listed are exactly the rows of the chord, each once and in order.
use Rattle.std.proofs.Common.{◌≡◌, ℕ, suc, ◌-◌, ◌<◌, ◌≤◌, true, cond, leb, List, [], ◌∷◌, map, length, get_or, sym, refl, ap, ◌∙◌, subst, inl, inr, arith}
use Rattle.harmony.specs.Chords.{Harmony, tally}
use Rattle.harmony.specs.Pitches.{class}
use Rattle.harmony.specs.declared.range.Bounds.{Bounds}
use Rattle.rows.specs.Arrangements.{IsRow, ascends, inside, within}
use Rattle.rows.specs.Enumeration.{Footing, In, Meant, above, all_zero, bass, less, may, pitches, rows_on, stands}
use Rattle.rows.proofs.Counts.{length_less, tally_down, tally_up, tally_zero, zero_tally}
use Rattle.rows.proofs.Order.{in_order}
use Rattle.rows.proofs.Members.{from_counting, from_joined, from_map, in_counting, in_joined, in_map}
use Rattle.std.proofs.ByRecursion.{All-weaker}
use Rattle.std.proofs.lemmas.Bool.{and_from, and_parts, both_ways, cases_Bool, cond-true, cond-false, eq-eqb, eqb-true, le-leb, leb-true}
use Rattle.std.specs.List.{AllByRecursion}

-- each pitch stands on the one below, and the first on the footing
abbrev pub Climbs : Footing → List ℕ → Type 0
Climbs footing [] = Unit {0}
Climbs footing (p ∷ ps) = (stands footing p ≡ true) × Climbs (above p) ps

-- what the voices from here up may add
pub record Added (vs : List Bounds) (footing : Footing) (left : List ℕ) (ps : List ℕ) : Type 0 where
  pub ranges : inside vs ps ≡ true
  pub climbs : Climbs footing ps
  pub classes : tally (map class ps) ≡ left

small : (p : ℕ) → class p < 12
small p = omega arith

-- the rows that begin with a pitch
abbrev begun : List Bounds → Footing → List ℕ → ℕ → List (List ℕ)
begun vs footing left p = cond (may footing left p) (map (λ ps. p ∷ ps) (rows_on vs (above p) (less left (class p)))) []

from_begun : (vs : List Bounds) (footing : Footing) (left : List ℕ) (p : ℕ) (ps : List ℕ) → In ps (begun vs footing left p) → (may footing left p ≡ true) × ((qs : List ℕ) × (p ∷ qs ≡ ps) × In qs (rows_on vs (above p) (less left (class p))))
from_begun vs footing left p ps h =
    elim (cases_Bool (may footing left p)) [
      | inl e ↦ (e, from_map (λ qs. p ∷ qs) ps _ (subst (In ps) (cond-true (may footing left p) _ _ e) h))
      | inr e ↦ absurd (subst (In ps) (cond-false (may footing left p) (map (λ qs. p ∷ qs) (rows_on vs (above p) (less left (class p)))) [] e) h)
    ]

-- what is listed is added rightly
pub listed : (vs : List Bounds) (footing : Footing) (left : List ℕ) → length left ≡ 12 → (ps : List ℕ) → In ps (rows_on vs footing left) → Added vs footing left ps
unfolding rows_on
listed [] footing left full ps h =
    elim (cases_Bool (all_zero left)) [
      | inl e ↦ none e (subst (In ps) (cond-true (all_zero left) ([] ∷ []) [] e) h)
      | inr e ↦ absurd (subst (In ps) (cond-false (all_zero left) ([] ∷ []) [] e) h)
    ]
  where
    none : all_zero left ≡ true → In ps ([] ∷ []) → Added [] footing left ps
    none z (inl e) = subst (Added [] footing left) e (record { ranges = refl; climbs = tt; classes = zero_tally left full z })
    none z (inr e) = absurd e
listed (v ∷ vs) footing left full ps h =
    let there = from_joined (begun vs footing left) ps (pitches v) h in
    let p = there.0 in
    let can = from_begun vs footing left p ps there.2 in
    let qs = can.1.0 in
    let rest = listed vs (above p) (less left (class p)) (length_less left (class p) [] full (small p)) qs can.1.2 in
    let range = from_counting p v.low _ there.1 in
    let parts = and_parts (stands footing p) _ can.0 in
    subst (Added (v ∷ vs) footing left) can.1.1
    (record {
      ranges = and_from (within v p) (inside vs qs) (and_from (leb v.low p) (leb p v.high) (le-leb v.low p range.0) (le-leb p v.high (omega arith))) rest.ranges;
      climbs = (parts.0, rest.climbs);
      classes = tally_up left (class p) (map class qs) full (small p) (leb-true 1 _ parts.1) rest.classes;
    })

-- and what may be added is listed
pub lists : (vs : List Bounds) (footing : Footing) (left : List ℕ) → length left ≡ 12 → (ps : List ℕ) → Added vs footing left ps → In ps (rows_on vs footing left)
unfolding rows_on
lists [] footing left full [] h = subst (In []) (sym (cond-true (all_zero left) ([] ∷ []) [] (tally_zero left h.classes))) (inl refl)
lists [] footing left full (p ∷ ps) h = absurd (both_ways true (sym h.ranges) refl)
lists (v ∷ vs) footing left full [] h = absurd (both_ways true (sym h.ranges) refl)
lists (v ∷ vs) footing left full (p ∷ ps) h =
    let where_at = and_parts (within v p) (inside vs ps) h.ranges in
    let bounds = and_parts (leb v.low p) (leb p v.high) where_at.0 in
    let low : v.low ≤ p = leb-true v.low p bounds.0 in
    let high : p ≤ v.high = leb-true p v.high bounds.1 in
    let down = tally_down left (class p) (map class ps) full (small p) h.classes in
    let can : may footing left p ≡ true = and_from (stands footing p) _ h.climbs.0 (le-leb 1 (get_or left (class p) 0) down.0) in
    let rest = lists vs (above p) (less left (class p)) (length_less left (class p) [] full (small p)) ps (record { ranges = where_at.1; climbs = h.climbs.1; classes = down.1 }) in
    in_joined (begun vs footing left) (p ∷ ps) p (pitches v) (in_counting p v.low (suc v.high - v.low) low (omega arith))
    (subst (In (p ∷ ps)) (sym (cond-true (may footing left p) _ _ can)) (in_map (λ qs. p ∷ qs) ps _ rest))

-- a pitch that each pitch climbs from is the lowest of all
above_all : (p : ℕ) (ps : List ℕ) → Climbs (above p) ps → AllByRecursion (λ q. p ≤ q) ps
above_all p [] h = tt
above_all p (q ∷ ps) h = let le = leb-true p q h.0 in (le, All-weaker (λ r. q ≤ r) (λ r. p ≤ r) (λ r g. omega arith) ps (above_all q ps h.1))

climbs_ascends : (p : ℕ) (ps : List ℕ) → Climbs (above p) ps → ascends (p ∷ ps) ≡ true
climbs_ascends p [] h = refl
climbs_ascends p (q ∷ ps) h = and_from (leb p q) (ascends (q ∷ ps)) h.0 (climbs_ascends q ps h.1)

ascends_climbs : (p : ℕ) (ps : List ℕ) → ascends (p ∷ ps) ≡ true → Climbs (above p) ps
ascends_climbs p [] h = tt
ascends_climbs p (q ∷ ps) h = let parts = and_parts (leb p q) (ascends (q ∷ ps)) h in (parts.0, ascends_climbs q ps parts.1)

-- where the first of ascending pitches has the bass class, the lowest one has
bass_lowest : (b p : ℕ) (ps : List ℕ) → class p ≡ b → Climbs (above p) ps → AllByRecursion (λ q. AllByRecursion (λ r. q ≤ r) (p ∷ ps) → class q ≡ b) (p ∷ ps)
bass_lowest b p ps e h =
    (λ g. e, All-weaker (λ q. p ≤ q) (λ q. AllByRecursion (λ r. q ≤ r) (p ∷ ps) → class q ≡ b) (λ q le g. let same : q ≡ p = omega (arith, g.0) in ap class same ∙ e) ps (above_all p ps h))

-- what may be added from the bass class up is a row, and the other way round
added_row : (vs : List Bounds) (c : Harmony) (ps : List ℕ) → Added vs (bass c.bass) c.counts ps → IsRow vs c ps
added_row vs c [] h = record { arranged = record { ranges = h.ranges; classes = h.classes; lowest = tt }; ascending = refl }
added_row vs c (p ∷ ps) h =
    record {
      arranged = record {
        ranges = h.ranges;
        classes = h.classes;
        lowest = bass_lowest c.bass p ps (eqb-true (class p) c.bass h.climbs.0) h.climbs.1;
      };
      ascending = climbs_ascends p ps h.climbs.1;
    }

row_added : (vs : List Bounds) (c : Harmony) (ps : List ℕ) → IsRow vs c ps → Added vs (bass c.bass) c.counts ps
row_added vs c [] h = record { ranges = h.arranged.ranges; climbs = tt; classes = h.arranged.classes }
row_added vs c (p ∷ ps) h =
    let up = ascends_climbs p ps h.ascending in
    record {
      ranges = h.arranged.ranges;
      climbs = (eq-eqb (class p) c.bass (h.arranged.lowest.0 (omega arith, above_all p ps up)), up);
      classes = h.arranged.classes;
    }

pub meant : (vs : List Bounds) (c : Harmony) → length c.counts ≡ 12 → Meant vs c
meant vs c full =
    record {
      rows_only = λ ps h. added_row vs c ps (listed vs (bass c.bass) c.counts full ps h);
      all_rows = λ ps h. lists vs (bass c.bass) c.counts full ps (row_added vs c ps h);
      ordered = in_order vs (bass c.bass) c.counts;
    }
