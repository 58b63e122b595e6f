-- What is read as a line is one in writing.
use Rattle.std.proofs.Common.{◌≡◌, ℕ, ◌+◌, ◌-◌, ◌<◌, ◌≤◌, true, ◌&&◌, eqb, leb, List, [], ◌∷◌, ◌++◌, map, length, Some, None, codes, Option, sym, refl, ap, ◌∙◌, inl, inr, arith}
use Rattle.harmony.specs.declared.range.Bounds.{Bounds}
use Rattle.std.proofs.ByRecursion.{All-push}
use Rattle.std.proofs.lemmas.List.{append_assoc, append-nil, length_push, map_push}
use Rattle.std.proofs.lemmas.Bool.{and_parts, cases_Bool, eqb-true, leb-true}
use Rattle.std.specs.List.{flat_map, AllByRecursion}
use Rattle.text.proofs.Words.{word_before}
use Rattle.text.specs.Numbers.{digit, number}
use Rattle.text.specs.RangeLines.{Line, Place, added, behind, between, closing, from_word, hyphen, in_high, in_low, parted, range_line, scan, stepped}
use Rattle.text.specs.Written.{Digits, Written, WrittenLine, bounds_of, figures, spelled, value}

-- at most three digits, perhaps none yet
record Few (ds : List ℕ) : Type 0 where
  pub few : length ds ≤ 3
  pub decimal : AllByRecursion (λ d. d < 10) ds

-- the bytes read of the range under way
abbrev Front : Place → List ℕ → Type 0
Front between front = front ≡ []
Front (in_low ds) front = Few ds × (front ≡ 32 ∷ figures ds)
Front (in_high l ds) front =
    (ls : List ℕ) × Digits ls × (value ls ≡ l) × Few ds × (front ≡ 32 ∷ (figures ls ++ 45 ∷ figures ds))

-- a digit more
module _ (ds : List ℕ) (b : ℕ) (fits : (digit b && leb (length ds) 2) ≡ true) (few : Few ds) where
  is_digit : (48 ≤ b) × (b ≤ 57)
  is_digit =
      let parts = and_parts (leb 48 b) (leb b 57) (and_parts (digit b) (leb (length ds) 2) fits).0 in
      (leb-true 48 b parts.0, leb-true b 57 parts.1)

  few_more : Few (ds ++ (b - 48) ∷ [])
  few_more =
      let room = leb-true (length ds) 2 (and_parts (digit b) (leb (length ds) 2) fits).1 in
      record {
        few = omega (arith, length_push ds (b - 48));
        decimal = All-push (λ d. d < 10) ds (b - 48) few.decimal (omega (arith, is_digit.0, is_digit.1));
      }

  figures_more : (bs : List ℕ) → figures (ds ++ (b - 48) ∷ []) ++ bs ≡ figures ds ++ b ∷ bs
  figures_more bs =
      let same : 48 + (b - 48) ≡ b = omega (arith, is_digit.0) in
      ap (λ cs. cs ++ bs) (map_push (λ d. 48 + d) ds (b - 48)) ∙ append_assoc (figures ds) ((48 + (b - 48)) ∷ []) bs
      ∙ ap (λ c. figures ds ++ c ∷ bs) same

whole : (d : ℕ) (ds : List ℕ) → Few (d ∷ ds) → Digits (d ∷ ds)
whole d ds w = record { some = omega arith; few = w.few; decimal = w.decimal }

module _ (line : Line) where
  -- the rest of the line is ranges in writing, behind the ranges read so far
  record Found (rs : List Bounds) (bs : List ℕ) : Type 0 where
    pub ranges : List Written
    pub bytes : bs ≡ flat_map spelled ranges ++ 10 ∷ line.rest
    pub values : line.ranges ≡ rs ++ map bounds_of ranges

  found_at : (rs : List Bounds) (bs cs : List ℕ) → bs ≡ cs → Found rs bs → Found rs cs
  found_at rs bs cs e found = record { ranges = found.ranges; bytes = sym e ∙ found.bytes; values = found.values }

  -- one range more in front
  found_more : (w : Written) (rs : List Bounds) (bs : List ℕ) → Found (rs ++ bounds_of w ∷ []) bs → Found rs (spelled w ++ bs)
  found_more w rs bs found =
      record {
        ranges = w ∷ found.ranges;
        bytes =
            ap (λ cs. spelled w ++ cs) found.bytes
            ∙ sym (append_assoc (spelled w) (flat_map spelled found.ranges) (10 ∷ line.rest));
        values = found.values ∙ append_assoc rs (bounds_of w ∷ []) (map bounds_of found.ranges);
      }

  -- what holds of the bytes that are left, at every place
  abbrev Law : List ℕ → Type 0
  Law bs = (rs : List Bounds) (p : Place) (front : List ℕ) → Front p front → scan bs rs p ≡ Some line → Found rs (front ++ bs)

  module _ (b : ℕ) (bs : List ℕ) (law : Law bs) (rs : List Bounds) where
    -- behind a range or the word
    found_parted : (closed : Option Bounds) → stepped (scan bs) rs bs (parted closed b) ≡ Some line → Found (added rs closed) (b ∷ bs)
    found_parted closed h =
        elim (cases_Bool (eqb b 10)) [
          | inl e ↦
              let is : record { ranges = added rs closed; rest = bs } ≡ line = cc (rw e at h) in
              let feed = eqb-true b 10 e in
              record {
                ranges = [];
                bytes = ap (λ c. c ∷ bs) feed ∙ ap (λ l. 10 ∷ l.rest) is;
                values = sym (ap (λ l. l.ranges) is) ∙ sym (append-nil (added rs closed));
              }
          | inr e ↦ elim (cases_Bool (eqb b 32)) [
            | inl f ↦
                let none : Few [] = record { few = omega arith; decimal = tt } in
                let space = eqb-true b 32 f in
                found_at _ (32 ∷ bs) (b ∷ bs) (ap (λ c. c ∷ bs) (sym space)) (law (added rs closed) (in_low []) (32 ∷ []) (none, refl) (rw (e, f) at h))
            | inr f ↦ cc (rw (e, f) at h)
          ]
        ]

    -- in a low: a digit more, or the hyphen
    found_low : (ds : List ℕ) → Few ds → scan (b ∷ bs) rs (in_low ds) ≡ Some line → Found rs (32 ∷ (figures ds ++ b ∷ bs))
    found_low ds few h =
        elim (cases_Bool (digit b && leb (length ds) 2)) [
          | inl e ↦
              let on = law rs (in_low (ds ++ (b - 48) ∷ [])) _ (few_more ds b e few, refl) (rw e at h) in
              found_at rs _ _ (ap (λ cs. 32 ∷ cs) (figures_more ds b e few bs)) on
          | inr e ↦ elim (cases_Bool (eqb b 45)) [
            | inl f ↦ hyphened ds few (eqb-true b 45 f) (rw (e, f) at h)
            | inr f ↦ cc (rw (e, f) at h)
          ]
        ]
      where
        hyphened : (es : List ℕ) → Few es → b ≡ 45 → stepped (scan bs) rs bs (hyphen (number es)) ≡ Some line → Found rs (32 ∷ (figures es ++ b ∷ bs))
        hyphened [] w is g = cc g
        hyphened (e ∷ es) w is g =
            let none : Few [] = record { few = omega arith; decimal = tt } in
            let on = law rs (in_high (value (e ∷ es)) []) _ (e ∷ es, whole e es w, refl, none, refl) g in
            let bytes = append_assoc (figures (e ∷ es)) (45 ∷ []) bs in
            found_at rs _ _ (ap (λ cs. 32 ∷ cs) (bytes ∙ ap (λ c. figures (e ∷ es) ++ c ∷ bs) (sym is))) on

    -- in a high: a digit more, or the range's end
    found_high : (ls : List ℕ) → Digits ls → (ds : List ℕ) → Few ds → scan (b ∷ bs) rs (in_high (value ls) ds) ≡ Some line → Found rs (32 ∷ (figures ls ++ 45 ∷ (figures ds ++ b ∷ bs)))
    found_high ls low ds few h =
        elim (cases_Bool (digit b && leb (length ds) 2)) [
          | inl e ↦
              let on = law rs (in_high (value ls) (ds ++ (b - 48) ∷ [])) _ (ls, low, refl, few_more ds b e few, refl) (rw e at h) in
              let bytes = append_assoc (figures ls) (45 ∷ figures (ds ++ (b - 48) ∷ [])) bs in
              found_at rs _ _ (ap (λ cs. 32 ∷ cs) (bytes ∙ ap (λ cs. figures ls ++ 45 ∷ cs) (figures_more ds b e few bs))) on
          | inr e ↦ closed ds few (rw e at h)
        ]
      where
        closed : (es : List ℕ) → Few es → stepped (scan bs) rs bs (closing (value ls) (number es) b) ≡ Some line → Found rs (32 ∷ (figures ls ++ 45 ∷ (figures es ++ b ∷ bs)))
        closed [] w g = cc g
        closed (e ∷ es) w g =
            let range : Written = record { low = ls; high = e ∷ es; low_digits = low; high_digits = whole e es w } in
            let bytes = append_assoc (figures ls) (45 ∷ figures (e ∷ es)) (b ∷ bs) in
            found_at rs _ _ (ap (λ cs. 32 ∷ cs) bytes) (found_more range rs (b ∷ bs) (found_parted (Some (bounds_of range)) g))

  found : (bs : List ℕ) → Law bs
  found [] rs p front at h = cc h
  found (b ∷ bs) rs between front at h = found_at rs _ _ (ap (λ cs. cs ++ b ∷ bs) (sym at)) (found_parted b bs (found bs) rs None h)
  found (b ∷ bs) rs (in_low ds) front at h =
      found_at rs _ _ (ap (λ cs. cs ++ b ∷ bs) (sym at.1)) (found_low b bs (found bs) rs ds at.0 h)
  found (b ∷ bs) rs (in_high l ds) front at h =
      let ls = at.0 in
      let bytes = append_assoc (figures ls) (45 ∷ figures ds) (b ∷ bs) in
      found_at rs _ _ (ap (λ cs. 32 ∷ cs) (sym bytes) ∙ ap (λ cs. cs ++ b ∷ bs) (sym at.4))
      (found_high b bs (found bs) rs ls at.1 ds at.3 (rw (sym at.2) at h))

  pub read_written : (chart : List ℕ) → range_line chart ≡ Some line → WrittenLine chart line
  read_written chart h = from (behind (codes "voices") chart) refl h
    where
      from : (o : Option (List ℕ)) → behind (codes "voices") chart ≡ o → from_word o ≡ Some line → WrittenLine chart line
      from None e g = cc g
      from (Some bs) e g =
          let all = found bs [] between [] refl g in
          record {
            ranges = all.ranges;
            bytes = word_before (codes "voices") chart bs e ∙ ap (λ cs. codes "voices" ++ cs) all.bytes;
            values = all.values;
          }
