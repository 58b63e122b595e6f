-- A written line is read.
use Rattle.std.proofs.Common.{◌≡◌, ℕ, ◌+◌, ◌-◌, ◌<◌, ◌≤◌, true, leb, List, [], ◌∷◌, ◌++◌, map, length, Some, None, codes, Option, sym, refl, ap, ◌∙◌, arith}
use Rattle.harmony.specs.declared.range.Bounds.{Bounds}
use Rattle.std.proofs.lemmas.List.{append_assoc, append-nil, length_push}
use Rattle.std.proofs.lemmas.Bool.{and_from, le-leb}
use Rattle.std.specs.List.{flat_map, AllByRecursion}
use Rattle.text.specs.Numbers.{digit, pushed}
use Rattle.text.specs.RangeLines.{Line, Place, added, behind, between, in_high, in_low, onward, parted, range_line, scan, step}
use Rattle.text.proofs.Words.{behind_word}
use Rattle.text.specs.Written.{Digits, Written, WrittenLine, bounds_of, figures, spelled, value}

-- a digit's byte is added to the digits so far, while they are less than three
pub pushed_digit : (ds : List ℕ) (d : ℕ) → d < 10 → length ds ≤ 2 → pushed ds (48 + d) ≡ Some (ds ++ d ∷ [])
pushed_digit ds d h k =
    let is : digit (48 + d) ≡ true = and_from (leb 48 (48 + d)) (leb (48 + d) 57) (le-leb 48 (48 + d) (omega arith)) (le-leb (48 + d) 57 (omega arith)) in
    let same : 48 + d - 48 ≡ d = omega arith in
    rw (is, le-leb (length ds) 2 k, same)

-- digits are read on, at a place that holds them
module _ (in_number : List ℕ → Place) (reads : (ds more : List ℕ) (b : ℕ) → pushed ds b ≡ Some more → step (in_number ds) b ≡ onward (in_number more)) where
  scan_digits : (ds es bs : List ℕ) (rs : List Bounds) → AllByRecursion (λ d. d < 10) es → length ds + length es ≤ 3 → scan (figures es ++ bs) rs (in_number ds) ≡ scan bs rs (in_number (ds ++ es))
  scan_digits ds [] bs rs a h = rw (append-nil ds)
  scan_digits ds (e ∷ es) bs rs a h =
      let here = reads ds (ds ++ e ∷ []) (48 + e) (pushed_digit ds e a.0 (omega arith)) in
      let on = scan_digits (ds ++ e ∷ []) es bs rs a.1 (omega (arith, length_push ds e)) in
      rw here on ∙ ap (λ cs. scan bs rs (in_number cs)) (append_assoc ds (e ∷ []) es)

-- a low is read, with the hyphen behind it
low_read : (ds bs : List ℕ) (rs : List Bounds) → Digits ds → scan (figures ds ++ 45 ∷ bs) rs (in_low []) ≡ scan bs rs (in_high (value ds) [])
low_read ds bs rs w = scan_digits in_low (λ es more b e. rw e) [] ds (45 ∷ bs) rs w.decimal (omega (arith, w.few)) ∙ hyphen_read ds w.some
  where
    hyphen_read : (es : List ℕ) → 1 ≤ length es → scan (45 ∷ bs) rs (in_low es) ≡ scan bs rs (in_high (value es) [])
    hyphen_read [] h = absurd (omega arith)
    hyphen_read (e ∷ es) h = refl

-- a place behind a range, or behind the word, where a space or a line feed may come
record Ready (p : Place) (closed : Option Bounds) : Type 0 where
  pub feed : step p 10 ≡ parted closed 10
  pub space : step p 32 ≡ parted closed 32

high_ready : (l : ℕ) (ds : List ℕ) → Digits ds → Ready (in_high l ds) (Some (record { low = l; high = value ds }))
high_ready l [] w = absurd (omega (arith, w.some))
high_ready l (d ∷ ds) w = record { feed = refl; space = refl }

high_read : (l : ℕ) (ds bs : List ℕ) (rs : List Bounds) → Digits ds → scan (figures ds ++ bs) rs (in_high l []) ≡ scan bs rs (in_high l ds)
high_read l ds bs rs w = scan_digits (in_high l) (λ es more b e. rw e) [] ds bs rs w.decimal (omega (arith, w.few))

-- one range is read, behind the ones before it
range_read : (w : Written) (bs : List ℕ) (rs : List Bounds) (p : Place) (closed : Option Bounds) → Ready p closed → scan (spelled w ++ bs) rs p ≡ scan bs (added rs closed) (in_high (value w.low) w.high)
range_read w bs rs p closed ready =
    let both = append_assoc (figures w.low) (45 ∷ figures w.high) bs in
    rw (ready.space, both) (low_read w.low (figures w.high ++ bs) (added rs closed) w.low_digits)
    ∙ high_read (value w.low) w.high bs (added rs closed) w.high_digits

-- and all of them, with the line feed
ranges_read : (ws : List Written) (rest : List ℕ) (rs : List Bounds) (p : Place) (closed : Option Bounds) → Ready p closed → scan (flat_map spelled ws ++ 10 ∷ rest) rs p ≡ Some (record { ranges = added rs closed ++ map bounds_of ws; rest = rest })
ranges_read [] rest rs p closed ready = rw (ready.feed, append-nil (added rs closed))
ranges_read (w ∷ ws) rest rs p closed ready =
    let here = range_read w (flat_map spelled ws ++ 10 ∷ rest) rs p closed ready in
    let next = high_ready (value w.low) w.high w.high_digits in
    let on = ranges_read ws rest (added rs closed) (in_high (value w.low) w.high) (Some (bounds_of w)) next in
    ap (λ bs. scan bs rs p) (append_assoc (spelled w) (flat_map spelled ws) (10 ∷ rest)) ∙ here
    ∙ on ∙ ap (λ all. Some (record { ranges = all; rest = rest })) (append_assoc (added rs closed) (bounds_of w ∷ []) (map bounds_of ws))

pub written_read : (chart : List ℕ) (line : Line) → WrittenLine chart line → range_line chart ≡ Some line
written_read chart line w =
    let word : behind (codes "voices") chart ≡ Some (flat_map spelled w.ranges ++ 10 ∷ line.rest) = rw w.bytes (behind_word (codes "voices") _) in
    rw word (ranges_read w.ranges line.rest [] between None (record { feed = refl; space = refl }))
    ∙ ap (λ all. Some (record { ranges = all; rest = line.rest })) (sym w.values)
