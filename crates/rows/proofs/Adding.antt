-- The rows of several chords, added up chord by chord.
use Rattle.std.proofs.Common.{◌≡◌, ℕ, zero, suc, ◌+◌, ◌*◌, ◌<◌, ◌≤◌, Bool, true, false, cond, leb, List, [], ◌∷◌, ◌++◌, map, length, get_or, take, drop, Some, None, sym, refl, ap, ◌∙◌, subst, append_assoc, append-nil, mul-le-mul_right, add-mul, arith}
use Rattle.harmony.specs.declared.chord.Chord.{Chord}
use Rattle.harmony.specs.declared.refusal.Refusal.TheVariants.{NoRow, TooManyRows}
use Rattle.harmony.specs.declared.voices.Voices.{Voices}
use Rattle.rows.specs.Tables.{all_few, all_some, refused_first, rows_for, rows_of_each, together}
use Rattle.std.proofs.lemmas.List.{length-append, map-append, take-append-drop, take_more}
use Rattle.std.proofs.lemmas.Bool.{and_parts, leb-true}
use Rattle.std.specs.List.{list_all}

-- where none is refused, each has a row and none has too many
accepted : (rss : List (List (List ℕ))) → refused_first true rss ≡ None → (all_some rss ≡ true) × (all_few rss ≡ true)
accepted rss e = parts (all_some rss) (all_few rss) e
  where
    parts : (a b : Bool) → cond a (cond b None (Some TooManyRows)) (Some NoRow) ≡ None → (a ≡ true) × (b ≡ true)
    parts true true e = (refl, refl)
    parts true false e = let z : ◌≡◌ {A = ℕ} 0 1 = cc in absurd (omega arith)
    parts false b e = let z : ◌≡◌ {A = ℕ} 0 1 = cc in absurd (omega arith)

-- each of a list made from another has passed, where all have
pass_at : {X Y : Type 0} (test : Y → Bool) (f : X → Y) (xs : List X) (i : ℕ) (d : X) → i < length xs → list_all test (map f xs) ≡ true → test (f (get_or xs i d)) ≡ true
pass_at test f [] i d h e = absurd (omega arith)
pass_at test f (x ∷ xs) zero d h e = (and_parts (test (f x)) (list_all test (map f xs)) e).0
pass_at test f (x ∷ xs) (suc i) d h e = pass_at test f xs i d (omega arith) (and_parts (test (f x)) (list_all test (map f xs)) e).1

-- what holds of each
pub some_each : (voices : Voices) (chords : List Chord) (i : ℕ) (c : Chord) → i < length chords → c ≡ get_or chords i c → refused_first true (rows_of_each voices chords) ≡ None → 1 ≤ length (rows_for voices c)
some_each voices chords i c h is e =
    subst (λ d. 1 ≤ length (rows_for voices d)) (sym is)
    (leb-true 1 _ (pass_at (λ rs. leb 1 (length rs)) (rows_for voices) chords i c h (accepted (rows_of_each voices chords) e).0))

pub few_each : (voices : Voices) (chords : List Chord) (i : ℕ) (c : Chord) → i < length chords → c ≡ get_or chords i c → refused_first true (rows_of_each voices chords) ≡ None → length (rows_for voices c) ≤ 256
few_each voices chords i c h is e =
    subst (λ d. length (rows_for voices d) ≤ 256) (sym is)
    (leb-true _ 256 (pass_at (λ rs. leb (length rs) 256) (rows_for voices) chords i c h (accepted (rows_of_each voices chords) e).1))

together_append : (xss yss : List (List (List ℕ))) → together (xss ++ yss) ≡ together xss ++ together yss
together_append [] yss = refl
together_append (xs ∷ xss) yss = ap (λ t. xs ++ t) (together_append xss yss) ∙ sym (append_assoc xs (together xss) (together yss))

module _ (voices : Voices) (chords : List Chord) where
  -- the rows of the first i chords
  abbrev pub upto : ℕ → List (List ℕ)
  upto i = together (rows_of_each voices (take i chords))

  pub upto_more : (i : ℕ) (c : Chord) → i < length chords → c ≡ get_or chords i c → upto (i + 1) ≡ upto i ++ rows_for voices c
  upto_more i c h is =
      ap (λ cs. together (rows_of_each voices cs)) (take_more chords i c h ∙ ap (λ d. take i chords ++ d ∷ []) (sym is))
      ∙ ap together (map-append (rows_for voices) (take i chords) (c ∷ []))
      ∙ together_append (rows_of_each voices (take i chords)) (rows_for voices c ∷ []) ∙ ap (λ t. upto i ++ t) (append-nil (rows_for voices c))

  pub added_more : (i : ℕ) (c : Chord) → i < length chords → c ≡ get_or chords i c → (total rows : ℕ) → total ≡ length (upto i) → rows ≡ length (rows_for voices c) → total + rows ≡ length (upto (i + 1))
  added_more i c h is total rows et er = omega (arith, ap length (upto_more i c h is), length-append (upto i) (rows_for voices c))

  pub upto_within : (i : ℕ) → length (upto i) ≤ length (together (rows_of_each voices chords))
  upto_within i =
      let whole = ap length
      (ap (λ cs. together (rows_of_each voices cs)) (sym (take-append-drop i chords))
      ∙ ap together (map-append (rows_for voices) (take i chords) (drop i chords))
      ∙ together_append (rows_of_each voices (take i chords)) (rows_of_each voices (drop i chords))) in
      omega (arith, whole, length-append (upto i) (together (rows_of_each voices (drop i chords))))

-- rows that need more bytes than are free
pub add_past : (total rows width free room all : ℕ) → free < rows * width → total * width + free ≡ room → total + rows ≤ all → room < all * width
add_past total rows width free room all h inv le = omega (arith, add-mul total rows width, mul-le-mul_right width le)
