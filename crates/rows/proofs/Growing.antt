-- The rows that begin with the pitches chosen so far.
use Rattle.std.proofs.Common.{◌≡◌, ℕ, ◌≤◌, Bool, true, false, cond, List, [], ◌∷◌, ◌++◌, map, length, take, drop, Ok, sym, refl, ap, ◌∙◌, subst, inl, append_assoc, append-nil, arith}
use Rattle.harmony.specs.Chords.{Harmony, harmony}
use Rattle.harmony.specs.Pitches.{class}
use Rattle.harmony.specs.Ranges.{bounds}
use Rattle.harmony.specs.declared.chord.Chord.{Chord}
use Rattle.harmony.specs.declared.pitch.Pitch.{Pitch}
use Rattle.harmony.specs.declared.range.Range.{Range}
use Rattle.harmony.specs.declared.voices.Voices.{Voices}
use Rattle.harmony.specs.declared.range.Bounds.{Bounds}
use Rattle.rows.specs.Arrangements.{IsRow, semitones_of}
use Rattle.rows.specs.Enumeration.{Footing, In, above, all_zero, bass, less, may, pitches, rows, rows_on}
use Rattle.rows.specs.Growth.{Completed, footing_of, grown}
use Rattle.rows.specs.Searches.{rows_beyond}
use Rattle.rows.specs.Tables.{rows_for}
use Rattle.rows.specs.declared.climb.Climb.{Climb}
use Rattle.rows.proofs.Meaning.{meant}
use Rattle.std.proofs.lemmas.List.{length-take-le, map-append, map-id}
use Rattle.std.proofs.lemmas.Bool.{cond-true, cond-false}
use Rattle.std.specs.List.{flat_map}

-- at the top: one row where nothing is left to sing, and else none
module _ (chosen : List ℕ) (footing : Footing) (left : List ℕ) where
  grown_none : all_zero left ≡ false → grown chosen [] footing left ≡ []
  unfolding grown
  grown_none e = cond-false (all_zero left) (chosen ∷ []) [] e

  pub grown_one : all_zero left ≡ true → grown chosen [] footing left ≡ chosen ∷ []
  unfolding grown
  grown_one e = cond-true (all_zero left) (chosen ∷ []) [] e

  module _ (n k : ℕ) (table : List ℕ) where
    pub completed_none : all_zero left ≡ false → k ≤ 256 → Completed n k (grown chosen [] footing left) table table (Ok k)
    completed_none e h = rw (grown_none e) (omega arith, h, refl)

  -- what has come to the top of a search for rows is a row
  pub row_at_top : (vs : List Bounds) (c : Harmony) → length c.counts ≡ 12 → all_zero left ≡ true → ((ps : List ℕ) → In ps (grown chosen [] footing left) → In ps (rows vs c)) → IsRow vs c chosen
  row_at_top vs c full e sought = (meant vs c full).rows_only chosen (sought chosen (subst (In chosen) (sym (grown_one e)) (inl refl)))

map_joined : {X Y Z : Type 0} (h : Y → Z) (f : X → List Y) (xs : List X) → map h (flat_map f xs) ≡ flat_map (λ x. map h (f x)) xs
map_joined h f [] = refl
map_joined h f (x ∷ xs) = map-append h (f x) (flat_map f xs) ∙ ap (λ rest. map h (f x) ++ rest) (map_joined h f xs)

same_joined : {X Y : Type 0} (f g : X → List Y) → ((x : X) → f x ≡ g x) → (xs : List X) → flat_map f xs ≡ flat_map g xs
same_joined f g e [] = refl
same_joined f g e (x ∷ xs) = λ i. e x i ++ same_joined f g e xs i

map_cond : {X Y : Type 0} (h : X → Y) (b : Bool) (xs : List X) → map h (cond b xs []) ≡ cond b (map h xs) []
map_cond h true xs = refl
map_cond h false xs = refl

pushed : (chosen : List ℕ) (p : ℕ) (rs : List (List ℕ)) → map (λ ps. (chosen ++ p ∷ []) ++ ps) rs ≡ map (λ ps. chosen ++ ps) (map (λ ps. p ∷ ps) rs)
pushed chosen p [] = refl
pushed chosen p (r ∷ rs) = λ i. append_assoc chosen (p ∷ []) r i ∷ pushed chosen p rs i

-- what grows from pitches are those pitches and then what the voices above may add
grown_all : (chosen : List ℕ) (vs : List Bounds) (footing : Footing) (left : List ℕ) → grown chosen vs footing left ≡ map (λ ps. chosen ++ ps) (rows_on vs footing left)
unfolding grown rows_on
grown_all chosen [] footing left =
    ap (λ one. cond (all_zero left) (one ∷ []) []) (sym (append-nil chosen)) ∙ sym (map_cond (λ ps. chosen ++ ps) (all_zero left) ([] ∷ []))
grown_all chosen (v ∷ vs) footing left =
    same_joined _ _
    (λ p.
    ap (λ rs. cond (may footing left p) rs [])
    (grown_all (chosen ++ p ∷ []) vs (above p) (less left (class p)) ∙ pushed chosen p (rows_on vs (above p) (less left (class p))))
    ∙ sym (map_cond (λ ps. chosen ++ ps) (may footing left p) (map (λ ps. p ∷ ps) (rows_on vs (above p) (less left (class p))))))
    (pitches v)
    ∙ sym (map_joined (λ ps. chosen ++ ps) (λ p. cond (may footing left p) (map (λ ps. p ∷ ps) (rows_on vs (above p) (less left (class p)))) []) (pitches v))

grown_rows : (vs : List Bounds) (footing : Footing) (left : List ℕ) → grown [] vs footing left ≡ rows_on vs footing left
grown_rows vs footing left = grown_all [] vs footing left ∙ map-id (rows_on vs footing left)

-- a search that begins finds all rows
pub grown_start : (vs : List Bounds) (c : Harmony) (i : ℕ) (ps : List Pitch) (footing : Footing) (left : List ℕ) → i ≡ 0 → footing ≡ bass c.bass → left ≡ c.counts → grown (semitones_of i ps) (drop i vs) footing left ≡ rows vs c
grown_start vs c i ps footing left ei ef el =
    ap (λ m. grown (semitones_of m ps) (drop m vs) footing left) ei ∙ ap (λ f. grown [] vs f left) ef ∙ ap (grown [] vs (bass c.bass)) el
    ∙ grown_rows vs (bass c.bass) c.counts

-- what a search through the ranges of these voices finds is found for the voices
pub found_for : (P : ℕ → List (List ℕ) → Type 0) (voices : Voices) (chord : Chord) (ranges : List Range) (start : Climb) → ranges ≡ take voices.count.number voices.ranges → (start.voices ≡ 0) × (footing_of start.footing ≡ bass chord.bass.index) × (start.left ≡ chord.counts) → P (length ranges) (rows_beyond (map bounds ranges) start) → P voices.count.number (rows_for voices chord)
found_for P voices chord ranges start is told h =
    let long = ap length is ∙ length-take-le voices.count.number voices.ranges (omega (arith, voices.full, voices.count.most)) in
    let whole = grown_start (map bounds ranges) (harmony chord) start.voices start.pitches (footing_of start.footing) start.left told.0 told.1 told.2 in
    subst (λ n. P n (rows_for voices chord)) long (subst (λ rs. P (length ranges) (rows (map bounds rs) (harmony chord))) is (subst (P (length ranges)) whole h))
