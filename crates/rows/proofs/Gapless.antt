-- Rows of one chord written behind those of the chords before, without a gap.
use Rattle.std.proofs.Common.{◌≡◌, ℕ, ◌+◌, ◌-◌, ◌*◌, ◌<◌, ◌≤◌, true, leb, List, [], ◌∷◌, ◌++◌, length, get_or, take, drop, None, Ok, Err, Result, sym, refl, ap, ◌∙◌, subst, append_assoc, append-nil, mul-le-mul_right, suc-mul, add-mul, zero-mul, arith}
use borrow.Rule.Slice.PartMut.{put_mid}
use Rattle.harmony.specs.Chords.{harmony}
use Rattle.harmony.specs.VoiceRanges.{ranges_of}
use Rattle.harmony.specs.Ranges.{bounds}
use Rattle.harmony.specs.declared.chord.Chord.{Chord}
use Rattle.harmony.specs.declared.refusal.Refusal.{Refusal}
use Rattle.harmony.specs.declared.refusal.Refusal.TheVariants.{ShortRowTable}
use Rattle.harmony.specs.declared.voices.Voices.{Voices}
use Rattle.rows.specs.Tables.{counted, flat, refused_first, rows_for, rows_of_each, together, with_room, written}
use Rattle.rows.proofs.Adding.{few_each, some_each, upto, upto_more, upto_within}
use Rattle.rows.proofs.Filling.{rows_length}
use Rattle.std.proofs.ByRecursion.{All-append}
use Rattle.std.proofs.lemmas.List.{drop-append-le, drop_at, drop-drop, length-append, length-drop, length-map, length-take-le, take-append-drop, take_at}
use Rattle.std.proofs.lemmas.Bool.{cond-true, le-leb}
use Rattle.std.specs.List.{AllByRecursion}

-- rows of one width, laid flat
flat_length : (n : ℕ) (rs : List (List ℕ)) → AllByRecursion (λ r. length r ≡ n) rs → length (flat rs) ≡ length rs * n
flat_length n [] h = sym (zero-mul n)
flat_length n (r ∷ rs) h = omega (arith, length-append r (flat rs), flat_length n rs h.1, h.0, suc-mul (length rs) n)

flat_append : (rs ss : List (List ℕ)) → flat (rs ++ ss) ≡ flat rs ++ flat ss
flat_append [] ss = refl
flat_append (r ∷ rs) ss = ap (λ t. r ++ t) (flat_append rs ss) ∙ sym (append_assoc r (flat rs) (flat ss))

pub wide : (voices : Voices) (c : Chord) → AllByRecursion (λ r. length r ≡ voices.count.number) (rows_for voices c)
wide voices c =
    let n = voices.count.number in
    let long : length (ranges_of voices) ≡ n = length-map (take n voices.ranges) bounds ∙ length-take-le n voices.ranges (omega (arith, voices.full, voices.count.most)) in
    subst (λ m. AllByRecursion (λ r. length r ≡ m) (rows_for voices c)) long (rows_length (ranges_of voices) (harmony c) c.full)

all_wide : (voices : Voices) (chords : List Chord) → AllByRecursion (λ r. length r ≡ voices.count.number) (together (rows_of_each voices chords))
all_wide voices [] = tt
all_wide voices (c ∷ cs) = All-append (λ r. length r ≡ voices.count.number) (rows_for voices c) (together (rows_of_each voices cs)) (wide voices c) (all_wide voices cs)

-- where a chord is not refused and there is room, its rows are written
counted_one : (rs : List (List ℕ)) → 1 ≤ length rs → length rs ≤ 256 → counted (rs ∷ []) ≡ Ok (length rs)
counted_one rs some few = rw (le-leb 1 (length rs) some, le-leb (length rs) 256 few) (ap Ok (ap length (append-nil rs)))

accepted_one : (n : ℕ) (rs : List (List ℕ)) (part after : List ℕ) (r : Result ℕ Refusal) → 1 ≤ length rs → length rs ≤ 256 → length rs * n ≤ length part → r ≡ with_room n (length part) (counted (rs ∷ [])) → after ≡ written n rs part r → (r ≡ Ok (length rs)) × (after ≡ flat rs ++ drop (length rs * n) part)
accepted_one n rs part after r some few room answer table =
    let is : r ≡ Ok (length rs) =
    answer ∙ ap (with_room n (length part)) (counted_one rs some few)
    ∙ cond-true (leb (length rs * n) (length part)) (Ok (length rs)) (Err ShortRowTable) (le-leb (length rs * n) (length part) room) in
    (is, table ∙ ap (written n rs part) is)

-- a part that is written at its front and put back
put_front : (front rest now after : List ℕ) (from k m : ℕ) (bytes : List ℕ) → now ≡ front ++ rest → length front ≡ from → k ≤ m → m ≤ length rest → after ≡ bytes ++ drop k (take m (drop from now)) → put_mid from m now after ≡ (front ++ bytes) ++ drop k rest
put_front front rest now after from k m bytes is long small room ea =
    let tail : drop from now ≡ rest = ap (drop from) is ∙ drop_at front rest from long in
    let head : take from now ≡ front = ap (take from) is ∙ take_at front rest from long in
    let left : drop k (take m rest) ++ drop m rest ≡ drop k rest =
    sym (drop-append-le k (take m rest) (drop m rest) (omega (arith, length-take-le m rest room))) ∙ ap (drop k) (take-append-drop m rest) in
    ap (λ t. t ++ (after ++ drop m (drop from now))) head
    ∙ ap (λ t. front ++ (t ++ drop m (drop from now))) (ea ∙ ap (λ t. bytes ++ drop k (take m t)) tail)
    ∙ ap (λ t. front ++ ((bytes ++ drop k (take m rest)) ++ drop m t)) tail
    ∙ ap (λ t. front ++ t) (append_assoc bytes (drop k (take m rest)) (drop m rest) ∙ ap (λ t. bytes ++ t) left)
    ∙ sym (append_assoc front bytes (drop k rest))

-- one chord more in a table that is filled so far
pub record Filled (voices : Voices) (chords : List Chord) (i from end : ℕ) (c : Chord) (start now after : List ℕ) (r : Result ℕ Refusal) : Type 0 where
  pub is : r ≡ Ok (length (rows_for voices c))
  pub next : from + length (rows_for voices c) * voices.count.number ≡ length (upto voices chords (i + 1)) * voices.count.number
  pub table : put_mid from (end - from) now after ≡ flat (upto voices chords (i + 1)) ++ drop (from + length (rows_for voices c) * voices.count.number) start
  pub within : from + length (rows_for voices c) * voices.count.number ≤ end

module _ (voices : Voices) (chords : List Chord) (i from end : ℕ) (c : Chord) (start now after : List ℕ) (r : Result ℕ Refusal) where
  pub filled_more : i < length chords → c ≡ get_or chords i c → refused_first true (rows_of_each voices chords) ≡ None → end ≡ length (together (rows_of_each voices chords)) * voices.count.number → end ≤ length start → from ≡ length (upto voices chords i) * voices.count.number → now ≡ flat (upto voices chords i) ++ drop from start → r ≡ with_room voices.count.number (length (take (end - from) (drop from now))) (counted (rows_for voices c ∷ [])) → after ≡ written voices.count.number (rows_for voices c) (take (end - from) (drop from now)) r → Filled voices chords i from end c start now after r
  filled_more h is none whole room at so_far answer table =
      let n = voices.count.number in
      let rs = rows_for voices c in
      let k = length rs * n in
      let front = flat (upto voices chords i) in
      let more = upto_more voices chords i c h is in
      let next : from + k ≡ length (upto voices chords (i + 1)) * n =
      omega (arith, ap (λ l. length l * n) more, ap (λ m. m * n) (length-append (upto voices chords i) rs), add-mul (length (upto voices chords i)) (length rs) n) in
      let fits : from + k ≤ end = omega (arith, next, mul-le-mul_right n (upto_within voices chords (i + 1))) in
      let long : length front ≡ from = flat_length n (upto voices chords i) (all_wide voices (take i chords)) ∙ sym at in
      let free : length (drop from start) ≡ length start - from = length-drop from start in
      let tail : drop from now ≡ drop from start = ap (drop from) so_far ∙ drop_at front (drop from start) from long in
      let part : length (take (end - from) (drop from now)) ≡ end - from = length-take-le (end - from) (drop from now) (omega (arith, ap length tail)) in
      let some = some_each voices chords i c h is none in
      let one = accepted_one n rs (take (end - from) (drop from now)) after r some (few_each voices chords i c h is none) (omega (arith, part)) answer table in
      record {
        is = one.0;
        next = next;
        table =
            put_front front (drop from start) now after from k (end - from) (flat rs) so_far long (omega arith) (omega arith) one.1
            ∙ ap (λ t. t ++ drop k (drop from start)) (sym (ap flat more ∙ flat_append (upto voices chords i) rs))
            ∙ ap (λ t. flat (upto voices chords (i + 1)) ++ t) (drop-drop k from start);
        within = fits;
      }
