-- The tokens of a text, taken from its front one by one.
use Rattle.std.proofs.Common.{◌≡◌, ℕ, suc, ◌+◌, ◌<◌, ◌≤◌, true, false, not, eqb, List, [], ◌∷◌, length, get_or, take, drop, sym, refl, ap, ◌∙◌, inl, inr, add-zero, one-add, length-drop, get_or-drop, arith}
use Rattle.std.proofs.lemmas.List.{at_drop_all, drop-drop}
use Rattle.std.proofs.lemmas.List.Sums.{prefix_len_stops}
use Rattle.std.proofs.lemmas.Bool.{and_cases, and_from, and_parts, both_ways, cases_Bool, eq-eqb, ne_eqb, not-false, not_from_false, not-true}
use Rattle.std.specs.List.{prefix_len}
use Rattle.text.specs.Tokens.{Piece, bar, symbol, blank, in_symbol, joined_to, left_from, tokens}

-- a step over a blank
blank_more : (at b : ℕ) (bs : List ℕ) → blank b ≡ true → tokens (at + 1) bs ≡ tokens (at + 1 + prefix_len blank bs) (drop (prefix_len blank bs) bs) → tokens at (b ∷ bs) ≡ tokens (at + prefix_len blank (b ∷ bs)) (drop (prefix_len blank (b ∷ bs)) (b ∷ bs))
blank_more at b bs e ih =
    let n = prefix_len blank bs in
    let p : at + suc n ≡ at + 1 + n = omega arith in
    rw (e, one-add n, p) ih

-- blanks at the front give no token
tokens_blanks : (at : ℕ) (bs : List ℕ) → tokens at bs ≡ tokens (at + prefix_len blank bs) (drop (prefix_len blank bs) bs)
tokens_blanks at [] = refl
tokens_blanks at (b ∷ bs) =
    elim (cases_Bool (blank b)) [
      | inl e ↦ blank_more at b bs e (tokens_blanks (at + 1) bs)
      | inr e ↦ rw (e, add-zero, e)
    ]

-- a symbol's byte begins a symbol at its own place, whatever follows
joined_place : (a b at k : ℕ) (ps : List Piece) → at + 1 < k → joined_to a at (joined_to b k ps) ≡ symbol (a ∷ []) at ∷ joined_to b k ps
joined_place a b at k [] h = rw (ne_eqb k (at + 1) (λ e. omega arith))
joined_place a b at k (bar p ∷ ps) h = rw (ne_eqb k (at + 1) (λ e. omega arith))
joined_place a b at k (symbol bs p ∷ ps) h =
    elim (cases_Bool (eqb p (k + 1))) [
      | inl e ↦ rw (e, ne_eqb k (at + 1) (λ e. omega arith))
      | inr e ↦ rw (e, ne_eqb k (at + 1) (λ e. omega arith))
    ]

-- a byte does not join tokens that begin further on
apart : (a at k : ℕ) (bs : List ℕ) → at + 1 < k → joined_to a at (tokens k bs) ≡ symbol (a ∷ []) at ∷ tokens k bs
apart a at k [] h = refl
apart a at k (b ∷ bs) h =
    elim (cases_Bool (blank b)) [
      | inl e ↦ rw e (apart a at (k + 1) bs (omega arith))
      | inr e ↦ elim (cases_Bool (eqb b 124)) [
        | inl f ↦ rw (e, f)
        | inr f ↦ rw (e, f) (joined_place a b at k (tokens (k + 1) bs) h)
      ]
    ]

module _ (at b : ℕ) (bs : List ℕ) (e : in_symbol b ≡ true) where
  no_blank : blank b ≡ false
  no_blank = not-true (blank b) (and_parts (not (blank b)) (not (eqb b 124)) e).0

  no_bar : eqb b 124 ≡ false
  no_bar = not-true (eqb b 124) (and_parts (not (blank b)) (not (eqb b 124)) e).1

  symbol_byte : tokens at (b ∷ bs) ≡ joined_to b at (tokens (at + 1) bs)
  symbol_byte = rw (no_blank, no_bar)

-- a byte joins no symbol where the byte behind it is of none
alone : (a at b : ℕ) (bs : List ℕ) → in_symbol b ≡ false → joined_to a at (tokens (at + 1) (b ∷ bs)) ≡ symbol (a ∷ []) at ∷ tokens (at + 1) (b ∷ bs)
alone a at b bs e =
    elim (cases_Bool (blank b)) [
      | inl f ↦ rw f (apart a at (at + 1 + 1) bs (omega arith))
      | inr f ↦ elim (and_cases (not (blank b)) (not (eqb b 124)) e) [
        | inl g ↦ absurd (both_ways (blank b) f (not-false (blank b) g))
        | inr g ↦ rw (f, not-false (eqb b 124) g)
      ]
    ]

-- the rest of a symbol's bytes join its first
joined_run : (at b : ℕ) (bs : List ℕ) → joined_to b at (tokens (at + 1) bs) ≡ symbol (b ∷ take (prefix_len in_symbol bs) bs) at ∷ tokens (at + 1 + prefix_len in_symbol bs) (drop (prefix_len in_symbol bs) bs)
joined_run at b [] = refl
joined_run at b (c ∷ cs) =
    elim (cases_Bool (in_symbol c)) [
      | inl e ↦ joins e (joined_run (at + 1) c cs)
      | inr e ↦ rw (e, add-zero) (alone b at c cs e)
    ]
  where
    joins : in_symbol c ≡ true → joined_to c (at + 1) (tokens (at + 1 + 1) cs) ≡ symbol (c ∷ take (prefix_len in_symbol cs) cs) (at + 1) ∷ tokens (at + 1 + 1 + prefix_len in_symbol cs) (drop (prefix_len in_symbol cs) cs) → joined_to b at (tokens (at + 1) (c ∷ cs)) ≡ symbol (b ∷ take (prefix_len in_symbol (c ∷ cs)) (c ∷ cs)) at ∷ tokens (at + 1 + prefix_len in_symbol (c ∷ cs)) (drop (prefix_len in_symbol (c ∷ cs)) (c ∷ cs))
    joins e ih =
        let n = prefix_len in_symbol cs in
        let p : at + 1 + suc n ≡ at + 1 + 1 + n = omega arith in
        rw (symbol_byte (at + 1) c cs e, ih, eq-eqb (at + 1) (at + 1) refl, e, one-add n, p)

tokens_none : (text : List ℕ) (at : ℕ) → length text ≤ at → left_from text at ≡ []
tokens_none text at h = at_drop_all (tokens at) text at h

-- a text from an offset on: all of it, and what is left behind the blanks at its front
module _ (text whole rest : List ℕ) (pos n : ℕ) (blanks : n ≡ prefix_len blank whole) (from_pos : whole ≡ drop pos text) (from_at : rest ≡ drop (pos + n) text) where
  past : left_from text pos ≡ tokens (pos + n) rest
  past =
      ap (tokens pos) (sym from_pos) ∙ tokens_blanks pos whole ∙ ap (λ k. tokens (pos + k) (drop k whole)) (sym blanks)
      ∙ ap (tokens (pos + n)) (ap (drop n) from_pos ∙ drop-drop n pos text ∙ sym from_at)

  pub next_none : length rest < 1 → (left_from text pos ≡ []) × (left_from text (pos + n) ≡ [])
  next_none h =
      let none = tokens_none text (pos + n) (omega (arith, length-drop (pos + n) text, ap length from_at)) in
      (past ∙ ap (tokens (pos + n)) from_at ∙ none, none)

  -- a byte stands behind the blanks
  module _ (b : ℕ) (bs : List ℕ) (here : rest ≡ b ∷ bs) where
    behind : bs ≡ drop (pos + n + 1) text
    behind = ap (drop 1) (sym here ∙ from_at) ∙ drop-drop 1 (pos + n) text

    full : blank b ≡ false
    full =
        let there : drop n whole ≡ b ∷ bs = ap (drop n) from_pos ∙ drop-drop n pos text ∙ sym from_at ∙ here in
        let more : prefix_len blank whole < length whole = omega (arith, length-drop n whole, ap length there) in
        let first : get_or whole n 0 ≡ b = rw (← add-zero n, ← get_or-drop) (ap (λ cs. get_or cs 0 0) there) in
        rw (← blanks, first) at (prefix_len_stops blank whole 0 more)

  pub next_bar : (r : List ℕ) → rest ≡ r → 1 ≤ length r → get_or r 0 0 ≡ 124 → left_from text pos ≡ bar (pos + n) ∷ left_from text (pos + n + 1)
  next_bar [] here some is = absurd (omega arith)
  next_bar (b ∷ bs) here some is = past ∙ rw (here, is) (ap (λ cs. bar (pos + n) ∷ tokens (pos + n + 1) cs) (behind b bs here))

  pub next_symbol : (r : List ℕ) (k : ℕ) → rest ≡ r → 1 ≤ length r → (get_or r 0 0 ≡ 124 → ⊥) → k ≡ prefix_len in_symbol r → left_from text pos ≡ symbol (take k r) (pos + n) ∷ left_from text (pos + n + k)
  next_symbol [] k here some other run = absurd (omega arith)
  next_symbol (b ∷ bs) k here some other run =
      let at = pos + n in
      let e : in_symbol b ≡ true = and_from (not (blank b)) (not (eqb b 124)) (not_from_false (blank b) (full b bs here)) (not_from_false (eqb b 124) (ne_eqb b 124 other)) in
      let m = prefix_len in_symbol bs in
      let long : k ≡ suc m = run ∙ rw (e, one-add m) in
      let p : at + 1 + m ≡ at + suc m = omega arith in
      past ∙ rw (here, long, symbol_byte at b bs e, joined_run at b bs, ← p, ← drop-drop m (at + 1) text, ← behind b bs here)

-- where a token is taken, fewer are left
pub fewer : (ps qs : List Piece) (p : Piece) → ps ≡ p ∷ qs → length qs < length ps
fewer ps qs p e = omega (arith, ap length e)
