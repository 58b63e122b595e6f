-- A word that a text begins with.
use Rattle.std.proofs.Common.{◌≡◌, ◌≢◌, ℕ, eqb, List, [], ◌∷◌, ◌++◌, Bor, Some, None, Option, MatchOption, refl, ap, ◌∙◌, inl, inr}
use Rattle.std.proofs.lemmas.Bool.{cases_Bool, eq-eqb, eqb-true}
use Rattle.text.specs.RangeLines.{behind}

pub behind_word : (ws bs : List ℕ) → behind ws (ws ++ bs) ≡ Some bs
behind_word [] bs = refl
behind_word (w ∷ ws) bs = rw (eq-eqb w w refl) (behind_word ws bs)

pub word_before : (ws bs cs : List ℕ) → behind ws bs ≡ Some cs → bs ≡ ws ++ cs
word_before [] bs cs e = cc
word_before (w ∷ ws) [] cs e = cc
word_before (w ∷ ws) (b ∷ bs) cs e =
    elim (cases_Bool (eqb b w)) [
      | inl f ↦
          let rest : bs ≡ ws ++ cs = word_before ws bs cs (rw f at e) in
          let first : b ≡ w = eqb-true b w f in
          cc
      | inr f ↦ cc (rw f at e)
    ]

-- what `strip_prefix` gives are the bytes behind the word
pub stripped : (ws bs : List ℕ) (r : Option (Bor (List ℕ))) → MatchOption r ((rest : List ℕ) → bs ≢ ws ++ rest) (λ x. bs ≡ ws ++ x.now) → MatchOption r (behind ws bs ≡ None) (λ x. behind ws bs ≡ Some x.now)
stripped ws bs None h = none (behind ws bs) refl
  where
    none : (o : Option (List ℕ)) → behind ws bs ≡ o → behind ws bs ≡ None
    none None e = e
    none (Some rest) e = absurd (h rest (word_before ws bs rest e))
stripped ws bs (Some x) h = ap (behind ws) h ∙ behind_word ws x.now
