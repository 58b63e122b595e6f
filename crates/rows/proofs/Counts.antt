-- What is left of a chord's counts as the voices sing.
use Rattle.std.proofs.Common.{◌≡◌, ℕ, ◌+◌, ◌-◌, ◌<◌, ◌≤◌, true, eqb, List, [], ◌∷◌, length, get_or, set, replicate, sym, refl, ap, ◌∙◌, subst, arith}
use Rattle.harmony.specs.Chords.{tally}
use Rattle.harmony.proofs.Tally.{length_tally, tally_cons}
use Rattle.rows.specs.Enumeration.{all_zero, less}
use Rattle.std.proofs.lemmas.List.{get_or-set_same, length-set, set-get_or, set-set}
use Rattle.std.proofs.lemmas.Bool.{and_parts, eqb-true}

module _ (left : List ℕ) (c : ℕ) (cs : List ℕ) (full : length left ≡ 12) (small : c < 12) where
  -- where a class is sung first, its count is not yet used up, and the rest is sung to what is left
  pub tally_down : tally (c ∷ cs) ≡ left → (1 ≤ get_or left c 0) × (tally cs ≡ less left c)
  tally_down e =
      let was : set (tally cs) c (get_or (tally cs) c 0 + 1) ≡ left = sym (tally_cons c cs small) ∙ e in
      let at_c : get_or left c 0 ≡ get_or (tally cs) c 0 + 1 =
      sym (ap (λ l. get_or l c 0) was) ∙ get_or-set_same (tally cs) c (get_or (tally cs) c 0 + 1) 0 (omega (arith, length_tally cs)) in
      let one : get_or left c 0 - 1 ≡ get_or (tally cs) c 0 = omega arith in (
        omega arith,
        sym
            (ap (set left c) one ∙ ap (λ l. set l c (get_or (tally cs) c 0)) (sym was)
            ∙ set-set (tally cs) c (get_or (tally cs) c 0 + 1) (get_or (tally cs) c 0) ∙ set-get_or (tally cs) c 0),
      )

  pub tally_up : 1 ≤ get_or left c 0 → tally cs ≡ less left c → tally (c ∷ cs) ≡ left
  tally_up some e =
      let at_c : get_or (tally cs) c 0 ≡ get_or left c 0 - 1 =
      ap (λ l. get_or l c 0) e ∙ get_or-set_same left c (get_or left c 0 - 1) 0 (omega arith) in
      let one : get_or (tally cs) c 0 + 1 ≡ get_or left c 0 = omega arith in
      tally_cons c cs small ∙ ap (set (tally cs) c) one ∙ ap (λ l. set l c (get_or left c 0)) e
      ∙ set-set left c (get_or left c 0 - 1) (get_or left c 0) ∙ set-get_or left c 0

  pub length_less : length (less left c) ≡ 12
  length_less = length-set left c (get_or left c 0 - 1) ∙ full

zeros : (ks : List ℕ) → all_zero ks ≡ true → ks ≡ replicate (length ks) 0
zeros [] z = refl
zeros (k ∷ ks) z =
    let parts = and_parts (eqb k 0) (all_zero ks) z in
    λ i. eqb-true k 0 parts.0 i ∷ zeros ks parts.1 i

-- nothing is left exactly where nothing is to be sung
pub zero_tally : (left : List ℕ) → length left ≡ 12 → all_zero left ≡ true → tally [] ≡ left
zero_tally left full z = sym (zeros left z ∙ ap (λ n. replicate n 0) full)

pub tally_zero : (left : List ℕ) → tally [] ≡ left → all_zero left ≡ true
tally_zero left e = subst (λ l. all_zero l ≡ true) e refl
