-- The text around the first slash.
use Rattle.std.proofs.Common.{◌≡◌, ℕ, suc, ◌+◌, ◌==◌, cond, not, nat_lt, Bool, true, false, List, [], ◌∷◌, length, take, drop, Some, None, refl, arith}
use Rattle.harmony.specs.Symbols.{before_slash, behind_slash}
use Rattle.std.specs.List.{position_or_len}
use Rattle.std.proofs.lemmas.Grind.{common_steps}

abbrev slash : ℕ → Bool
slash b = b == 47

pub before_is : (text : List ℕ) → take (position_or_len slash text) text ≡ before_slash text
before_is [] = refl
before_is (b ∷ bs) =
    elim (b == 47) as (λ t. take (cond (not t) (1 + position_or_len slash bs) 0) (b ∷ bs) ≡ cond t [] (b ∷ before_slash bs)) [
      | true ↦ refl
      | false ↦ grind (arith, common_steps, before_is bs)
    ]

pub behind_is : (text : List ℕ) → cond (nat_lt (position_or_len slash text) (length text)) (Some (drop (position_or_len slash text + 1) text)) None ≡ behind_slash text
behind_is [] = refl
behind_is (b ∷ bs) =
    elim (b == 47) as (λ t. cond (nat_lt (cond (not t) (1 + position_or_len slash bs) 0) (suc (length bs))) (Some (drop (cond (not t) (1 + position_or_len slash bs) 0 + 1) (b ∷ bs))) None ≡ cond t (Some bs) (behind_slash bs)) [
      | true ↦ grind (arith, common_steps)
      | false ↦ grind (arith, common_steps, behind_is bs)
    ]
