-- Counts written to the front of a line, one after the other.
use Rattle.std.proofs.Common.{◌≡◌, ℕ, ◌+◌, ◌<◌, ◌≤◌, cond, leb, List, ◌∷◌, [], ◌++◌, get_or, length, take, drop, set, Ok, Err, sym, ap, ◌∙◌, arith}
use Rattle.harmony.specs.declared.refusal.Refusal.TheVariants.{ShortFigureLine}
use Rattle.std.proofs.lemmas.Bool.{cond_both, leb-true}
use Rattle.std.proofs.lemmas.List.{append_assoc, drop_more, length-take-le, set_at, take_more}

-- a line that is not refused has room
pub room_from : (width n left k : ℕ) → cond (leb width n) (Ok left) (Err ShortFigureLine) ≡ Ok k → (width ≤ n) × (k ≡ left)
room_from width n left k = cond_both (leb width n) (Ok left) (Err ShortFigureLine) (λ x. x ≡ Ok k → (width ≤ n) × (k ≡ left)) (λ e h. (leb-true width n e, cc)) (λ e h. absurd (let z : ◌≡◌ {A = ℕ} 0 1 = cc in omega arith))

-- one figure more
pub written_more : (fs : List ℕ) (line was : List ℕ) (i : ℕ) → i < length fs → i < length was → line ≡ take i fs ++ drop i was → set line i (get_or fs i 0) ≡ take (i + 1) fs ++ drop (i + 1) was
written_more fs line was i h k inv =
    ap (λ t. set t i (get_or fs i 0)) (inv ∙ ap (λ t. take i fs ++ t) (drop_more was i 0 k))
    ∙ set_at (take i fs) (get_or was i 0) (drop (i + 1) was) (get_or fs i 0) i (length-take-le i fs (omega arith))
    ∙ sym (ap (λ t. t ++ drop (i + 1) was) (take_more fs i 0 h) ∙ append_assoc (take i fs) (get_or fs i 0 ∷ []) (drop (i + 1) was))
