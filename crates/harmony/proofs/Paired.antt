-- Bytes taken in pairs.
use Rattle.std.proofs.Common.{◌≡◌, ℕ, zero, suc, ◌+◌, ◌*◌, ◌/◌, ◌<◌, List, [], ◌∷◌, map, length, get_or, refl, ap, arith}
use Rattle.harmony.specs.Ranges.{low_high, paired}
use Rattle.harmony.specs.declared.range.Bounds.{Bounds}
use Rattle.std.specs.Simd.{first_chunks}

-- the bounds of the pairs that bytes are cut into
pub paired_are : (bs : List ℕ) → map low_high (first_chunks 2 (length bs / 2) bs) ≡ paired bs
paired_are [] = refl
paired_are (l ∷ []) = refl
paired_are (l ∷ h ∷ bs) =
    let e : suc (suc (length bs)) / 2 ≡ suc (length bs / 2) = omega arith in
    rw e (ap (λ rest. low_high (l ∷ h ∷ []) ∷ rest) (paired_are bs))

-- the i-th pair is made of the bytes at 2i and behind it
pub get_or_paired : (bs : List ℕ) (i : ℕ) (d : Bounds) → i < length bs / 2 → get_or (paired bs) i d ≡ record { low = get_or bs (2 * i) 0; high = get_or bs (2 * i + 1) 0 }
get_or_paired [] i d h = absurd (omega arith)
get_or_paired (l ∷ []) i d h = absurd (omega arith)
get_or_paired (l ∷ h ∷ bs) zero d k = refl
get_or_paired (l ∷ h ∷ bs) (suc i) d k =
    let e : 2 * suc i ≡ suc (suc (2 * i)) = omega arith in
    let f : 2 * suc i + 1 ≡ suc (suc (2 * i + 1)) = omega arith in
    rw (f, e) (get_or_paired bs i d (omega arith))
