-- The rows of a chord, one after the other.
--
-- Footing    what a voice stands on: the lowest voice on the bass class, any other on the pitch of the voice below
-- pitches    the pitches of a range, from the lowest up
-- less       the counts when one voice more sings a class
-- rows_on    the pitches that the voices from here up can add, the counts that are left being these
-- rows       all rows of a chord, each once, the earlier ones first
-- Meant      what `rows` means: it has exactly the rows, in strict order
use Rattle.std.specs.Prelude.{◌≡◌, ℕ, suc, ◌-◌, Bool, cond, ◌&&◌, ◌⊎◌, List, [], ◌∷◌, map, ◌==◌, nat_eq, nat_le, slice_index, slice_set}
use Rattle.harmony.specs.Chords.{Harmony}
use Rattle.harmony.specs.Pitches.{class}
use Rattle.harmony.specs.declared.range.Bounds.{Bounds}
use Rattle.rows.specs.Arrangements.{Earlier, IsRow}
use Rattle.std.specs.List.{range_with_len, flat_map, list_all, AllByRecursion}

pub data Footing : Type 0 where
  bass : ℕ → Footing
  above : ℕ → Footing

abbrev pub stands : Footing → ℕ → Bool
stands (bass c) p = class p == c
stands (above q) p = nat_le q p

abbrev pub pitches : Bounds → List ℕ
pitches v = range_with_len v.low (suc v.high - v.low)

abbrev pub less : List ℕ → ℕ → List ℕ
less left c = slice_set left c (slice_index left c - 1)

abbrev pub all_zero : List ℕ → Bool
all_zero ks = list_all (λ k. nat_eq k 0) ks

-- a voice may take a pitch that its footing bears and whose class is still to be sung
abbrev pub may : Footing → List ℕ → ℕ → Bool
may footing left p = stands footing p && nat_le 1 (slice_index left (class p))

unfoldable pub rows_on : List Bounds → Footing → List ℕ → List (List ℕ)
rows_on [] footing left = cond (all_zero left) ([] ∷ []) []
rows_on (v ∷ vs) footing left =
    flat_map (λ p. cond (may footing left p) (map (λ ps. p ∷ ps) (rows_on vs (above p) (less left (class p)))) []) (pitches v)

abbrev pub rows : List Bounds → Harmony → List (List ℕ)
rows vs c = rows_on vs (bass c.bass) c.counts

abbrev pub In : {X : Type 0} → X → List X → Type 0
In x [] = ⊥
In x (y ∷ ys) = (y ≡ x) ⊎ In x ys

-- each comes before all that follow
abbrev pub InOrder : List (List ℕ) → Type 0
InOrder [] = Unit {0}
InOrder (r ∷ rs) = AllByRecursion (Earlier r) rs × InOrder rs

pub record Meant (vs : List Bounds) (c : Harmony) : Type 0 where
  pub rows_only : (ps : List ℕ) → In ps (rows vs c) → IsRow vs c ps
  pub all_rows : (ps : List ℕ) → IsRow vs c ps → In ps (rows vs c)
  pub ordered : InOrder (rows vs c)
