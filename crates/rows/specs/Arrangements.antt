-- Arrangements and rows of a chord.
--
-- inside         each voice has one pitch, in its own range
-- Arranged       an arrangement of a chord: voices may cross in it
-- ascends        no pitch is lower than that of the voice below
-- IsRow          a row: an arrangement that never falls from one voice to the next
-- Earlier        of two rows, the one that is lower at the first voice where they differ
-- semitones_of   the first n pitches of the code, as numbers
use Rattle.std.specs.Prelude.{◌≡◌, ℕ, ◌<◌, ◌≤◌, Bool, true, false, ◌&&◌, ◌⊎◌, List, [], ◌∷◌, map, take, nat_le}
use Rattle.harmony.specs.Chords.{Harmony, tally}
use Rattle.harmony.specs.Neighbours.{neighbours}
use Rattle.harmony.specs.Pitches.{class}
use Rattle.harmony.specs.declared.pitch.Pitch.{Pitch}
use Rattle.harmony.specs.declared.range.Bounds.{Bounds}
use Rattle.std.specs.List.{AllByRecursion}

abbrev pub within : Bounds → ℕ → Bool
within v p = nat_le v.low p && nat_le p v.high

abbrev pub inside : List Bounds → List ℕ → Bool
inside [] [] = true
inside [] (p ∷ ps) = false
inside (v ∷ vs) [] = false
inside (v ∷ vs) (p ∷ ps) = within v p && inside vs ps

-- the classes of the pitches have the chord's counts, and the lowest of the pitches has the bass class
pub record Arranged (vs : List Bounds) (c : Harmony) (ps : List ℕ) : Type 0 where
  pub ranges : inside vs ps ≡ true
  pub classes : tally (map class ps) ≡ c.counts
  pub lowest : AllByRecursion (λ p. AllByRecursion (λ q. p ≤ q) ps → class p ≡ c.bass) ps

-- no pitch is lower than that of the voice below
abbrev pub ascends : List ℕ → Bool
ascends ps = neighbours nat_le ps

pub record IsRow (vs : List Bounds) (c : Harmony) (ps : List ℕ) : Type 0 where
  pub arranged : Arranged vs c ps
  pub ascending : ascends ps ≡ true

abbrev pub Earlier : List ℕ → List ℕ → Type 0
Earlier [] qs = ⊥
Earlier (p ∷ ps) [] = ⊥
Earlier (p ∷ ps) (q ∷ qs) = (p < q) ⊎ ((p ≡ q) × Earlier ps qs)

-- the numbers of the first n pitches
abbrev pub semitones_of : ℕ → List Pitch → List ℕ
semitones_of n ps = map (λ p. p.semitones) (take n ps)
