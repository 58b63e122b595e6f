-- Chords: how many voices sing each class, and which class is the lowest.
--
-- Harmony   a chord as plain data: a count for each of the twelve classes, and the bass class
-- tally     how often each of the twelve classes comes in a list of classes
-- harmony   what a chord of the code stands for; two chords are the same when this agrees
use Rattle.std.specs.Prelude.{ℕ, List, [], ◌∷◌, map, count_by, nat_eq}
use Rattle.harmony.specs.declared.chord.Chord.{Chord}

pub record Harmony : Type 0 where
  pub counts : List ℕ
  pub bass : ℕ

abbrev pub twelve : List ℕ
twelve = 0 ∷ 1 ∷ 2 ∷ 3 ∷ 4 ∷ 5 ∷ 6 ∷ 7 ∷ 8 ∷ 9 ∷ 10 ∷ 11 ∷ []

abbrev pub tally : List ℕ → List ℕ
tally classes = map (λ k. count_by (nat_eq k) classes) twelve

abbrev pub harmony : Chord → Harmony
harmony c = record { counts = c.counts; bass = c.bass.index }
