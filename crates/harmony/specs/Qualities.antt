-- The qualities of a chord.
--
-- ChordNotes   the notes of a quality in semitones above the root, and the notes that are doubled, in that order, where voices are left
-- name_of      the text that names each quality
-- quality_of   the quality that a text names
-- tones_of     the notes of each quality, and the doubled ones
use Rattle.std.specs.Prelude.{ℕ, cond, List, [], ◌∷◌, Some, None, codes, Option}
use Rattle.harmony.specs.declared.quality.Quality.{Quality}
use Rattle.harmony.specs.declared.quality.Quality.TheVariants.{Major, Minor, Diminished, Augmented, Suspended, Sixth, MinorSixth, Seventh, MajorSeventh, MinorSeventh, HalfDiminished, DiminishedSeventh}
use Rattle.std.specs.Str.{bytes_eq}

abbrev pub every_quality : List Quality
every_quality =
    Major ∷ Minor ∷ Diminished ∷ Augmented ∷ Suspended ∷ Sixth ∷ MinorSixth ∷ Seventh ∷ MajorSeventh ∷ MinorSeventh ∷
    HalfDiminished ∷ DiminishedSeventh ∷ []

abbrev pub name_of : Quality → List ℕ
name_of Major = []
name_of Minor = codes "m"
name_of Diminished = codes "dim"
name_of Augmented = codes "aug"
name_of Suspended = codes "sus4"
name_of Sixth = codes "6"
name_of MinorSixth = codes "m6"
name_of Seventh = codes "7"
name_of MajorSeventh = codes "maj7"
name_of MinorSeventh = codes "m7"
name_of HalfDiminished = codes "m7b5"
name_of DiminishedSeventh = codes "dim7"

-- the first of some qualities that a text names
abbrev pub named_among : List Quality → List ℕ → Option Quality
named_among [] text = None
named_among (q ∷ qs) text = cond (bytes_eq text (name_of q)) (Some q) (named_among qs text)

abbrev pub quality_of : List ℕ → Option Quality
quality_of text = named_among every_quality text

pub record ChordNotes : Type 0 where
  pub notes : List ℕ
  pub doubled : List ℕ

-- notes of which the first, the third and the second are doubled, in that order
abbrev pub triad : ℕ → ℕ → ℕ → ChordNotes
triad a b c = record { notes = a ∷ b ∷ c ∷ []; doubled = a ∷ c ∷ b ∷ [] }

abbrev pub tetrad : ℕ → ℕ → ℕ → ℕ → ChordNotes
tetrad a b c d = record { notes = a ∷ b ∷ c ∷ d ∷ []; doubled = a ∷ c ∷ b ∷ [] }

abbrev pub tones_of : Quality → ChordNotes
tones_of Major = triad 0 4 7
tones_of Minor = triad 0 3 7
tones_of Diminished = triad 0 3 6
tones_of Augmented = triad 0 4 8
tones_of Suspended = triad 0 5 7
tones_of Sixth = tetrad 0 4 7 9
tones_of MinorSixth = tetrad 0 3 7 9
tones_of Seventh = tetrad 0 4 7 10
tones_of MajorSeventh = tetrad 0 4 7 11
tones_of MinorSeventh = tetrad 0 3 7 10
tones_of HalfDiminished = tetrad 0 3 6 10
tones_of DiminishedSeventh = tetrad 0 3 6 9
