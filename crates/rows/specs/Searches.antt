-- A search for rows that has come to some voice.
--
-- rows_beyond  the rows that begin with the pitches of a climb
-- Sought       these lists of pitches are all rows of the chord
use Rattle.std.specs.Prelude.{ℕ, List, drop}
use Rattle.harmony.specs.Chords.{Harmony}
use Rattle.harmony.specs.declared.range.Bounds.{Bounds}
use Rattle.rows.specs.Arrangements.{semitones_of}
use Rattle.rows.specs.Enumeration.{In, rows}
use Rattle.rows.specs.Growth.{footing_of, grown}
use Rattle.rows.specs.declared.climb.Climb.{Climb}

abbrev pub rows_beyond : List Bounds → Climb → List (List ℕ)
rows_beyond vs climb = grown (semitones_of climb.voices climb.pitches) (drop climb.voices vs) (footing_of climb.footing) climb.left

abbrev pub Sought : List Bounds → Harmony → List (List ℕ) → Type 0
Sought vs c rs = (ps : List ℕ) → In ps rs → In ps (rows vs c)
