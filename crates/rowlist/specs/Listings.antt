-- What is listed of a symbol.
--
-- spaced      numbers in decimal, parted by spaces
-- row_line    a row on a line of its own
-- answer_of   how many rows the chord of a symbol has, or why it is refused
-- rows_named  the rows of the chord that a symbol names; none where it names no chord
use Rattle.std.specs.Prelude.{ℕ, List, [], ◌∷◌, ◌++◌, Ok, Err, decimal, Result}
use Rattle.harmony.specs.Chords.{Harmony}
use Rattle.harmony.specs.Symbols.{chord_of}
use Rattle.harmony.specs.VoiceRanges.{ranges_of}
use Rattle.harmony.specs.declared.range.Bounds.{Bounds}
use Rattle.harmony.specs.declared.refusal.Refusal.{Refusal}
use Rattle.harmony.specs.declared.voices.Voices.{Voices}
use Rattle.rows.specs.Enumeration.{rows}
use Rattle.rows.specs.Tables.{counted}
use Rattle.std.specs.List.{flat_map}

abbrev pub spaced : List ℕ → List ℕ
spaced [] = []
spaced (p ∷ ps) = decimal p ++ flat_map (λ q. 32 ∷ decimal q) ps

abbrev pub row_line : List ℕ → List ℕ
row_line ps = spaced ps ++ 10 ∷ []

abbrev pub answered : List Bounds → Result Harmony Refusal → Result ℕ Refusal
answered vs (Ok c) = counted (rows vs c ∷ [])
answered vs (Err e) = Err e

abbrev pub answer_of : Voices → List ℕ → Result ℕ Refusal
answer_of voices symbol = answered (ranges_of voices) (chord_of symbol voices.count.number)

abbrev pub rows_named : List Bounds → Result Harmony Refusal → List (List ℕ)
rows_named vs (Ok c) = rows vs c
rows_named vs (Err e) = []
