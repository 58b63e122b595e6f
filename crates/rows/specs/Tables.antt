-- Rows in a table of bytes.
--
-- flat         the bytes of rows, one row behind the other without a gap
-- rows_for     the rows of a chord for some voices; rows_of_each, of each of several chords
-- together     the rows of several chords as one list
-- counted      how many rows chords have together, or why they are refused
-- written      a table after rows were written to its front
use Rattle.std.specs.Prelude.{ℕ, ◌*◌, Bool, true, cond, ◌&&◌, List, ◌++◌, map, length, drop, Some, None, Ok, Err, Option, Result, nat_le}
use Rattle.harmony.specs.Chords.{harmony}
use Rattle.harmony.specs.VoiceRanges.{ranges_of}
use Rattle.harmony.specs.declared.chord.Chord.{Chord}
use Rattle.harmony.specs.declared.refusal.Refusal.{Refusal}
use Rattle.harmony.specs.declared.refusal.Refusal.TheVariants.{NoRow, TooManyRows, ShortRowTable}
use Rattle.harmony.specs.declared.voices.Voices.{Voices}
use Rattle.rows.specs.Enumeration.{rows}
use Rattle.std.specs.List.{flat_map, list_all}

abbrev pub flat : List (List ℕ) → List ℕ
flat rs = flat_map (λ r. r) rs

-- the rows of a chord, and of each of several chords, for these voices
abbrev pub rows_for : Voices → Chord → List (List ℕ)
rows_for voices c = rows (ranges_of voices) (harmony c)

abbrev pub rows_of_each : Voices → List Chord → List (List (List ℕ))
rows_of_each voices chords = map (rows_for voices) chords

abbrev pub together : List (List (List ℕ)) → List (List ℕ)
together rss = flat_map (λ rs. rs) rss

-- every chord has a row; none has more than 256
abbrev pub all_some : List (List (List ℕ)) → Bool
all_some rss = list_all (λ rs. nat_le 1 (length rs)) rss

abbrev pub all_few : List (List (List ℕ)) → Bool
all_few rss = list_all (λ rs. nat_le (length rs) 256) rss

-- the first condition that a chord meets, each over all chords before the next; few says that none before had too many
abbrev pub refused_first : Bool → List (List (List ℕ)) → Option Refusal
refused_first few rss = cond (all_some rss) (cond (few && all_few rss) None (Some TooManyRows)) (Some NoRow)

-- the number of the rows together, or that condition
abbrev pub count_unless : Option Refusal → List (List (List ℕ)) → Result ℕ Refusal
count_unless None rss = Ok (length (together rss))
count_unless (Some e) rss = Err e

abbrev pub counted : List (List (List ℕ)) → Result ℕ Refusal
counted rss = count_unless (refused_first true rss) rss

-- and whether so many bytes hold them, n bytes a row
abbrev pub with_room : ℕ → ℕ → Result ℕ Refusal → Result ℕ Refusal
with_room n room (Ok k) = cond (nat_le (k * n) room) (Ok k) (Err ShortRowTable)
with_room n room (Err e) = Err e

-- a table after rows were written to its front, where the answer accepts them
abbrev pub written : ℕ → List (List ℕ) → List ℕ → Result ℕ Refusal → List ℕ
written n rs table (Ok k) = flat rs ++ drop (k * n) table
written n rs table (Err e) = table
