-- How rows grow from voice to voice.
--
-- grown       the rows that begin with the pitches chosen so far
-- footing_of  a footing of the code, as plain data
-- placed      a table after a row was put at place k among rows of width n, where there is room for it
-- laid        a table after rows were put there one behind the other, from place k on
-- Completed   what is answered where these rows were found, behind k that came before
use Rattle.std.specs.Prelude.{◌≡◌, ℕ, ◌+◌, ◌*◌, ◌<◌, ◌≤◌, cond, List, [], ◌∷◌, ◌++◌, length, take, drop, Ok, Err, Result, nat_le}
use Rattle.harmony.specs.Pitches.{class}
use Rattle.harmony.specs.declared.range.Bounds.{Bounds}
use Rattle.harmony.specs.declared.refusal.Refusal.{Refusal}
use Rattle.harmony.specs.declared.refusal.Refusal.TheVariants.{TooManyRows}
use Rattle.rows.specs.Enumeration.{above, all_zero, bass, less, may, pitches}
use Rattle.rows.specs.Enumeration
use Rattle.rows.specs.declared.climb.Footing.{Footing}
use Rattle.rows.specs.declared.climb.Footing.TheVariants.{Bass, Above}
use Rattle.std.specs.List.{flat_map}

abbrev pub footing_of : Footing → Enumeration.Footing
footing_of (Bass c) = bass c.index
footing_of (Above p) = above p.semitones

unfoldable pub grown : List ℕ → List Bounds → Enumeration.Footing → List ℕ → List (List ℕ)
grown chosen [] footing left = cond (all_zero left) (chosen ∷ []) []
grown chosen (v ∷ vs) footing left =
    flat_map (λ p. cond (may footing left p) (grown (chosen ++ p ∷ []) vs (above p) (less left (class p))) []) (pitches v)

abbrev pub placed : ℕ → List ℕ → ℕ → List ℕ → List ℕ
placed n table k r = cond (nat_le (k * n + n) (length table)) (take (k * n) table ++ (r ++ drop (k * n + n) table)) table

abbrev pub laid : ℕ → List ℕ → ℕ → List (List ℕ) → List ℕ
laid n table k [] = table
laid n table k (r ∷ rs) = laid n (placed n table k r) (k + 1) rs

abbrev pub Completed : ℕ → ℕ → List (List ℕ) → List ℕ → List ℕ → Result ℕ Refusal → Type 0
Completed n k found table after (Ok rows) = (rows ≡ k + length found) × (rows ≤ 256) × (after ≡ laid n table k found)
Completed n k found table after (Err e) = (e ≡ TooManyRows) × (256 < k + length found)
