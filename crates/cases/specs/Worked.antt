-- Cases worked by hand, and that the definitions yield them.
--
-- Case      ranges, a chord symbol, and what they yield: the chord's rows, or the number of the refusal
-- yielded   what the definitions yield: ranges first, then the symbol, then the rows
-- worked    the cases, in one list
-- Yielded   the definitions yield all of it
use Rattle.std.specs.Prelude.{◌≡◌, ℕ, List, [], ◌∷◌, length, Ok, Err, codes, Result}
use Rattle.harmony.specs.Chords.{Harmony}
use Rattle.harmony.specs.Ranges.{voices_of}
use Rattle.harmony.specs.Refusals.{tells}
use Rattle.harmony.specs.Symbols.{chord_of}
use Rattle.harmony.specs.declared.range.Bounds.{Bounds}
use Rattle.harmony.specs.declared.refusal.Refusal.{Refusal}
use Rattle.rows.specs.Enumeration.{rows}
use Rattle.rows.specs.Tables.{counted}
use Rattle.std.specs.List.{AllByRecursion}

pub record Case : Type 0 where
  pub ranges : List Bounds
  pub symbol : List ℕ
  pub yields : Result (List (List ℕ)) ℕ

-- the rows, where their number is accepted
abbrev pub listed : List (List ℕ) → Result ℕ Refusal → Result (List (List ℕ)) ℕ
listed rs (Ok k) = Ok rs
listed rs (Err e) = Err (tells e).number

abbrev pub of_chord : List Bounds → Result Harmony Refusal → Result (List (List ℕ)) ℕ
of_chord vs (Ok c) = listed (rows vs c) (counted (rows vs c ∷ []))
of_chord vs (Err e) = Err (tells e).number

abbrev pub of_voices : List ℕ → Result (List Bounds) Refusal → Result (List (List ℕ)) ℕ
of_voices symbol (Ok vs) = of_chord vs (chord_of symbol (length vs))
of_voices symbol (Err e) = Err (tells e).number

abbrev pub yielded : Case → Result (List (List ℕ)) ℕ
yielded c = of_voices c.symbol (voices_of c.ranges)

-- 48-60 55-67 60-72
abbrev pub three_voices : List Bounds
three_voices = record { low = 48; high = 60 } ∷ record { low = 55; high = 67 } ∷ record { low = 60; high = 72 } ∷ []

abbrev pub row : ℕ → ℕ → ℕ → List ℕ
row a b c = a ∷ b ∷ c ∷ []

abbrev pub worked : List Case
worked =
    record { ranges = three_voices; symbol = codes "C"; yields = Ok (row 48 55 64 ∷ row 48 64 67 ∷ row 60 64 67 ∷ []) }
    ∷ record { ranges = three_voices; symbol = codes "C/E"; yields = Ok (row 52 55 60 ∷ row 52 55 72 ∷ row 52 60 67 ∷ row 52 67 72 ∷ []) }
    ∷ record { ranges = three_voices; symbol = codes "G7"; yields = Err 7 }
    ∷ record { ranges = three_voices; symbol = codes "C/D"; yields = Err 8 }
    ∷ []

abbrev pub Yielded : Type 0
Yielded = AllByRecursion (λ c. yielded c ≡ c.yields) worked
