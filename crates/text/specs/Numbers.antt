-- Numbers of one to three digits.
--
-- digit    whether a byte is a decimal digit
-- pushed   the digits read so far with the digit that a byte writes, where there are not three yet
-- number   what digits say, the first the highest; none without a digit
-- digits   the digits of a numeral of the code
use Rattle.std.specs.Prelude.{ℕ, ◌+◌, ◌-◌, ◌*◌, Bool, cond, ◌&&◌, List, [], ◌∷◌, ◌++◌, length, Some, None, Option, nat_le}
use Rattle.text.specs.declared.numeral.Numeral.{Numeral}

abbrev pub digit : ℕ → Bool
digit b = nat_le 48 b && nat_le b 57

abbrev pub pushed : List ℕ → ℕ → Option (List ℕ)
pushed ds b = cond (digit b && nat_le (length ds) 2) (Some (ds ++ (b - 48) ∷ [])) None

-- a number, with digits written behind it
abbrev pub extended : ℕ → List ℕ → ℕ
extended n [] = n
extended n (d ∷ ds) = extended (10 * n + d) ds

abbrev pub number : List ℕ → Option ℕ
number [] = None
number (d ∷ ds) = Some (extended d ds)

abbrev pub digits : Numeral → List ℕ
digits n = n.digits.items
