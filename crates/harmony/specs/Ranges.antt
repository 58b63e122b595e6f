-- The ranges of the voices.
--
-- bounds   the low and the high of a range, as plain numbers
-- proper   no pitch above 127, no low above its high, no high more than 24 above its low
-- ranged   the range that bounds are, where they are proper
-- rising   from a voice to the next neither the low nor the high falls
use Rattle.std.specs.Prelude.{ℕ, ◌+◌, ◌%◌, Bool, cond, ◌&&◌, List, [], ◌∷◌, length, Ok, Err, Result, ◌==◌, nat_le, slice_index}
use Rattle.harmony.specs.Neighbours.{neighbours}
use Rattle.harmony.specs.declared.range.Bounds.{Bounds}
use Rattle.harmony.specs.declared.range.Range.{Range}
use Rattle.harmony.specs.declared.refusal.Refusal.{Refusal}
use Rattle.harmony.specs.declared.refusal.Refusal.TheVariants.{VoiceNumber, ImproperRange, FallingRange}
use Rattle.std.specs.List.{list_all}

abbrev pub bounds : Range → Bounds
bounds r = record { low = r.low.semitones; high = r.high.semitones }

abbrev pub proper : Bounds → Bool
proper b = nat_le b.high 127 && (nat_le b.low b.high && nat_le b.high (b.low + 24))

abbrev pub ranged : Bounds → Result Bounds Refusal
ranged b = cond (proper b) (Ok b) (Err ImproperRange)

abbrev pub all_proper : List Bounds → Bool
all_proper bs = list_all proper bs

-- the second of two neighbours has neither a lower low nor a lower high
abbrev pub not_lower : Bounds → Bounds → Bool
not_lower a b = nat_le a.low b.low && nat_le a.high b.high

abbrev pub rising : List Bounds → Bool
rising bs = neighbours not_lower bs

abbrev pub three_to_six : ℕ → Bool
three_to_six n = nat_le 3 n && nat_le n 6

-- the ranges that the voices get: each condition over all voices before the next
abbrev pub voices_of : List Bounds → Result (List Bounds) Refusal
voices_of bs =
    cond (three_to_six (length bs))
    (cond (all_proper bs) (cond (rising bs) (Ok bs) (Err FallingRange)) (Err ImproperRange))
    (Err VoiceNumber)

-- low and high as two bytes
abbrev pub low_high : List ℕ → Bounds
low_high pair = record { low = slice_index pair 0; high = slice_index pair 1 }

-- low and high of voice 1, then of voice 2, and so on; a last byte without a partner is left out
abbrev pub paired : List ℕ → List Bounds
paired [] = []
paired (l ∷ []) = []
paired (l ∷ h ∷ bs) = record { low = l; high = h } ∷ paired bs

-- the ranges that the voices get from bytes, which have to be pairs and at most twelve
abbrev pub set_up : List ℕ → Result (List Bounds) Refusal
set_up bs = cond (length bs % 2 == 0 && nat_le (length bs) 12) (voices_of (paired bs)) (Err VoiceNumber)

-- the ranges of a board that was never set up
abbrev pub never_set : List Bounds
never_set = let wide : Bounds = record { low = 48; high = 72 } in wide ∷ wide ∷ wide ∷ []
