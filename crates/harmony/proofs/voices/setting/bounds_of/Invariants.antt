use Rattle.std.proofs.Common.{◌≡◌, map, length, take}
use Rattle.harmony.specs.Ranges.{low_high}
use Rattle.harmony.proofs.voices.setting.bounds_of.Given as goal

abbrev pub invariant-loop-i : goal.invariant-loop-i
invariant-loop-i l = record { same : take l.i l.within ≡ map low_high (take l.i l.pairs); full : length l.within ≡ 6 }
