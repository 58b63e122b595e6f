use Rattle.std.proofs.Common.{◌≡◌, map, length, take, drop}
use Rattle.harmony.specs.Ranges.{all_proper, bounds}
use Rattle.harmony.proofs.voices.setting.ranges_within.Given as goal

abbrev pub invariant-loop-i : goal.invariant-loop-i
invariant-loop-i l =
    record {
      passed : all_proper (drop l.i l.within) ≡ all_proper l.within;
      same : map bounds (take l.i l.ranges) ≡ take l.i l.within;
      full : length l.ranges ≡ 6;
    }
