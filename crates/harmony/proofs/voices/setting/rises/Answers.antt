use Rattle.std.proofs.Common.{rules}
use Rattle.harmony.specs.Ranges.{not_lower}
use Rattle.harmony.proofs.Neighbours.{neighbours_are}
use Rattle.harmony.proofs.voices.setting.rises.Goals as goal
use Rattle.std.proofs.lemmas.Fn.{always_returns_same}

pub returns : goal.returns
returns c =
    neighbours_are not_lower c.args.within.now _
    (c.is_sorted_by.ensures.cases not_lower (always_returns_same _ _ _ (λ a r f k. search rules)))
