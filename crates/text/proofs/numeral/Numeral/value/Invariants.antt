use Rattle.std.proofs.Common.{◌≡◌, ◌+◌, ◌*◌, ◌^◌, ◌<◌, drop, Some}
use Rattle.text.specs.Numbers.{extended, number}
use Rattle.text.proofs.numeral.Numeral.value.Given as goal

abbrev pub invariant-loop-digit : goal.invariant-loop-digit
invariant-loop-digit l = (l.value < 2 ^ (8 + 4 * l.digit-index)) × (Some (extended l.value (drop l.digit-index l.rest)) ≡ number l.self.digits.items)
