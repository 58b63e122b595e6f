-- The rules of the ranges, one after the other.
use Rattle.std.proofs.Common.{◌≡◌, ◌<◌, leb, List, length, Err}
use Rattle.harmony.specs.Ranges.{voices_of}
use Rattle.harmony.specs.declared.range.Bounds.{Bounds}
use Rattle.harmony.specs.declared.refusal.Refusal.TheVariants.{VoiceNumber}
use Rattle.std.proofs.lemmas.Bool.{and_right, lt-leb}

pub voices_many : (bs : List Bounds) → 6 < length bs → voices_of bs ≡ Err VoiceNumber
voices_many bs h = rw (and_right (leb 3 (length bs)) (leb (length bs) 6) (lt-leb (length bs) 6 h))
