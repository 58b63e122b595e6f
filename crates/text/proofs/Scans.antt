-- The line of ranges, read byte by byte along a chart.
use Rattle.std.proofs.Common.{◌≡◌, ℕ, ◌+◌, ◌<◌, List, length, get_or, drop, Some, None, Option, ◌∙◌}
use Rattle.harmony.specs.declared.range.Bounds.{Bounds}
use Rattle.std.proofs.lemmas.List.{at_drop_more}
use Rattle.text.specs.RangeLines.{Line, Place, added, scan, step}

-- the byte at i ends the line
pub scan_ends : (bs : List ℕ) (i : ℕ) (rs : List Bounds) (p : Place) (line : Option Line) → line ≡ scan (drop i bs) rs p → i < length bs → (closed : Option Bounds) (to : Option Place) → Some (record { closed = closed; to = to }) ≡ step p (get_or bs i 0) → to ≡ None → line ≡ Some (record { ranges = added rs closed; rest = drop (i + 1) bs })
scan_ends bs i rs p line inv h closed to e f = rw (← e, f) at (inv ∙ at_drop_more (λ cs. scan cs rs p) bs i 0 h)
