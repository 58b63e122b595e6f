-- How long a chart may be.
use Rattle.std.specs.Prelude.{ℕ}

-- the most bytes that a chart may have
abbrev pub chart_limit : ℕ
chart_limit = 8192
