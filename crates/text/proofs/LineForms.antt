-- A line is read exactly where it is written.
use Rattle.std.proofs.Common.{ℕ, List}
use Rattle.text.proofs.Parsing.{read_written}
use Rattle.text.proofs.Spelling.{written_read}
use Rattle.text.specs.Written.{LineForm}

pub line_form : (chart : List ℕ) → LineForm chart
line_form chart = record { only = λ line. read_written line chart; every = written_read chart }
