use Rattle.std.proofs.Common.{◌≡◌, ℕ, List, Bor, Some, None, Option, MatchOption, codes, ap, rules}
use Rattle.std.proofs.lemmas.Bool.Decides.{Decides-eqb}
use Rattle.std.proofs.lemmas.Slice.Eq.{strip_prefix_is}
use Rattle.text.proofs.LineForms.{line_form}
use Rattle.text.proofs.Words.{stripped}
use Rattle.text.specs.RangeLines.{behind, from_word, range_line}
use Rattle.text.specs.Telling.{Told}
use Rattle.text.specs.declared.range_line.RangeLine.{RangeLine}
use Rattle.text.proofs.range_line.range_line.Goals as goal

-- what the line read behind the word is of the chart
abbrev Found : List ℕ → Option RangeLine → Type 0
Found chart found = MatchOption found (range_line chart ≡ None) (λ l. Told chart l.count l.first l.end)

found : (chart : List ℕ) (s : Option (Bor (List ℕ))) (r : Option RangeLine) → MatchOption s (behind (codes "voices") chart ≡ None) (λ x. behind (codes "voices") chart ≡ Some x.now) → MatchOption s (r ≡ None) (λ x. behind (codes "voices") chart ≡ Some x.now → Found chart r) → Found chart r
found chart None r word is = rw is (ap from_word word)
found chart (Some x) r word is = is word

pub returns-clause-told : goal.returns-clause-told
returns-clause-told c =
    let chart = c.args.chart.now in
    let word = stripped (codes "voices") chart c.strip_prefix.result (strip_prefix_is Decides-eqb chart (codes "voices") c.strip_prefix.result c.strip_prefix.ensures.cases) in
    let all = found chart c.strip_prefix.result c.and_then.result word (search rules) in
    search rules

pub returns-clause-form : goal.returns-clause-form
returns-clause-form c = line_form c.args.chart.now
