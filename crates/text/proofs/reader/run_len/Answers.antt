use Rattle.std.proofs.Common.{rules, tests, of_calls, ◌∙◌}
use Rattle.std.proofs.lemmas.Iterator.{YieldsList-from_slice}
use Rattle.std.proofs.lemmas.Iterator.Consumers.{count_from_yields_List}
use Rattle.std.proofs.lemmas.Iterator.Search.{YieldsList-from_take_while}
use Rattle.std.proofs.lemmas.List.Folds.{length-prefix_len}
use Rattle.text.proofs.reader.run_len.Goals as goal

pub returns-clause-run : goal.returns-clause-run
returns-clause-run g c = λ p computes.
    count_from_yields_List c.take_while.result _ c.count.ensures.ran (YieldsList-from_take_while _ p (YieldsList-from_slice c.args.bytes.now (cc)) c.take_while.ensures.closure c.take_while.ensures.done (λ x r q k. search (rules, tests, of_calls, computes)))
    ∙ length-prefix_len p _
