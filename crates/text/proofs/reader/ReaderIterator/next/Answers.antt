use Rattle.std.proofs.Common.{rules, ◌≡◌, ◌∷◌, ◌+◌, refl, ap, length, take, length-drop, arith}
use Rattle.text.specs.Tokens.{bar, symbol, blank, in_symbol, left_from}
use Rattle.text.proofs.Pieces.{fewer, next_bar, next_none, next_symbol}
use Rattle.text.proofs.reader.ReaderIterator.next.Goals as goal
use Rattle.text.proofs.reader.ReaderIterator.next.Goals.{In-124, After-run_len-len}

pub returns-in-empty-clause-steps : goal.returns-in-empty-clause-steps
returns-in-empty-clause-steps c =
    let text = c.args.self.now.text.now in
    let at = c.args.self.now.pos + c.run_len.result in
    record {
      text = refl;
      yields = next_none _ _ _ _ _ (c.run_len.ensures.run blank (λ b r h. search rules)) c.rest.ensures c.rest-rest.ensures c.in-empty.len_below;
      ended = omega (arith, length-drop at text, ap length c.rest-rest.ensures);
    }

bar_left : (c : In-124) → left_from c.args.self.now.text.now c.args.self.now.pos ≡ bar (c.args.self.now.pos + c.run_len.result) ∷ left_from c.args.self.now.text.now (c.args.self.now.pos + c.run_len.result + 1)
bar_left c = next_bar _ _ _ _ _ (c.run_len.ensures.run blank (λ b r h. search rules)) c.rest.ensures c.rest-rest.ensures _ refl (omega arith) (search rules)

pub returns-in-124-clause-steps : goal.returns-in-124-clause-steps
returns-in-124-clause-steps c = record { text = refl; yields = bar_left (goal.at.returns-in-124-clause-steps c).In-124; ended = tt }

pub returns-in-124-clause-goes : goal.returns-in-124-clause-goes
returns-in-124-clause-goes c =
    let less = fewer _ _ _ (bar_left (goal.at.returns-in-124-clause-goes c).In-124) in
    search rules

symbol_left : (c : After-run_len-len) → left_from c.args.self.now.text.now c.args.self.now.pos ≡ symbol (take c.run_len-len.result c.rest-rest.result.now) (c.args.self.now.pos + c.run_len.result) ∷ left_from c.args.self.now.text.now (c.args.self.now.pos + c.run_len.result + c.run_len-len.result)
symbol_left c =
    next_symbol _ _ _ _ _ (c.run_len.ensures.run blank (λ b r h. search rules)) c.rest.ensures c.rest-rest.ensures _ c.run_len-len.result refl (omega arith) (search rules) (c.run_len-len.ensures.run in_symbol (λ b r h. search rules))

pub returns-in_default-clause-steps : goal.returns-in_default-clause-steps
returns-in_default-clause-steps c =
    let given = symbol_left (goal.at.returns-in_default-clause-steps c).After-run_len-len in
    search rules

pub returns-in_default-clause-goes : goal.returns-in_default-clause-goes
returns-in_default-clause-goes c =
    let less = fewer _ _ _ (symbol_left (goal.at.returns-in_default-clause-goes c).After-run_len-len) in
    search rules
