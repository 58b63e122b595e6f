use Rattle.std.proofs.Common.{◌≡◌, ◌+◌, drop, length, codes, sym, ap, ◌∙◌, length-append, arith}
use Rattle.std.specs.Option.{option_map}
use Rattle.std.proofs.lemmas.List.{drop-drop}
use Rattle.text.specs.RangeLines.{from_word}
use Rattle.text.specs.Telling.{place_of}
use Rattle.text.proofs.Keeping.{kept_more, kept_voices}
use Rattle.text.proofs.Scans.{scan_ends}
use Rattle.text.proofs.Words.{word_before}
use Rattle.text.proofs.range_line.behind_word.Goals as goal

pub returns-in-None : goal.returns-in-None
returns-in-None c = λ chart word.
    let rest = c.args.rest.now in
    let i = c.loop-byte.byte-index in
    let inv = c.loop-byte.invariant in
    let line = c.with-line.result in
    let made = c.with-line.ensures in
    let kept = kept_more _ _ c.loop-byte.line.count c.loop-byte.line.full inv.1 _ _ _ made.count made.first in
    let whole = word_before (codes "voices") chart rest word in
    let end : 6 + (i + 1) ≡ line.end = omega arith in
    record {
      line = _;
      reads = ap from_word word ∙ scan_ends rest i _ _ _ inv.3 (omega arith) _ _ c.in_ok-step.ensures (ap (option_map place_of) c.in-None.is);
      kept = kept;
      voices = kept_voices _ _ line.count line.full kept;
      rest = ap (drop (i + 1)) (sym (ap (drop 6) whole)) ∙ drop-drop (i + 1) 6 chart ∙ ap (λ k. drop k chart) end;
      within = omega (arith, ap length whole, length-append (codes "voices") rest);
    }
