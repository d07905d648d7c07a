use Rattle.pct_names.proofs.Names.{ap, is_none, not, sym, ◌∙◌}
use Rattle.pct_expect.specs.Parts.{rule_from}
use Rattle.pct_expect.proofs.LinesRead.{bad_first, bad_later, bad_none, none_mapped}
use Rattle.pct_expect.proofs.reader.bad_line.Goals as goal

pub returns-then-is_none : goal.returns-then-is_none
returns-then-is_none c =
    let n = c.in-Some.number in
    let line = c.in-Some.line.now in
    let none = sym (ap is_none (c.parts_of.ensures n)) ∙ none_mapped (rule_from n) c.parts_of.result ∙ ap not c.if-is_none.ensures in
    sym (c.loop-number.invariant ∙ bad_first c.loop-number.lines n line c.next.new.self c.in-Some.ensures none)

pub loop-number-preserved : goal.loop-number-preserved
loop-number-preserved c =
    let n = c.in-Some.number in
    let line = c.in-Some.line.now in
    let some = sym (ap is_none (c.parts_of.ensures n)) ∙ none_mapped (rule_from n) c.parts_of.result ∙ ap not c.if-is_none.ensures in
    c.loop-number.invariant ∙ bad_later c.loop-number.lines n line c.next.new.self c.in-Some.ensures some

pub returns : goal.returns
returns c = sym (c.loop-number.invariant ∙ bad_none c.loop-number.lines c.in_default.ensures.0)
