use Rattle.pct_names.proofs.Names.{None, Some, sym, words_in, ◌∙◌}
use Rattle.pct_expect.proofs.RulesRead.{counted_by, counted_none}
use Rattle.pct_expect.proofs.parsing.counted.Goals as goal

pub returns-in_err-word : goal.returns-in_err-word
returns-in_err-word c = λ n. rw c.from_residual.ensures (sym (counted_none n (words_in c.args.bytes.now) c.in_err-word.ensures.words))

pub returns-in_err-numeral : goal.returns-in_err-numeral
returns-in_err-numeral c = λ n.
    let by = counted_by n (words_in c.args.bytes.now) c.in_ok-word.word.now (words_in c.in_ok-word.rest.now) None c.in_ok-word.ensures.words c.in_err-numeral.ensures in
    rw c.from_residual-in_err-numeral.ensures (sym by)

pub returns : goal.returns
returns c = λ n.
    let by = counted_by n (words_in c.args.bytes.now) c.in_ok-word.word.now (words_in c.in_ok-word.rest.now) (Some c.in_ok-numeral.field-0) c.in_ok-word.ensures.words c.in_ok-numeral.ensures in
    c.one_pattern.ensures n ∙ sym by
