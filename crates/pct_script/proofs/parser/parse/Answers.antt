use Rattle.pct_names.proofs.Names.{err_from_is_err_and, sym, ◌∙◌}
use Rattle.pct_script_lines.specs.StoredContents.{contents_stored}
use Rattle.pct_script.proofs.CheckOrder.{in_order, is_fault}
use Rattle.pct_grammar.proofs.Scripts.{read_is_spelled, spells_one_script}
use Rattle.pct_script.proofs.parser.parse.Goals as goal

pub invariant_of-result : goal.invariant_of-result
invariant_of-result c =
    let read = c.in_ok-contents.ensures.parsed in
    record { passes_checks = (read_is_spelled c.args.text.now (contents_stored c.in_ok-contents.contents) (sym (in_order c.args.text.now) ∙ read.0) read.1).static }

pub returns-clause-spelled : goal.returns-clause-spelled
returns-clause-spelled c =
    let read = c.in_ok-contents.ensures.parsed in
    (read_is_spelled c.args.text.now (contents_stored c.in_ok-contents.contents) (sym (in_order c.args.text.now) ∙ read.0) read.1).spells

pub returns-clause-one : goal.returns-clause-one
returns-clause-one c = λ other spelled.
    let read = c.in_ok-contents.ensures.parsed in
    spells_one_script c.args.text.now other _ spelled (read_is_spelled c.args.text.now (contents_stored c.in_ok-contents.contents) (sym (in_order c.args.text.now) ∙ read.0) read.1).spells

pub returns-clause-faultless : goal.returns-clause-faultless
returns-clause-faultless c = sym (in_order c.args.text.now) ∙ c.in_ok-contents.ensures.parsed.0

pub returns-in_err-contents-clause-refused : goal.returns-in_err-contents-clause-refused
returns-in_err-contents-clause-refused c =
    let p = err_from_is_err_and c.from_residual.result c.from_residual.ensures.1 in
    rw (p.1, p.2) (is_fault c.args.text.now c.in_err-contents.field-0.0 c.in_err-contents.ensures.parsed)
