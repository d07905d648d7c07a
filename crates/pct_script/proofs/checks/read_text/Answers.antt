use Rattle.pct_names.proofs.Names.{err_from_is_err_and}
use Rattle.pct_script.proofs.TextChecks.{nests_wrong, passes_a_limit, passes_all_three}
use Rattle.pct_script.proofs.checks.read_text.Goals as goal

pub returns-in_err-check_nesting-clause-parsed : goal.returns-in_err-check_nesting-clause-parsed
returns-in_err-check_nesting-clause-parsed c =
    let p = err_from_is_err_and c.from_residual-in_err-check_nesting.result c.from_residual-in_err-check_nesting.ensures.1 in
    rw (p.1, p.2) (nests_wrong c.args.text.now c.in_ok-lines.lines c.in_err-check_nesting.field-0.0 c.in_ok-lines.ensures.parsed c.in_err-check_nesting.ensures)

pub returns-in_err-refuse-clause-parsed : goal.returns-in_err-refuse-clause-parsed
returns-in_err-refuse-clause-parsed c =
    let p = err_from_is_err_and c.from_residual-in_err-refuse.result c.from_residual-in_err-refuse.ensures.1 in
    rw (p.1, p.2) (passes_a_limit c.args.text.now c.in_ok-lines.lines c.in_err-refuse.field-0.0 c.check_limits.result c.in_ok-lines.ensures.parsed c.in_ok-check_nesting.ensures c.check_limits.ensures c.in_err-refuse.ensures)

pub returns-clause-parsed : goal.returns-clause-parsed
returns-clause-parsed c =
    passes_all_three c.args.text.now c.in_ok-lines.lines c.in_ok-parsed.parsed.items c.check_limits.result c.in_ok-lines.ensures.parsed c.in_ok-check_nesting.ensures c.check_limits.ensures c.in_ok-refuse.ensures c.in_ok-parsed.ensures
