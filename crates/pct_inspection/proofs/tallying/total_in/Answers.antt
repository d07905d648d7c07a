use Rattle.pct_names.proofs.Names.{err_from_is_err_and}
use Rattle.pct_inspection.proofs.Totals.{none_read, some_text, total_read}
use Rattle.pct_inspection.proofs.tallying.total_in.Goals as goal

pub returns-in_err-tallies-clause-total : goal.returns-in_err-tallies-clause-total
returns-in_err-tallies-clause-total c =
    let p = err_from_is_err_and c.from_residual.result c.from_residual.ensures.1 in
    rw (p.1, p.2) (none_read c.args.text.now c.in_err-tallies.field-0.0 c.in_err-tallies.ensures.read)

pub returns-clause-total : goal.returns-clause-total
returns-clause-total c = total_read c.args.text.now c.in_ok-tallies.tallies.items c.total_of.result c.in_ok-tallies.ensures.read c.total_of.ensures

pub returns-clause-memory : goal.returns-clause-memory
returns-clause-memory c = λ _. some_text c.args.text.now c.in_ok-tallies.tallies.items c.in_ok-tallies.ensures.read
