use Rattle.std.proofs.Common.{arith, refl, sym}
use Rattle.pct_names.proofs.Names.{err_from_is_err_and}
use Rattle.pct_tallies.specs.Readings.{counts_from, totals_from}
use Rattle.pct_tallies.proofs.Binds.{fails, fails_on}
use Rattle.pct_tallies.proofs.reader.read_counts.Goals as goal

pub returns-in_err-complete-clause-read : goal.returns-in_err-complete-clause-read
unfolding counts_from totals_from
returns-in_err-complete-clause-read c =
    let p = err_from_is_err_and c.from_residual.result c.from_residual.ensures.1 in
    rw (p.1, p.2) (fails_on c.in_err-complete.field-0.0 _ _ (fails c.in_err-complete.field-0.0 _ c.in_err-complete.ensures.read))

pub returns-in_err-deadlock-clause-read : goal.returns-in_err-deadlock-clause-read
unfolding counts_from totals_from
returns-in_err-deadlock-clause-read c =
    let p = err_from_is_err_and c.from_residual-in_err-deadlock.result c.from_residual-in_err-deadlock.ensures.1 in
    rw (p.1, p.2, c.in_ok-complete.ensures.read) (fails_on c.in_err-deadlock.field-0.0 _ _ (fails c.in_err-deadlock.field-0.0 _ c.in_err-deadlock.ensures.read))

pub returns-in_err-budget-clause-read : goal.returns-in_err-budget-clause-read
unfolding counts_from totals_from
returns-in_err-budget-clause-read c =
    let p = err_from_is_err_and c.from_residual-in_err-budget.result c.from_residual-in_err-budget.ensures.1 in
    rw (p.1, p.2, c.in_ok-complete.ensures.read, c.in_ok-deadlock.ensures.read) (fails_on c.in_err-budget.field-0.0 _ _ (fails c.in_err-budget.field-0.0 _ c.in_err-budget.ensures.read))

pub returns-in_err-stops-clause-read : goal.returns-in_err-stops-clause-read
unfolding counts_from totals_from
returns-in_err-stops-clause-read c =
    let p = err_from_is_err_and c.from_residual-in_err-stops.result c.from_residual-in_err-stops.ensures.1 in
    rw (p.1, p.2) tt

pub returns-in_err-joined-clause-read : goal.returns-in_err-joined-clause-read
unfolding counts_from totals_from
returns-in_err-joined-clause-read c =
    let p = err_from_is_err_and c.from_residual-in_err-joined.result c.from_residual-in_err-joined.ensures.1 in
    rw (p.1, p.2, c.in_ok-complete.ensures.read, c.in_ok-deadlock.ensures.read, c.in_ok-budget.ensures.read, sym c.in_ok-stops.ensures.read) (fails_on c.in_err-joined.field-0.0 _ _ (fails c.in_err-joined.field-0.0 _ c.in_err-joined.ensures.read))

pub returns-in_err-canceled-clause-read : goal.returns-in_err-canceled-clause-read
unfolding counts_from totals_from
returns-in_err-canceled-clause-read c =
    let p = err_from_is_err_and c.from_residual-in_err-canceled.result c.from_residual-in_err-canceled.ensures.1 in
    rw (p.1, p.2, c.in_ok-complete.ensures.read, c.in_ok-deadlock.ensures.read, c.in_ok-budget.ensures.read, sym c.in_ok-stops.ensures.read, c.in_ok-joined.ensures.read) (fails_on c.in_err-canceled.field-0.0 _ _ (fails c.in_err-canceled.field-0.0 _ c.in_err-canceled.ensures.read))

pub returns-in_err-least-clause-read : goal.returns-in_err-least-clause-read
unfolding counts_from totals_from
returns-in_err-least-clause-read c =
    let p = err_from_is_err_and c.from_residual-in_err-least.result c.from_residual-in_err-least.ensures.1 in
    rw (p.1, p.2, c.in_ok-complete.ensures.read, c.in_ok-deadlock.ensures.read, c.in_ok-budget.ensures.read, sym c.in_ok-stops.ensures.read, c.in_ok-joined.ensures.read, c.in_ok-canceled.ensures.read) (fails_on c.in_err-least.field-0.0 _ _ (fails c.in_err-least.field-0.0 _ c.in_err-least.ensures.read))

pub returns-in_err-most-clause-read : goal.returns-in_err-most-clause-read
unfolding counts_from totals_from
returns-in_err-most-clause-read c =
    let p = err_from_is_err_and c.from_residual-in_err-most.result c.from_residual-in_err-most.ensures.1 in
    rw (p.1, p.2, c.in_ok-complete.ensures.read, c.in_ok-deadlock.ensures.read, c.in_ok-budget.ensures.read, sym c.in_ok-stops.ensures.read, c.in_ok-joined.ensures.read, c.in_ok-canceled.ensures.read, c.in_ok-least.ensures.read) (fails_on c.in_err-most.field-0.0 _ _ (fails c.in_err-most.field-0.0 _ c.in_err-most.ensures.read))

pub returns-clause-read : goal.returns-clause-read
unfolding counts_from totals_from
returns-clause-read c = rw (c.in_ok-complete.ensures.read, c.in_ok-deadlock.ensures.read, c.in_ok-budget.ensures.read, sym c.in_ok-stops.ensures.read, c.in_ok-joined.ensures.read, c.in_ok-canceled.ensures.read, c.in_ok-least.ensures.read, c.in_ok-most.ensures.read) refl

pub returns-clause-after : goal.returns-clause-after
returns-clause-after c = record {
  within = omega (arith, c.in_ok-complete.ensures.after.within, c.in_ok-deadlock.ensures.after.within, c.in_ok-budget.ensures.after.within, c.in_ok-stops.ensures.after.within, c.in_ok-joined.ensures.after.within, c.in_ok-canceled.ensures.after.within, c.in_ok-least.ensures.after.within, c.in_ok-most.ensures.after.within);
  shorter = omega (arith, c.in_ok-complete.ensures.after.shorter, c.in_ok-deadlock.ensures.after.shorter, c.in_ok-budget.ensures.after.shorter, c.in_ok-stops.ensures.after.no_longer, c.in_ok-joined.ensures.after.shorter, c.in_ok-canceled.ensures.after.shorter, c.in_ok-least.ensures.after.shorter, c.in_ok-most.ensures.after.shorter);
}
