use Rattle.std.proofs.Common.{◌≡◌, ◌+◌, ap, drop, sym, subst, ◌∙◌}
use Rattle.std.specs.Prelude.{Result}
use Rattle.pct_names.proofs.Names.{err_from_is_err_and}
use Rattle.pct_tallies.specs.declared.range_tally.RangeTally.{RangeTally}
use Rattle.pct_tallies.specs.Faults.{Fails, Fault}
use Rattle.pct_tallies.specs.Totals.{total_from}
use Rattle.pct_tallies.proofs.NextItem.{next_item, past_all}
use Rattle.pct_tallies.proofs.TotalSteps.{total_fails, total_goes_on, total_of_one}
use Rattle.pct_tallies.proofs.total.total_from.Goals as goal

pub returns-in_err-total : goal.returns-in_err-total
returns-in_err-total c =
    let p = err_from_is_err_and c.from_residual.result c.from_residual.ensures.1 in
    let i = c.loop-next.next-index in
    let e = c.in_err-total.field-0.0 in
    let next = c.next-item.result in
    let all = c.loop-next.invariant ∙ ap (total_from c.loop-next.total) (next_item c.args.rest.now i next c.next-item.is c.loop-next-test.true) in
    rw (p.1, p.2)
    (subst (λ (r : Result RangeTally Fault). Fails e r) (sym all) (total_fails e c.loop-next.total next (drop (i + 1) c.args.rest.now) c.in_err-total.ensures))

pub loop-next-preserved : goal.loop-next-preserved
loop-next-preserved c =
    let i = c.loop-next.next-index in
    let next = c.next-item.result in
    c.loop-next.invariant
    ∙ ap (total_from c.loop-next.total) (next_item c.args.rest.now i next c.next-item.is c.loop-next-test.true)
    ∙ total_goes_on c.loop-next.total c.in_ok-total.total next (drop (i + 1) c.args.rest.now) c.in_ok-total.ensures

pub returns : goal.returns
returns c =
    c.loop-next.invariant
    ∙ ap (total_from c.loop-next.total) (past_all c.args.rest.now c.loop-next.next-index c.loop-next-test.false)
    ∙ total_of_one c.loop-next.total
