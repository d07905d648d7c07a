use Rattle.pct_names.proofs.Names.{ap, err_from_is_err_and, spelling, subst, sym, ◌∙◌}
use Rattle.pct_script.proofs.TextChecks.{IsStored, none_stored, one_stored, found_in_line, left_are_parsed}
use Rattle.pct_script.proofs.scan.stored_lines.Goals as goal

pub loop-number-init : goal.loop-number-init
loop-number-init c = rw (c.new-lines.ensures.items, c.of-after.ensures) (none_stored c.args.text.now)

pub loop-number-preserved : goal.loop-number-preserved
loop-number-preserved c =
    let prefix = c.loop-number.lines.items in
    let gone = subst (IsStored c.args.text.now prefix) c.in-Some.ensures c.loop-number.invariant in
    rw c.in_ok-store_spelled.ensures.kept (one_stored c.args.text.now prefix (c.in-Some.number, c.in-Some.line.now) c.next_stored.new.lines gone c.in_ok-store_spelled.ensures.spelled)

pub returns-in_err-store_spelled : goal.returns-in_err-store_spelled
returns-in_err-store_spelled c =
    let prefix = c.loop-number.lines.items in
    let gone = subst (IsStored c.args.text.now prefix) c.in-Some.ensures c.loop-number.invariant in
    let p = err_from_is_err_and c.from_residual.result c.from_residual.ensures.1 in
    rw (p.1, p.2) (found_in_line c.args.text.now prefix (c.in-Some.number, c.in-Some.line.now) c.next_stored.new.lines c.in_err-store_spelled.field-0.0 gone c.in_err-store_spelled.ensures.spelled)

pub invariant_of-result : goal.invariant_of-result
invariant_of-result c =
    let prefix = c.loop-number.lines.items in
    let gone = subst (IsStored c.args.text.now prefix) c.in_default.ensures c.loop-number.invariant in
    left_are_parsed c.args.text.now prefix c.next_stored.new.lines gone (ap spelling (sym c.again.ensures) ∙ sym c.in-None.ensures)
