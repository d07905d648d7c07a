use Rattle.std.proofs.Common.{◌≡◌, ℕ, List, ap, arith, length, sym, subst, ◌∙◌}
use Rattle.std.specs.Prelude.{Ok}
use Rattle.pct_names.proofs.Names.{err_from_is_err_and}
use Rattle.pct_tallies.specs.declared.range_tally.PlacedTally.{PlacedTally}
use Rattle.pct_tallies.specs.Readings.{if_some, tallies_in}
use Rattle.pct_tallies.proofs.ManyTallies.{GoesOn, all_read, empty, fails_if_some, one_read, positive, some_given, stops_at}
use Rattle.pct_tallies.proofs.reader.read_tallies.Goals as goal

pub returns-in_err-range-clause-read : goal.returns-in_err-range-clause-read
unfolding tallies_in
returns-in_err-range-clause-read c =
    let p = err_from_is_err_and c.from_residual.result c.from_residual.ensures.1 in
    let some = positive (length c.loop-lines.lines.text.now) c.loop-lines-test.ensures in
    rw (p.1, p.2)
    (fails_if_some c.in_err-range.field-0.0 _
    (stops_at c.args.text.now c.loop-lines.tallies.items c.loop-lines.lines c.loop-lines.invariant.0 some c.in_err-range.field-0.0 c.in_err-range.ensures.read))

pub loop-lines-preserved : goal.loop-lines-preserved
loop-lines-preserved c =
    let some = positive (length c.loop-lines.lines.text.now) c.loop-lines-test.ensures in
    let goes = one_read c.args.text.now c.loop-lines.tallies.items c.loop-lines.lines c.loop-lines.invariant.0 some c.in_ok-range.range c.in_ok-range.after c.in_ok-range.ensures.read c.in_ok-range.ensures.after.shorter in (
      (subst (λ (items : List PlacedTally). GoesOn c.args.text.now items c.in_ok-range.after) (sym c.in_ok-push.ensures.items) goes),
      omega (arith, c.loop-lines.invariant.1, c.in_ok-range.ensures.after.within),
      omega (arith, c.loop-lines.invariant.2, c.in_ok-range.ensures.after.shorter),
    )

pub returns-then-is_empty-clause-read : goal.returns-then-is_empty-clause-read
unfolding tallies_in
returns-then-is_empty-clause-read c =
    let items = c.loop-lines.tallies.items in
    let len = c.loop-lines.tallies.ok.0 in
    ap if_some (all_read c.args.text.now items c.loop-lines.lines c.loop-lines.invariant.0 (empty c.loop-lines.lines.text.now c.loop-lines-test.ensures))
    ∙ ap (λ (xs : List PlacedTally). if_some (Ok xs)) (empty items (rw len at c.if-is_empty.ensures))

pub returns-else-is_empty-clause-read : goal.returns-else-is_empty-clause-read
unfolding tallies_in
returns-else-is_empty-clause-read c =
    let items = c.loop-lines.tallies.items in
    let len = c.loop-lines.tallies.ok.0 in
    ap if_some (all_read c.args.text.now items c.loop-lines.lines c.loop-lines.invariant.0 (empty c.loop-lines.lines.text.now c.loop-lines-test.ensures))
    ∙ some_given items (positive (length items) (rw len at c.if-is_empty.ensures))

pub returns-in_err-range-clause-memory : goal.returns-in_err-range-clause-memory
returns-in_err-range-clause-memory c = λ _.
    let some = positive (length c.loop-lines.lines.text.now) c.loop-lines-test.ensures in
    omega (arith, some, c.loop-lines.invariant.2)

pub returns-in_err-push-clause-memory : goal.returns-in_err-push-clause-memory
returns-in_err-push-clause-memory c = λ _.
    let some = positive (length c.loop-lines.lines.text.now) c.loop-lines-test.ensures in
    omega (arith, some, c.loop-lines.invariant.2)
