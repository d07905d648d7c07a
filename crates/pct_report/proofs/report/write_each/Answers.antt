use Rattle.pct_names.proofs.Names.{arith, err_from_is_err_and, event_line, line_text}
use Rattle.pct_io.proofs.WritesInTurn.{Writes-last, Writes-next, Writes-next_fails}
use Rattle.pct_report.proofs.report.write_each.Goals as goal

pub loop-event-preserved : goal.loop-event-preserved
loop-event-preserved g c = λ new r writes. c.loop-event.invariant new r (Writes-next (λ e. line_text (event_line c.args.script.now e)) _ c.loop-event.event-index _ r (omega arith) c.in_ok-write_event.ensures writes)

pub returns-in_err-write_event : goal.returns-in_err-write_event
returns-in_err-write_event g c =
    let p = err_from_is_err_and c.from_residual.result c.from_residual.ensures.1 in
    rw p.1 (c.loop-event.invariant _ _ (Writes-next_fails (λ e. line_text (event_line c.args.script.now e)) _ c.loop-event.event-index _ (omega arith) c.in_err-write_event.ensures))

pub returns : goal.returns
returns g c = c.loop-event.invariant _ _ (Writes-last (λ e. line_text (event_line c.args.script.now e)) _ c.loop-event.event-index _ (omega arith))
