use Rattle.pct_names.proofs.Names.{arith, entry_line, err_from_is_err_and, line_text}
use Rattle.pct_io.proofs.WritesInTurn.{Writes-last, Writes-next, Writes-next_fails}
use Rattle.pct_schedule.proofs.writer.write_each.Goals as goal

pub loop-entry-preserved : goal.loop-entry-preserved
loop-entry-preserved g c = λ new r writes. c.loop-entry.invariant new r (Writes-next (λ e. line_text (entry_line e)) _ c.loop-entry.entry-index _ r (omega arith) c.in_ok-write_entry.ensures writes)

pub returns-in_err-write_entry : goal.returns-in_err-write_entry
returns-in_err-write_entry g c =
    let p = err_from_is_err_and c.from_residual.result c.from_residual.ensures.1 in
    rw p.1 (c.loop-entry.invariant _ _ (Writes-next_fails (λ e. line_text (entry_line e)) _ c.loop-entry.entry-index _ (omega arith) c.in_err-write_entry.ensures))

pub returns : goal.returns
returns g c = c.loop-entry.invariant _ _ (Writes-last (λ e. line_text (entry_line e)) _ c.loop-entry.entry-index _ (omega arith))
