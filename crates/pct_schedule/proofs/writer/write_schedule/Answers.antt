use Rattle.pct_names.proofs.Names.{err_from_is_err_and}
use Rattle.pct_io.proofs.WritesInTurn.{Writes-then, Writes-fails}
use Rattle.pct_schedule.proofs.ScheduleTexts.{schedule-text}
use Rattle.pct_schedule.proofs.writer.write_schedule.Goals as goal

pub returns-in_err-write_header : goal.returns-in_err-write_header
returns-in_err-write_header g c =
    let p = err_from_is_err_and c.from_residual.result c.from_residual.ensures.1 in
    rw (schedule-text c.args.config c.args.entries.now, p.1) (Writes-fails _ c.in_err-write_header.ensures)

pub returns : goal.returns
returns g c = rw (schedule-text c.args.config c.args.entries.now) (Writes-then _ c.in_ok-write_header.ensures c.write_list.ensures)
