use Rattle.pct_names.proofs.Names.{err_from_is_err_and, rules}
use Rattle.pct_io.proofs.BufferedWrites.{Writes-kept, Writes-through}
use Rattle.pct_report_audit.proofs.audit_text.write_audit.Goals as goal

pub returns-in_err-write_audit_line : goal.returns-in_err-write_audit_line
returns-in_err-write_audit_line g c =
    let p = err_from_is_err_and c.from_residual.result c.from_residual.ensures.1 in
    rw p.1 (Writes-through _ c.new-out.ensures.sink (search rules) c.new-out.ensures.buffer tt c.in_err-write_audit_line.ensures)

pub returns : goal.returns
returns g c =
    Writes-through c.flush.result c.new-out.ensures.sink (search rules) c.new-out.ensures.buffer c.flush.ensures.buffer
    (Writes-kept c.flush.result c.in_ok-write_audit_line.ensures c.flush.ensures.kept)
