use Rattle.pct_names.proofs.Names.{err_from_is_err_and}
use Rattle.pct_io.proofs.WritesInTurn.{Writes-then, Writes-fails}
use Rattle.pct_printer.proofs.printer.write_two_kinds.Goals as goal

pub returns-in_err-write_names_of : goal.returns-in_err-write_names_of
returns-in_err-write_names_of g c =
    let p = err_from_is_err_and c.from_residual.result c.from_residual.ensures.1 in
    rw (p.1, ← c.as_slice.ensures) (Writes-fails _ c.in_err-write_names_of.ensures)

pub returns : goal.returns
returns g c = rw (← c.as_slice.ensures, ← c.as_slice-2.ensures) (Writes-then _ c.in_ok-write_names_of.ensures c.write_names_of-2.ensures)
