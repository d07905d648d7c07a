use Rattle.pct_names.proofs.Names.{err_from_is_err_and}
use Rattle.pct_io.proofs.WritesInTurn.{Writes-then, Writes-fails}
use Rattle.pct_printer.proofs.printer.write_declarations.Goals as goal

pub returns-in_err-write_sems : goal.returns-in_err-write_sems
returns-in_err-write_sems g c =
    let p = err_from_is_err_and c.from_residual-in_err-write_sems.result c.from_residual-in_err-write_sems.ensures.1 in
    rw (p.1, ← c.as_slice.ensures) (Writes-fails _ (Writes-then _ c.in_ok-write_names.ensures c.in_err-write_sems.ensures))

pub returns : goal.returns
returns g c =
    rw (← c.as_slice.ensures, ← c.as_slice-2.ensures)
    (Writes-then _ (Writes-then _ c.in_ok-write_names.ensures c.in_ok-write_sems.ensures) c.write_names_of.ensures)
