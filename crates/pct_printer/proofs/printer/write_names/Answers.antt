use Rattle.pct_io.proofs.WritesInTurn.{Writes-then}
use Rattle.pct_printer.proofs.printer.write_names.Goals as goal

pub returns : goal.returns
returns g c = rw (← c.as_slice.ensures) (Writes-then _ c.in_ok-write_two_kinds.ensures c.write_names_of.ensures)
