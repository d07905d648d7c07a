use Rattle.pct_io.proofs.WritesInTurn.{Writes-then}
use Rattle.pct_printer.proofs.printer.write_encoded.Goals as goal

pub returns : goal.returns
returns g c = rw (← c.line_kind-line_kind.ensures, ← c.arguments.ensures) (Writes-then _ c.in_ok-write_first_word.ensures c.write_arguments.ensures)
