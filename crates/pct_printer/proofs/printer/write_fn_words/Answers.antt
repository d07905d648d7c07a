use Rattle.pct_io.proofs.WritesInTurn.{Writes-then}
use Rattle.pct_printer.proofs.printer.write_fn_words.Goals as goal

pub returns : goal.returns
returns g c = rw (← c.as_slice.ensures) (Writes-then _ c.in_ok-write_fn.ensures c.write_spaced_names.ensures)
