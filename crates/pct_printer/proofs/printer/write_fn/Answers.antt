use Rattle.pct_io.proofs.WritesInTurn.{Writes-then}
use Rattle.pct_printer.proofs.printer.write_fn.Goals as goal

pub returns : goal.returns
returns g c = rw (← c.keyword.ensures, ← c.as_bytes.ensures.bytes) (Writes-then _ c.in_ok-write_all.ensures c.write_spaced_field.ensures)
