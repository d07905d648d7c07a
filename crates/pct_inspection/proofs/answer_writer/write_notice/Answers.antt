use Rattle.pct_io.proofs.WritesInTurn.{Writes-nothing}
use Rattle.pct_inspection.proofs.answer_writer.write_notice.Goals as goal

pub returns-in-None : goal.returns-in-None
returns-in-None g c = rw c.in-None.is (Writes-nothing _)

pub returns-in-Some : goal.returns-in-Some
returns-in-Some g c = rw c.in-Some.is (rw c.text.ensures at c.write_line.ensures)
