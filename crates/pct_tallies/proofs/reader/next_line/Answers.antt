use Rattle.std.proofs.Common.{ap, map}
use Rattle.pct_model.specs.Lines.{strip_cr}
use Rattle.pct_text.proofs.Lines.{lines_of-nil}
use Rattle.pct_tallies.proofs.reader.next_line.Goals as goal

pub returns-in-None : goal.returns-in-None
returns-in-None c = rw c.in-None.ensures (ap (map strip_cr) lines_of-nil)
