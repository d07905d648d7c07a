use Rattle.pct_expect.proofs.SpelledLines.{from_first_line}
use Rattle.pct_expect.proofs.spelled_lines.SpelledLines.of.Goals as goal

pub returns : goal.returns
returns c = from_first_line c.args.text.now
