use Rattle.pct_script_lines.proofs.TextSpelling.{from_first_line}
use Rattle.pct_script_lines.proofs.spelled_lines.SpelledLines.of.Goals as goal

pub returns : goal.returns
returns c = from_first_line c.args.text.now
