use Rattle.std.proofs.Common.{sym}
use Rattle.pct_tallies.proofs.CountTexts.{no_value}
use Rattle.pct_tallies.proofs.line.value_of.Goals as goal

pub returns-in-Err : goal.returns-in-Err
returns-in-Err c = sym (no_value c.args.word.now c.in-Err.ensures.cases.0)
