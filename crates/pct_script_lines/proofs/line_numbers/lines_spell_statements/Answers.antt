use Rattle.pct_script_lines.proofs.LineOrder.{lines_ascend}
use Rattle.pct_script_lines.proofs.StatementSpellings.{lines_spell, lines_of_statements}
use Rattle.pct_script_lines.proofs.line_numbers.lines_spell_statements.Goals as goal

pub returns-clause-spelled : goal.returns-clause-spelled
returns-clause-spelled c = lines_spell

pub returns-clause-only : goal.returns-clause-only
returns-clause-only c = lines_of_statements

pub returns-clause-order : goal.returns-clause-order
returns-clause-order c = lines_ascend
