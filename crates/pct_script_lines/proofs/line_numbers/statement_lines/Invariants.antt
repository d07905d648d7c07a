use Rattle.pct_names.proofs.Names.{filter_map, length, parsed_numbered, ◌≡◌}
use Rattle.pct_script_lines.specs.StatementLines.{statement_lines}
use Rattle.pct_script_lines.proofs.FunctionLines.{continued}
use Rattle.pct_script_lines.proofs.line_numbers.statement_lines.Given as goal

abbrev pub invariant-loop-numbers : goal.invariant-loop-numbers
invariant-loop-numbers l = statement_lines l.text ≡ continued l.functions.items l.numbers.items l.in_function (filter_map parsed_numbered l.left)

abbrev pub decreases-loop-numbers : goal.decreases-loop-numbers
decreases-loop-numbers l = length (filter_map parsed_numbered l.left)
