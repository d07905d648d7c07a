use Rattle.pct_names.proofs.Names.{◌+◌, argument_kinds_in, drop, is_plain_function, length, list_all, plain_names, ◌≡◌, ◌≤◌}
use Rattle.pct_script_lines.proofs.plain_functions.names_other.Given as goal

abbrev pub invariant-loop-word : goal.invariant-loop-word
invariant-loop-word l = record { found : list_all (is_plain_function l.lines) (plain_names (drop l.at (argument_kinds_in l.line)) l.rest) ≡ list_all (is_plain_function l.lines) (plain_names (argument_kinds_in l.line) l.line.tokens); few : l.at + length l.rest ≤ length l.line.tokens }

abbrev pub decreases-loop-word : goal.decreases-loop-word
decreases-loop-word l = length l.rest
