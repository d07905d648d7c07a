use Rattle.pct_names.proofs.Names.{◌++◌, filter_map, length, parsed_numbered, ◌≡◌}
use Rattle.pct_script_lines.proofs.stored_lines.StoredLines.into_lines.Given as goal

abbrev pub invariant-loop-number : goal.invariant-loop-number
invariant-loop-number l = l.lines.items ++ filter_map parsed_numbered l.left ≡ l.fn.self

abbrev pub decreases-loop-number : goal.decreases-loop-number
decreases-loop-number l = length l.left
