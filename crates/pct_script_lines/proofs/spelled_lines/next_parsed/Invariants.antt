use Rattle.pct_names.proofs.Names.{filter_map, length, parsed_numbered, ◌≡◌}
use Rattle.pct_script_lines.proofs.spelled_lines.next_parsed.Given as goal

abbrev pub invariant-loop-number : goal.invariant-loop-number
invariant-loop-number l = filter_map parsed_numbered l.fn.lines ≡ filter_map parsed_numbered l.lines

abbrev pub decreases-loop-number : goal.decreases-loop-number
decreases-loop-number l = length l.lines
