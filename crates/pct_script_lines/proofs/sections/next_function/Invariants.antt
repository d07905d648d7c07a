use Rattle.pct_names.proofs.Names.{[], functions_in, length, split_sections, ◌≡◌, ◌≤◌}
use Rattle.pct_script_lines.proofs.sections.next_function.Given as goal

abbrev pub invariant-loop-header : goal.invariant-loop-header
invariant-loop-header l = record { functions : functions_in l.rest ≡ functions_in l.lines; prefix : (split_sections l.rest).preamble ≡ []; short : length l.rest ≤ length l.lines }

abbrev pub decreases-loop-header : goal.decreases-loop-header
decreases-loop-header l = length l.rest
