use Rattle.pct_names.proofs.Names.{◌+◌, drop, fault_at_line, length, name_twice, NameTwice, take, ◌≡◌, ◌≤◌}
use Rattle.pct_script_lines.specs.DeclaredBefore.{first_twice}
use Rattle.pct_script_lines.proofs.duplicates.name_twice.Given as goal

abbrev pub invariant-loop-line : goal.invariant-loop-line
invariant-loop-line l = record { found : fault_at_line NameTwice (first_twice (take l.at l.lines) l.rest) ≡ name_twice l.lines; whole : drop l.at l.lines ≡ l.rest; few : l.at + length l.rest ≤ length l.lines }

abbrev pub decreases-loop-line : goal.decreases-loop-line
decreases-loop-line l = length l.rest
