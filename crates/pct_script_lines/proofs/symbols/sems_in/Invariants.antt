use Rattle.pct_names.proofs.Names.{◌++◌, length, ◌≡◌}
use Rattle.pct_grammar.specs.Resolving.{sems_in}
use Rattle.pct_script_lines.proofs.symbols.sems_in.Given as goal

abbrev pub invariant-loop-line : goal.invariant-loop-line
invariant-loop-line l = l.sems.items ++ sems_in l.rest ≡ sems_in l.lines

abbrev pub decreases-loop-line : goal.decreases-loop-line
decreases-loop-line l = length l.rest
