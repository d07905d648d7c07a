use Rattle.pct_names.proofs.Names.{length, ◌≡◌}
use Rattle.pct_script_lines.specs.DeclaredBefore.{declare_name}
use Rattle.pct_script_lines.proofs.duplicates.declare_name.Given as goal

abbrev pub invariant-loop-line : goal.invariant-loop-line
invariant-loop-line l = declare_name l.rest l.name ≡ declare_name l.lines l.name

abbrev pub decreases-loop-line : goal.decreases-loop-line
decreases-loop-line l = length l.rest
