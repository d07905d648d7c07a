use Rattle.pct_names.proofs.Names.{◌++◌, length, names_declared, ◌≡◌}
use Rattle.pct_script_lines.proofs.symbols.names_declared.Given as goal

abbrev pub invariant-loop-name : goal.invariant-loop-name
invariant-loop-name l = l.names.items ++ names_declared l.rest l.kind ≡ names_declared l.lines l.kind

abbrev pub decreases-loop-name : goal.decreases-loop-name
decreases-loop-name l = length l.rest
