use Rattle.pct_names.proofs.Names.{◌++◌, length, names_in, ◌≡◌}
use Rattle.pct_script_lines.proofs.symbols.names_in.Given as goal

abbrev pub invariant-loop-name : goal.invariant-loop-name
invariant-loop-name l = l.names.items ++ names_in l.rest ≡ names_in l.words

abbrev pub decreases-loop-name : goal.decreases-loop-name
decreases-loop-name l = length l.rest
