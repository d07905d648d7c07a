use Rattle.pct_names.proofs.Names.{all_different, length, names_in, ◌≡◌}
use Rattle.pct_script_lines.proofs.symbols.all_different.Given as goal

abbrev pub invariant-loop-name : goal.invariant-loop-name
invariant-loop-name l = all_different (names_in l.rest) ≡ all_different (names_in l.words)

abbrev pub decreases-loop-name : goal.decreases-loop-name
decreases-loop-name l = length l.rest
