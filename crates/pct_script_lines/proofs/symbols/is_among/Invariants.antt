use Rattle.pct_names.proofs.Names.{bytes_eq, length, list_any, names_in, ◌≡◌}
use Rattle.pct_script_lines.proofs.symbols.is_among.Given as goal

abbrev pub invariant-loop-other : goal.invariant-loop-other
invariant-loop-other l = list_any (bytes_eq l.name) (names_in l.rest) ≡ list_any (bytes_eq l.name) (names_in l.words)

abbrev pub decreases-loop-other : goal.decreases-loop-other
decreases-loop-other l = length l.rest
