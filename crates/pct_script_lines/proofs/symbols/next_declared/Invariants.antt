use Rattle.pct_names.proofs.Names.{length, names_declared, ◌≡◌, ◌≤◌}
use Rattle.pct_script_lines.proofs.symbols.next_declared.Given as goal

abbrev pub invariant-loop-line : goal.invariant-loop-line
invariant-loop-line l = record { names : names_declared l.rest l.kind ≡ names_declared l.lines l.kind; short : length l.rest ≤ length l.lines }

abbrev pub decreases-loop-line : goal.decreases-loop-line
decreases-loop-line l = length l.rest
