use Rattle.pct_names.proofs.Names.{length, names_in, ◌≡◌, ◌≤◌}
use Rattle.pct_script_lines.proofs.symbols.next_name.Given as goal

abbrev pub invariant-loop-word : goal.invariant-loop-word
invariant-loop-word l = record { names : names_in l.rest ≡ names_in l.words; short : length l.rest ≤ length l.words }

abbrev pub decreases-loop-word : goal.decreases-loop-word
decreases-loop-word l = length l.rest
