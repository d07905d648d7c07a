use Rattle.pct_names.proofs.Names.{length, map, string_bytes, ◌≡◌}
use Rattle.pct_options.specs.GivenValues.{none_given}
use Rattle.pct_options.proofs.GivenOptions.{run_with}
use Rattle.pct_options.proofs.reading.read_options.Given as goal

-- the values so far and the words that are left ask for the same run as all words
abbrev pub invariant-loop-rest : goal.invariant-loop-rest
invariant-loop-rest l = run_with l.given (map string_bytes l.rest) ≡ run_with none_given (map string_bytes l.words)

abbrev pub decreases-loop-rest : goal.decreases-loop-rest
decreases-loop-rest l = length l.rest
