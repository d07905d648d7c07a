use Rattle.pct_names.proofs.Names.{map, take, ◌≡◌}
use Rattle.pct_tallies.specs.Sums.{no_runs}
use Rattle.pct_survey.proofs.counting.uncounted.Given as goal

abbrev pub invariant-loop-verdict : goal.invariant-loop-verdict
invariant-loop-verdict l = l.counts.items ≡ map (λ v. record { verdict = v; count = no_runs }) (take l.verdict-index l.verdicts)
