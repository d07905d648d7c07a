use Rattle.pct_names.proofs.Names.{map, take, ◌≡◌}
use Rattle.pct_tallies.specs.Sums.{no_runs}
use Rattle.pct_survey.proofs.counting.uncounted_rules.Given as goal

abbrev pub invariant-loop-rule : goal.invariant-loop-rule
invariant-loop-rule l = l.counts.items ≡ map (λ rule. record { line = rule.line; holds = no_runs; fails = no_runs }) (take l.rule-index l.rules)
