use Rattle.pct_names.proofs.Names.{enumerate_from, map, take, ◌≡◌}
use Rattle.pct_survey.specs.MoreRuns.{rule_with}
use Rattle.pct_survey.proofs.counting.rules_with.Given as goal

abbrev pub invariant-loop-index : goal.invariant-loop-index
invariant-loop-index l = l.counts.items ≡ map (rule_with l.runs) (enumerate_from 0 (take l.index l.rules))
