use Rattle.pct_names.proofs.Names.{map, take, ◌≡◌}
use Rattle.pct_survey.specs.MoreRuns.{ending_with}
use Rattle.pct_survey.proofs.counting.endings_with.Given as goal

abbrev pub invariant-loop-ending : goal.invariant-loop-ending
invariant-loop-ending l = l.counts.items ≡ map (ending_with l.runs) (take l.ending-index l.endings)
