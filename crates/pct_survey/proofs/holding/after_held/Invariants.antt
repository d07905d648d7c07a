use Rattle.pct_names.proofs.Names.{length, None, ◌≤◌}
use Rattle.pct_expect.proofs.RuleFailures.{FoundAfter, NoneFrom}
use Rattle.pct_survey.proofs.EventLines.{lines}
use Rattle.pct_survey.proofs.holding.after_held.Given as goal

-- no event from this index on matches one of the patterns
abbrev pub invariant-loop-index : goal.invariant-loop-index
invariant-loop-index l = record {
  within : l.index ≤ length l.events;
  found : FoundAfter l.rule (lines l.script l.events) l.index None;
  none : NoneFrom l.rule.second (lines l.script l.events) l.index;
}
