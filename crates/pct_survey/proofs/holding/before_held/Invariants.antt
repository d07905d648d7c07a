use Rattle.pct_survey.proofs.EventLines.{lines}
use Rattle.pct_expect.proofs.RuleFailures.{NoneBefore}
use Rattle.pct_survey.proofs.holding.before_held.Given as goal

-- no event so far matches one of the patterns
abbrev pub invariant-loop-index : goal.invariant-loop-index
invariant-loop-index l = record {
  no_first : NoneBefore l.rule.first (lines l.script l.events) l.index;
  no_second : NoneBefore l.rule.second (lines l.script l.events) l.index;
}
