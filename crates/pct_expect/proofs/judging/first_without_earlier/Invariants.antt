use Rattle.pct_expect.proofs.RuleFailures.{NoneBefore}
use Rattle.pct_expect.proofs.judging.first_without_earlier.Given as goal

-- no event so far matches one of the patterns
abbrev pub invariant-loop-index : goal.invariant-loop-index
invariant-loop-index l = record {
  no_first : NoneBefore l.rule.first l.events l.index;
  no_second : NoneBefore l.rule.second l.events l.index;
}
