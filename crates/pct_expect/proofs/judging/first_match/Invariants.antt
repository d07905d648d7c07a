use Rattle.pct_expect.proofs.RuleFailures.{NoneBefore}
use Rattle.pct_expect.proofs.judging.first_match.Given as goal

-- no event so far matches the pattern
abbrev pub invariant-loop-index : goal.invariant-loop-index
invariant-loop-index l = NoneBefore l.rule.first l.events l.index
