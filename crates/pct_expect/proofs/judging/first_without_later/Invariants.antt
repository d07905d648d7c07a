use Rattle.pct_names.proofs.Names.{length, ◌≤◌}
use Rattle.pct_expect.proofs.RuleFailures.{FoundAfter, NoneFrom}
use Rattle.pct_expect.proofs.judging.first_without_later.Given as goal

-- no event from this index on matches the second pattern
abbrev pub invariant-loop-index : goal.invariant-loop-index
invariant-loop-index l = record {
  within : l.index ≤ length l.events;
  found : FoundAfter l.rule l.events l.index l.found;
  none : NoneFrom l.rule.second l.events l.index;
}
