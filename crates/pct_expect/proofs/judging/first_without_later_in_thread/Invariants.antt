use Rattle.pct_names.proofs.Names.{length, ◌≤◌}
use Rattle.pct_expect.proofs.RuleFailures.{AreFollowed, FoundInThread}
use Rattle.pct_expect.proofs.judging.first_without_later_in_thread.Given as goal

-- the set has the threads with an event, from this index on, that matches the second pattern
abbrev pub invariant-loop-index : goal.invariant-loop-index
invariant-loop-index l = record {
  within : l.index ≤ length l.events;
  found : FoundInThread l.rule l.events l.index l.found;
  followed : AreFollowed l.rule.second l.events l.index l.followed;
}
