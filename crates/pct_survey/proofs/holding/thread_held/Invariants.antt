use Rattle.pct_names.proofs.Names.{length, None, ◌≤◌}
use Rattle.pct_expect.proofs.RuleFailures.{AreFollowed, FoundInThread}
use Rattle.pct_survey.proofs.EventLines.{lines}
use Rattle.pct_survey.proofs.holding.thread_held.Given as goal

-- the set has the threads with an event, from this index on, that matches the second pattern
abbrev pub invariant-loop-index : goal.invariant-loop-index
invariant-loop-index l = record {
  within : l.index ≤ length l.events;
  found : FoundInThread l.rule (lines l.script l.events) l.index None;
  followed : AreFollowed l.rule.second (lines l.script l.events) l.index l.followed;
}
