-- What `judge_events` keeps in its loop.
use Rattle.std.specs.Prelude.{◌≡◌}
use Rattle.pct_audit.specs.AuditOf.{first_events}
use Rattle.pct_event_judge.specs.Findings.{AreFoundIn}
use Rattle.pct_event_judge.specs.Monitored.{AreMonitored, slots_in}
use Rattle.pct_event_judge.proofs.events.judge_events.Given as goal

abbrev pub invariant-loop-index : goal.invariant-loop-index
invariant-loop-index l = record {
  told : AreMonitored l.monitors (first_events l.index l.events);
  slots : slots_in l.monitors ≡ l.slots;
  found : AreFoundIn l.passes l.slots l.events l.index l.found;
}
