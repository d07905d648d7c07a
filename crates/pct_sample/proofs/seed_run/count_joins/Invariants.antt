use Rattle.std.proofs.Common.{◌≡◌, take}
use Rattle.std.specs.Prelude.{count_by}
use Rattle.pct_sample.specs.SeedRuns.{is_canceled, is_joined}
use Rattle.pct_sample.proofs.seed_run.count_joins.Given as goal

abbrev pub invariant-loop-event : goal.invariant-loop-event
invariant-loop-event l = record {
  joined : l.joined ≡ count_by is_joined (take l.event-index l.events);
  canceled : l.canceled ≡ count_by is_canceled (take l.event-index l.events);
}
