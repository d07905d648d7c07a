use Rattle.pct_names.proofs.Names.{◌-◌, Entry, length, List, ◌≡◌}
use Rattle.pct_scheduled_run.specs.ScheduledRuns.{IsContinuedBy}
use Rattle.pct_scheduled_run.proofs.continuing.continue_run.Given as goal

-- a run that goes on from here goes on from the beginning
abbrev pub invariant-loop : goal.invariant-loop
invariant-loop g l = record {
  same : l.engine ≡ record l.initial.engine { history = l.engine.history };
  goes_on :
      (entries : List Entry) → IsContinuedBy (g.S.Scheduler.draws l.scheduler) l.worker l.engine.script l.engine.config l.engine.history entries
      → IsContinuedBy (g.S.Scheduler.draws l.initial.scheduler) l.worker l.initial.engine.script l.initial.engine.config l.initial.engine.history entries;
}

abbrev pub decreases-loop : goal.decreases-loop
decreases-loop g l = l.engine.config.budget - length l.engine.history
