-- Runs that go on as a seed chooses.
use Rattle.std.specs.Prelude.{ℕ, List}
use Rattle.pct_model.specs.declared.script.Script.{Script}
use Rattle.pct_model.specs.declared.schedule.Config.{Config}
use Rattle.pct_model.specs.declared.schedule.Entry.{Entry}
use Rattle.pct_scheduled_run.specs.ScheduledRuns.{IsContinuedBy}
use Rattle.pct_scheduled_run.specs.Streams.{draws, stream_of}

-- the schedule that goes on from given entries as a seed chooses, by the words of worker 1
abbrev pub SeedContinuation : Script → Config → ℕ → List Entry → List Entry → Type 0
SeedContinuation script config seed begun entries = IsContinuedBy (draws (stream_of seed 1)) 1 script config begun entries
