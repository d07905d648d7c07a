-- The schedule of a seed.
use Rattle.std.specs.Prelude.{ℕ, ◌+◌, ◌<◌, List, length}
use Rattle.pct_model.specs.declared.script.Script.{Script}
use Rattle.pct_model.specs.declared.schedule.Config.{Config}
use Rattle.pct_model.specs.declared.schedule.Entry.{Entry}
use Rattle.pct_scheduled_run.specs.ScheduledRuns.{IsChosenAt, IsWholeRun}
use Rattle.pct_scheduled_run.specs.Streams.{draws, stream_of}

-- the schedule of a seed, for one worker with at most this many turns: worker 1 chooses the first entries, two words of its stream for
-- each, and the number 0 chooses those after them, by two words of its own stream
pub record SeedSchedule (script : Script) (config : Config) (seed turns : ℕ) (entries : List Entry) : Type 0 where
  pub whole : IsWholeRun script config entries
  pub worked : (k : ℕ) → k < length entries → k < turns → IsChosenAt (draws (stream_of seed 1)) 1 script config entries k k
  pub finished : (k : ℕ) → turns + k < length entries → IsChosenAt (draws (stream_of seed 0)) 0 script config entries (turns + k) k
