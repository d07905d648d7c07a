-- The schedules of runs that workers make: which entries are those of which worker, and which words choose them.
use Rattle.std.specs.Prelude.{◌≡◌, ℕ, ◌+◌, ◌-◌, ◌<◌, ◌≤◌, List, ◌++◌, map, length, All}
use Rattle.pct_model.specs.declared.script.Script.{Script}
use Rattle.pct_model.specs.declared.schedule.Config.{Config}
use Rattle.pct_model.specs.declared.schedule.Entry.{Entry}
use Rattle.pct_model.specs.declared.run_options.RunOptions.{RunOptions}
use Rattle.pct_scheduled_run.specs.ScheduledRuns.{IsChosenAt, IsWholeRun}
use Rattle.pct_scheduled_run.specs.SeedSchedules.{SeedSchedule}
use Rattle.pct_scheduled_run.specs.Streams.{draws, stream_of}
use Rattle.pct_workers.specs.Work.{RiseWithin}
use Rattle.pct_shared.specs.Views.{places}

-- the entries of a worker: each has a turn of its own, from 1 to `turns`, and is chosen by the two words of this turn; the turns rise from
-- one entry to the next
pub record HasTurns (script : Script) (config : Config) (seed turns number : ℕ) (entries : List Entry) : Type 0 where
  pub at : List (ℕ × ℕ)
  pub places_are : map (λ pair. pair.0) at ≡ places number entries
  pub rise : RiseWithin 0 turns (map (λ pair. pair.1) at)
  pub few : length at ≤ turns
  pub chosen_each : All (λ pair. IsChosenAt (draws (stream_of seed number)) number script config entries pair.0 (pair.1 - 1)) at

-- the schedule of several workers: the first entries have their numbers, from 1 on, and each worker has its turns; the entries after them
-- have the number 0, which chooses each by two words of its own stream. With one worker it is the schedule of the seed
pub record WorkersSchedule (script : Script) (options : RunOptions) (entries : List Entry) : Type 0 where
  pub whole : IsWholeRun script options.config entries
  pub shared : List Entry
  pub alone : List Entry
  pub split : entries ≡ shared ++ alone
  pub numbers : All (λ e. (0 < e.worker) × (e.worker ≤ options.workers)) shared
  pub number_0 : All (λ e. e.worker ≡ 0) alone
  pub each : (number : ℕ) → 0 < number → number ≤ options.workers → HasTurns script options.config options.seed options.turns number entries
  pub finished : (k : ℕ) → length shared + k < length entries → IsChosenAt (draws (stream_of options.seed 0)) 0 script options.config entries (length shared + k) k
  pub lone : options.workers ≡ 1 → SeedSchedule script options.config options.seed options.turns entries
