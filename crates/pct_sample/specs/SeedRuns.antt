-- The runs of a script under seeds, and what is counted of each.
use Rattle.std.specs.Prelude.{◌≡◌, ℕ, Bool, true, false, List, length, reverse, count_by, Some, nat_eq}
use Rattle.pct_model.specs.declared.event.Event.{Event}
use Rattle.pct_model.specs.declared.event.What.{What}
use Rattle.pct_model.specs.declared.event.What.TheVariants as what
use Rattle.pct_model.specs.declared.limits.TheConstants.{DEFAULT_BUDGET}
use Rattle.pct_model.specs.declared.numbers.TheConstants.{PTHREAD_CANCELED}
use Rattle.pct_model.specs.declared.schedule.Config.{Config}
use Rattle.pct_model.specs.declared.schedule.Entry.{Entry}
use Rattle.pct_model.specs.declared.script.Script.{Script}
use Rattle.pct_model.specs.Formats.{config_for}
use Rattle.pct_model.specs.Run.{Run, run, verdict_of}
use Rattle.pct_model.specs.RunOptions.{default_config}
use Rattle.pct_scheduled_run.specs.SeedSchedules.{SeedSchedule}
use Rattle.pct_tallies.specs.declared.seed_run.SeedRun.{SeedRun}

-- ---- what is counted

-- what happened is that a thread was joined
abbrev pub reports_join : What → Bool
reports_join (what.Joined id value) = true
reports_join _ = false

-- it is, and the value is that of a canceled thread
abbrev pub reports_canceled : What → Bool
reports_canceled (what.Joined id value) = nat_eq value PTHREAD_CANCELED
reports_canceled _ = false

-- the event is `joined`
abbrev pub is_joined : Event → Bool
is_joined e = reports_join e.what

-- the event is `joined`, with the value of a canceled thread
abbrev pub is_canceled : Event → Bool
is_canceled e = reports_canceled e.what

-- what is counted of the run of these entries
pub record IsSummaryOf (script : Script) (config : Config) (entries : List Entry) (after : Run) (r : SeedRun) : Type 0 where
  pub verdict : r.verdict ≡ verdict_of script config after.world (length entries)
  pub steps : r.steps ≡ length entries
  pub joined : r.joined ≡ count_by is_joined (reverse after.events)
  pub canceled : r.canceled ≡ count_by is_canceled (reverse after.events)

-- ---- the run of a seed

-- the configuration of the run of a seed: the default, with the format of the script
abbrev pub config_of : Script → Config
config_of script = config_for script default_config

-- a run of a script under a seed: its schedule is that of the seed, for one worker, which is not out of turns before the run is out of budget
pub record RunsUnder (script : Script) (seed : ℕ) (entries : List Entry) (after : Run) : Type 0 where
  pub scheduled : SeedSchedule script (config_of script) seed DEFAULT_BUDGET entries
  pub is_run : run script (config_of script) entries ≡ Some after

-- what is counted of the run of a script under a seed
pub record IsRunOfSeed (script : Script) (seed : ℕ) (r : SeedRun) : Type 0 where
  pub seed_is : r.seed ≡ seed
  pub entries : List Entry
  pub after : Run
  pub runs : RunsUnder script seed entries after
  pub counted : IsSummaryOf script (config_of script) entries after r
