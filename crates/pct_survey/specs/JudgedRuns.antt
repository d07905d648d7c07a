-- The runs of a script under seeds, and which rules hold of each.
use Rattle.std.specs.Prelude.{◌≡◌, ℕ, Bool, List, length, map, reverse, Some}
use Rattle.std.specs.Bool.{Decides}
use Rattle.std.specs.List.{AllZip}
use Rattle.pct_expect.specs.declared.rule.Rule.{Rule}
use Rattle.pct_expect.specs.Answers.{Holds}
use Rattle.pct_model.specs.declared.schedule.Config.{Config}
use Rattle.pct_model.specs.declared.schedule.Entry.{Entry}
use Rattle.pct_model.specs.declared.script.Script.{Script}
use Rattle.pct_model.specs.Report.{event_line}
use Rattle.pct_model.specs.Run.{Run, run, verdict_of}
use Rattle.pct_scheduled_run.specs.SeedSchedules.{SeedSchedule}
use Rattle.pct_survey.specs.declared.judging.JudgedRun.{JudgedRun}

-- the events of a run, in order, each as the words of its line in the report
abbrev pub events_of : Script → Run → List (List (List ℕ))
events_of script after = map (event_line script) (reverse after.events)

-- for each rule, in order, whether it holds of the events
abbrev pub AreHeld : List (List (List ℕ)) → List Rule → List Bool → Type 0
AreHeld events rules held = AllZip (λ rule h. Decides h (Holds rule events)) rules held

-- what is kept of the run of a script under a seed. Its schedule is that of the seed, for one worker, which is not out of turns before the run is out of
-- budget
pub record IsJudgedRun (script : Script) (config : Config) (rules : List Rule) (seed : ℕ) (r : JudgedRun) : Type 0 where
  pub seed_is : r.seed ≡ seed
  pub entries : List Entry
  pub scheduled : SeedSchedule script config seed config.budget entries
  pub after : Run
  pub is_run : run script config entries ≡ Some after
  pub verdict_is : r.verdict ≡ verdict_of script config after.world (length entries)
  pub held : AreHeld (events_of script after) rules r.held
