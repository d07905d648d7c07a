-- The law that a script and a schedule form an input of `replay`, and that the input is split into them again.
use Rattle.std.specs.Prelude.{◌≡◌, ℕ, ◌≤◌, List, [], ◌∷◌, ◌++◌, length, Some, Ok, codes}
use Rattle.pct_model.specs.declared.script.Script.{Script}
use Rattle.pct_model.specs.declared.schedule.Config.{Config}
use Rattle.pct_model.specs.declared.schedule.Entry.{Entry}
use Rattle.pct_model.specs.declared.limits.TheConstants.{MAX_INPUT}
use Rattle.pct_model.specs.declared.keyword.Keyword.TheVariants as keyword
use Rattle.pct_model.specs.Keywords.{keyword_text, text_of}
use Rattle.pct_model.specs.Canon.{canon}
use Rattle.pct_model.specs.Report.{schedule_lines}
use Rattle.pct_model.specs.Run.{Run, run}
use Rattle.pct_model.specs.Schedule.{sched_of}
use Rattle.pct_model.specs.Outcome.{script_part, schedule_part}
use Rattle.pct_schedule.specs.Schedules.{IsSchedule}

-- the canonical text of a script, the line `%%`, and a text
unfoldable pub replay_input : Script → List ℕ → List ℕ
replay_input script text = canon script ++ (codes "%%\n" ++ text)

-- such an input is split into the canonical text of the script and the text
pub record IsSplit (script : Script) (text : List ℕ) : Type 0 where
  pub script_is : script_part (keyword_text keyword.Replay ∷ []) (replay_input script text) ≡ canon script
  pub text_is : schedule_part (replay_input script text) ≡ text

-- whatever the text is: a schedule, a whole report, or a text without a schedule
abbrev pub ReplayInputsAreSplit : Type 0
ReplayInputsAreSplit = (script : Script) (text : List ℕ) → IsSplit script text

-- the canonical text of a script, the line `%%`, and the text of a schedule
abbrev pub input_of : Script → Config → List Entry → List ℕ
input_of script config entries = replay_input script (text_of (schedule_lines config entries))

-- such an input is within the limit, its script is the canonical text, and its schedule is read from the text after the marker
pub record IsReplayInput (script : Script) (config : Config) (entries : List Entry) : Type 0 where
  pub script_is : script_part (keyword_text keyword.Replay ∷ []) (input_of script config entries) ≡ canon script
  pub schedule_is : sched_of (schedule_part (input_of script config entries)) ≡ Ok (config, entries)
  pub fits : length (input_of script config entries) ≤ MAX_INPUT

-- each script and each schedule have an input of `replay`
abbrev pub ReplayInputsExist : Type 0
ReplayInputsExist = (script : Script) (config : Config) (entries : List Entry) → IsSchedule config entries → IsReplayInput script config entries

-- so do each script and the schedule of a run of it
abbrev pub RunsHaveInputs : Type 0
RunsHaveInputs = (script : Script) (config : Config) (entries : List Entry) (after : Run) → run script config entries ≡ Some after → IsReplayInput script config entries

-- and each script and the schedule of a text, such as the report of a run
abbrev pub ReadSchedulesHaveInputs : Type 0
ReadSchedulesHaveInputs = (script : Script) (text : List ℕ) (config : Config) (entries : List Entry) → sched_of text ≡ Ok (config, entries) → IsReplayInput script config entries
