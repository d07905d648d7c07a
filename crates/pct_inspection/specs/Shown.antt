-- What the functions below `inspect` promise of the views.
use Rattle.std.specs.Prelude.{◌≡◌, ℕ, List, [], ◌++◌, length, Option, Some}
use Rattle.pct_model.specs.declared.schedule.Config.{Config}
use Rattle.pct_model.specs.declared.schedule.Entry.{Entry}
use Rattle.pct_model.specs.declared.script.Script.{Script}
use Rattle.pct_model.specs.declared.stop.Verdict.{Verdict}
use Rattle.pct_model.specs.Run.{Run, run, verdict_of}
use Rattle.pct_command.specs.Answer.{status_of_verdict}
use Rattle.pct_engine.specs.EngineStates.{EngineValue, IsRunOf}
use Rattle.pct_history.specs.Replays.{Follows}
use Rattle.pct_view_texts.specs.Choices.{choices_text}
use Rattle.pct_view_texts.specs.States.{states_text}
use Rattle.pct_view_texts.specs.Trace.{trace_text}
use Rattle.pct_inspection.specs.declared.answer.Answer.{Answer}
use Rattle.pct_inspection.specs.declared.words.Form.{Form}
use Rattle.pct_inspection.specs.declared.words.Form.TheVariants as form
use Rattle.pct_inspection.specs.declared.words.View.{View}
use Rattle.pct_inspection.specs.declared.words.View.TheVariants as view
use Rattle.pct_inspection.specs.Answer.{status_by, status_of_answer, text_of_answer}
use Rattle.pct_inspection.specs.Inspection.{notice}

-- the verdict of the run of an engine
abbrev pub verdict_after : EngineValue → Run → Verdict
verdict_after engine after = verdict_of engine.script engine.config after.world (length engine.history)

-- what a view shows of the state after the run of an engine: a view of the steps shows nothing of it
abbrev pub state_text : View → List (List ℕ) → EngineValue → Run → List ℕ
state_text view.Choices lines engine after = choices_text lines engine.script engine.config after.world (length engine.history)
state_text view.States lines engine after = states_text lines engine.script engine.config after.world (length engine.history)
state_text (view.Steps shown) lines engine after = []

-- the answer that shows this text of the state after the run of an engine that followed a prefix, and the notice
pub record ShowsState (shown : List ℕ) (engine : EngineValue) (after : Run) (illegal : Option ℕ) (a : Answer) : Type 0 where
  pub status_is : status_of_answer a ≡ status_by illegal (status_of_verdict (verdict_after engine after))
  pub text_is : text_of_answer a ≡ shown ++ notice illegal

-- the answer that shows a view of the state after the run of the entries of a prefix up to the first that is not legal, and the notice
pub record ShowsStateAfter (shown : View) (lines : List (List ℕ)) (script : Script) (config : Config) (entries : List Entry) (a : Answer) : Type 0 where
  pub illegal : Option ℕ
  pub engine : EngineValue
  pub follows : Follows script config entries engine illegal
  pub after : Run
  pub is_run : IsRunOf engine after
  pub shows : ShowsState (state_text shown lines engine after) engine after illegal a

-- the text of `trace` and the notice, and the verdict, of the run of the entries of a prefix up to the first that is not legal, which has this
-- number
pub record ShowsTrace (lines : List (List ℕ)) (script : Script) (config : Config) (entries : List Entry) (illegal : Option ℕ) (text : List ℕ) (v : Verdict) : Type 0 where
  pub engine : EngineValue
  pub follows : Follows script config entries engine illegal
  pub after : Run
  pub is_run : run engine.script engine.config engine.history ≡ Some after
  pub text_is : text ≡ trace_text lines engine.script engine.config engine.history after ++ notice illegal
  pub verdict_is : v ≡ verdict_after engine after

-- the answer that shows the steps of a text of `trace` in a form: its status is that of the verdict, and the text is kept unless it is drawn
pub record IsInForm (shown : Form) (illegal : Option ℕ) (text : List ℕ) (v : Verdict) (a : Answer) : Type 0 where
  pub status_is : status_of_answer a ≡ status_by illegal (status_of_verdict v)
  pub text_is : shown ≡ form.Trace → text_of_answer a ≡ text
