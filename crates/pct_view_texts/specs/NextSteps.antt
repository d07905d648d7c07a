-- The next step of an engine, and the lines of its steps.
use Rattle.std.specs.Prelude.{◌≡◌, ℕ, List, [], ◌∷◌, ◌++◌, take}
use Rattle.pct_model.specs.declared.schedule.Entry.{Entry}
use Rattle.pct_engine.specs.EngineStates.{EngineValue, IsRunWith}
use Rattle.pct_view_laws.specs.TracedSteps.{steps_of}
use Rattle.pct_view_texts.specs.declared.text_buffer.TextBuffer.{TextBuffer}
use Rattle.pct_view_texts.specs.TextBuffers.{text_in}
use Rattle.pct_view_texts.specs.Trace.{steps_text_from}

-- the lines of the steps of an engine
abbrev pub steps_text : List (List ℕ) → EngineValue → List ℕ
steps_text lines engine = steps_text_from lines engine.script 1 (steps_of engine.script engine.config engine.history)

-- the step of an entry was made, and its line appended: a text that ended with the lines of the steps before ends with those up to this step
pub record MakesStep (lines : List (List ℕ)) (entry : Entry) (engine_before engine_after : EngineValue) (text_before text_after : TextBuffer) : Type 0 where
  pub legal : IsRunWith engine_before entry
  pub engine_is : engine_after ≡ record engine_before { history = engine_before.history ++ entry ∷ [] }
  pub text_is : (front : List ℕ) → text_in text_before ≡ front ++ steps_text lines engine_before → text_in text_after ≡ front ++ steps_text lines engine_after

-- with the entry the history is no run, and nothing was done
pub record RefusesStep (entry : Entry) (engine_before engine_after : EngineValue) (text_before text_after : TextBuffer) : Type 0 where
  pub illegal : ¬ IsRunWith engine_before entry
  pub engine_is : engine_after ≡ engine_before
  pub text_is : text_in text_after ≡ text_in text_before

-- the steps of some of the first of these entries were made
pub record MakesSomeOf (entries : List Entry) (engine_before engine_after : EngineValue) : Type 0 where
  pub count : ℕ
  pub engine_is : engine_after ≡ record engine_before { history = engine_before.history ++ take count entries }
