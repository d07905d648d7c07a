-- The output of `trace`: a line for each step of a run, and the line of the verdict.
use Rattle.std.specs.Prelude.{ℕ, List, [], ◌∷◌, ◌++◌, length, map, flat_map, decimal}
use Rattle.std.specs.List.{enumerate_from}
use Rattle.std.specs.Option.{option_map_or}
use Rattle.pct_model.specs.declared.schedule.Config.{Config}
use Rattle.pct_model.specs.declared.schedule.Entry.{Entry}
use Rattle.pct_model.specs.declared.script.Script.{Script}
use Rattle.pct_model.specs.declared.state.Status.{Status}
use Rattle.pct_model.specs.declared.state.Status.TheVariants as status
use Rattle.pct_model.specs.EventTexts.{event_names, event_words}
use Rattle.pct_model.specs.Keywords.{line_text}
use Rattle.pct_model.specs.Report.{alt_words, thread_text, verdict_line}
use Rattle.pct_model.specs.Run.{Run, verdict_of}
use Rattle.pct_view_laws.specs.declared.position.StepStart.{StepStart}
use Rattle.pct_view_laws.specs.TracedSteps.{TracedStep, steps_of}
use Rattle.pct_view_texts.specs.Fields.{Phrase, fields_text, word_field}
use Rattle.pct_view_texts.specs.Positions.{is_timed_at, position_phrases, statement_phrases, status_phrases}

-- below, `lines` has the numbers of the lines of the script's statements
module _ (lines : List (List ℕ)) (script : Script) where
  -- where a step begins, by the status of its thread: the position of the thread if it is running, else the status
  abbrev pub start_phrases_by : Status → StepStart → List Phrase
  start_phrases_by status.Running start = position_phrases lines script start.position
  start_phrases_by s start = status_phrases script (is_timed_at script start.position) s

  -- where a step begins
  abbrev pub start_phrases : StepStart → List Phrase
  start_phrases start = start_phrases_by start.status start

  -- the fields of the step with a number: the number, `PID.TID`, where the step begins, the statement there, the choice, and the events
  unfoldable pub step_fields : ℕ → TracedStep → List (List Phrase)
  step_fields number s =
      word_field (decimal number)
      ∷ word_field (thread_text s.entry.pid s.entry.tid)
      ∷ option_map_or start_phrases s.start []
      ∷ option_map_or (λ start. statement_phrases script start.position) s.start []
      ∷ (alt_words s.entry.alt ∷ [])
      ∷ map (event_words (event_names script)) s.events
      ∷ []

  -- the lines of steps, which are numbered from this number on
  abbrev pub steps_text_from : ℕ → List TracedStep → List ℕ
  steps_text_from number steps = flat_map (λ numbered. fields_text (step_fields numbered.0 numbered.1)) (enumerate_from number steps)

  -- the output for a schedule that has this run
  unfoldable pub trace_text : Config → List Entry → Run → List ℕ
  trace_text config entries after =
      steps_text_from 1 (steps_of script config entries)
      ++ line_text (verdict_line (verdict_of script config after.world (length entries)))
