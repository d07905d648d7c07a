-- Views are outcomes.
use Rattle.pct_names.proofs.Names.{◌++◌, ap, code_of_verdict, Config, Entry, Err, IfOk, inl, inr, List, None, Ok, Option, refl, Result}
use Rattle.pct_names.proofs.Names.{Run, run, Script, Some, subst, Verdict, ℕ, ◌∙◌, ◌≡◌, ◌⊎◌}
use Rattle.pct_script_lines.specs.StatementLines.{statement_lines}
use Rattle.pct_script_lines.proofs.StatementSpellings.{lines_spell}
use Rattle.pct_command.specs.Answer.{status_of_verdict}
use Rattle.pct_command.specs.Status.{code_of}
use Rattle.pct_command.proofs.Outcomes.{code-is}
use Rattle.pct_engine.specs.EngineStates.{EngineValue, IsRunOf}
use Rattle.pct_history.specs.Replays.{followed, Follows}
use Rattle.pct_view_laws.proofs.BlockedWaits.{blocked_threads_wait}
use Rattle.pct_view_laws.proofs.LegalListed.{legal_entries_listed}
use Rattle.pct_view_laws.proofs.TracedRuns.{traces_runs}
use Rattle.pct_view_texts.specs.Trace.{trace_text}
use Rattle.pct_inspection.specs.declared.answer.Answer.{Answer}
use Rattle.pct_inspection.specs.declared.words.Form.{Form}
use Rattle.pct_inspection.specs.declared.words.Form.TheVariants as form
use Rattle.pct_inspection.specs.declared.words.Inspection.TheVariants as inspection
use Rattle.pct_inspection.specs.declared.words.View.{View}
use Rattle.pct_inspection.specs.declared.words.View.TheVariants as view
use Rattle.pct_inspection.specs.Inputs.{script_in}
use Rattle.pct_inspection.specs.Inspection.{prefix_for, notice, code_by, FollowsPrefix, code_after, IsInspected}
use Rattle.pct_inspection.specs.Inspection as outcome
use Rattle.pct_inspection.specs.Answer.{code_of_answer, status_by, status_of_answer, text_of_answer, Answered, AsksFor, HasScript}
use Rattle.pct_inspection.specs.Shown.{IsInForm, ShowsState, ShowsStateAfter, ShowsTrace, state_text, verdict_after}

-- the code of a verdict, or that of a refused schedule
code_by_verdict : (illegal : Option ℕ) (v : Verdict) → code_of (status_by illegal (status_of_verdict v)) ≡ code_by illegal (code_of_verdict v)
code_by_verdict None v = code-is v
code_by_verdict (Some entry_number) v = refl

-- the state after the run of an engine that has followed the entries of a prefix is the state after the run of these entries
pub state-after : {E : Type 0} {script : Script} {config : Config} {entries : List Entry} {engine : EngineValue} {illegal : Option ℕ} (shown : View) (lines : List (List ℕ))
    → Follows script config entries engine illegal → (after : Run) → IsRunOf engine after → (r : Result Answer E)
    → IfOk r (ShowsState (state_text shown lines engine after) engine after illegal) → IfOk r (ShowsStateAfter shown lines script config entries)
state-after shown lines follows after is_run (Ok a) shows = record { illegal = _; engine = _; follows = follows; after = after; is_run = is_run; shows = shows }
state-after shown lines follows after is_run (Err e) shows = tt

module _ (words : List (List ℕ)) (input : List ℕ) (script : Script) (config : Config) (entries : List Entry) (has : HasScript input script) (read : prefix_for script input ≡ Ok (config, entries)) where
  module _ (engine : EngineValue) (illegal : Option ℕ) (follows : Follows script config entries engine illegal) (after : Run) (is_run : IsRunOf engine after) where
    run_followed : run script config (followed illegal entries) ≡ Some after
    run_followed = subst (λ (e : EngineValue). IsRunOf e after) follows.engine_is is_run

    -- the prefix that an engine has followed
    abbrev prefix : FollowsPrefix input
    prefix = record {
      fits = has.fits;
      script = script;
      spelled = has.spelled;
      config = config;
      entries = entries;
      read = read;
      illegal = illegal;
      illegal_is = follows.illegal_is;
      after = after;
      is_run = run_followed;
    }

    -- an answer with the status of the run, if the text is in the lines of the input
    module _ (a : Answer) (status : status_of_answer a ≡ status_by illegal (status_of_verdict (verdict_after engine after))) (lines : List (List ℕ)) (of_input : lines ≡ statement_lines (script_in input)) where
      -- the code is that of the run
      code_is : code_of_answer a ≡ code_after prefix
      code_is =
          ap code_of status
          ∙ code_by_verdict illegal (verdict_after engine after)
          ∙ ap (λ (e : EngineValue). code_by illegal (code_of_verdict (verdict_after e after))) follows.engine_is

      -- a text of the run is that of the entries, with the lines of the input
      text_followed : (text_of : List (List ℕ) → EngineValue → List ℕ) → text_of_answer a ≡ text_of lines engine ++ notice illegal
          → text_of_answer a ≡ text_of (statement_lines (script_in input)) (record { script = script; config = config; history = followed illegal entries }) ++ notice illegal
      text_followed text_of is =
          is
          ∙ ap (λ (e : EngineValue). text_of lines e ++ notice illegal) follows.engine_is
          ∙ ap (λ (ls : List (List ℕ)). text_of ls (record { script = script; config = config; history = followed illegal entries }) ++ notice illegal) of_input

      -- `choices` and `states`
      state_listed : (shown : View) → ((shown ≡ view.Choices) ⊎ (shown ≡ view.States)) → AsksFor words (inspection.Show shown) → text_of_answer a ≡ state_text shown lines engine after ++ notice illegal
          → IsInspected words input (code_of_answer a) (text_of_answer a)
      state_listed view.Choices of_state asked text_is = outcome.Listed (record {
        asked = asked;
        prefix = prefix;
        code_is = code_is;
        text_is = text_followed (λ ls e. state_text view.Choices ls e after) text_is;
        entries_are = legal_entries_listed script config (followed illegal entries) after run_followed;
        waits_are = λ l listed. blocked_threads_wait script config (followed illegal entries) after l run_followed listed;
        lines_are = λ func pc f s at here. lines_spell (script_in input) script has.spelled func pc f s at here;
      })
      state_listed view.States of_state asked text_is = outcome.Valued (record {
        asked = asked;
        prefix = prefix;
        code_is = code_is;
        text_is = text_followed (λ ls e. state_text view.States ls e after) text_is;
        lines_are = λ func pc f s at here. lines_spell (script_in input) script has.spelled func pc f s at here;
      })
      state_listed (view.Steps shown_form) of_state asked text_is = elim of_state [
        | inl is ↦ absurd cc
        | inr is ↦ absurd cc
      ]

      -- `trace`, and the drawings
      steps_shown : (shown : Form) → AsksFor words (inspection.Show (view.Steps shown)) → (shown ≡ form.Trace → text_of_answer a ≡ trace_text lines engine.script engine.config engine.history after ++ notice illegal)
          → IsInspected words input (code_of_answer a) (text_of_answer a)
      steps_shown form.Trace asked text_is = outcome.Traced (record {
        asked = asked;
        prefix = prefix;
        code_is = code_is;
        text_is = text_followed (λ ls e. trace_text ls e.script e.config e.history after) (text_is refl);
        steps_are = traces_runs script config (followed illegal entries) after run_followed;
        lines_are = λ func pc f s at here. lines_spell (script_in input) script has.spelled func pc f s at here;
      })
      steps_shown form.Lanes asked text_is = outcome.Drawn (record { shown = form.Lanes; drawn = refl; asked = asked; prefix = prefix; code_is = code_is })
      steps_shown form.Picture asked text_is = outcome.Drawn (record { shown = form.Picture; drawn = refl; asked = asked; prefix = prefix; code_is = code_is })

  -- the answer of a view of the state, unless memory ran out
  pub state-answered : {E : Type 0} (lines : List (List ℕ)) (shown : View) (r : Result Answer E)
      → lines ≡ statement_lines (script_in input) → ((shown ≡ view.Choices) ⊎ (shown ≡ view.States))
      → AsksFor words (inspection.Show shown) → IfOk r (ShowsStateAfter shown lines script config entries) → Answered words input r
  state-answered lines shown (Ok a) of_input of_state asked shows = state_listed shows.engine shows.illegal shows.follows shows.after shows.is_run a shows.shows.status_is lines of_input shown of_state asked shows.shows.text_is
  state-answered lines shown (Err e) of_input of_state asked shows = tt

  -- the answer that shows the steps in a form, unless memory ran out
  pub steps-answered : {E : Type 0} (shown : Form) (illegal : Option ℕ) (lines : List (List ℕ)) (text : List ℕ) (v : Verdict) (r : Result Answer E)
      → AsksFor words (inspection.Show (view.Steps shown)) → lines ≡ statement_lines (script_in input)
      → ShowsTrace lines script config entries illegal text v → IfOk r (IsInForm shown illegal text v) → Answered words input r
  steps-answered shown illegal lines text v (Ok a) asked of_input shows in_form =
      steps_shown shows.engine illegal shows.follows shows.after shows.is_run a (in_form.status_is ∙ ap (λ (w : Verdict). status_by illegal (status_of_verdict w)) shows.verdict_is) lines of_input shown asked
      (λ is. in_form.text_is is ∙ shows.text_is)
  steps-answered shown illegal lines text v (Err e) asked of_input shows in_form = tt
