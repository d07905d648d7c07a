-- The law of thread-specific data: each key whose value is set or read was made in the process, and not deleted since.
use Rattle.pct_names.proofs.Names.{acts_on_request, acts_or, Alt, body_at, Config, Entry, Environment, environment_of, Event, false, Frame}
use Rattle.pct_names.proofs.Names.{is_none, is_some, Key, key_with, List, next_of, NextStatement, None, NoStatement, Option, or_right}
use Rattle.pct_names.proofs.Names.{Process, refl, Run, run, runs, Script, SharedState, Some, StatementIn, Status, Stmt, stop_at, stops_of}
use Rattle.pct_names.proofs.Names.{stops_or, subst, sym, Thread, Transition, transition_at, transition_by, true, value_of, Why, ◌||◌, ℕ}
use Rattle.pct_names.proofs.Names.{◌∙◌, ◌≡◌}
use Rattle.std.proofs.lemmas.Bool.{true≢false}
use Rattle.pct_model.specs.declared.schedule.Alt.TheVariants as alt
use Rattle.pct_model.specs.declared.state.Status.TheVariants as status
use Rattle.pct_model.specs.declared.statement.Stmt.TheVariants as statement
use Rattle.pct_laws.specs.CancelLaw.{is_running, acts_or_stops}
use Rattle.pct_laws.specs.KeyEvents.{has_key}
use Rattle.pct_laws.specs.ValueLaw.{names_a_key, uses_a_key}
use Rattle.pct_transition_cases.proofs.CaseOfTransition.{no_stops}
use Rattle.pct_thread_invariants.proofs.lift.EveryProcess.{process_taken}
use Rattle.pct_thread_invariants.proofs.lift.TakenSteps.{IsTaken}
use Rattle.pct_cancel_laws.proofs.requests.ActingCalls.{its_status}
use Rattle.pct_ending_laws.proofs.KeyEvents.{key_events_of_run}
use Rattle.pct_ending_laws.proofs.results.SetValues.{if_runs}
use Rattle.pct_thread_invariants.proofs.lift.MovedThreads.{EveryStep, step_of, every_step}

module _ (passes : ℕ) (body : List Stmt) (shared : SharedState) (t : Thread) (environment : Environment) where
  module _ (pid : ℕ) (earlier : List Event) (reported : (key : ℕ) → is_some (key_with key shared.keys) ≡ has_key pid key earlier) where
    -- a key that is there was made and not deleted
    was_made : (k : ℕ) → (is_none (key_with k shared.keys) || false) ≡ false → has_key pid k earlier ≡ true
    was_made k there = sym (reported k) ∙ by_found (key_with k shared.keys) there
      where
        by_found : (found : Option Key) → (is_none found || false) ≡ false → is_some found ≡ true
        by_found None there = absurd (true≢false there)
        by_found (Some key) there = refl

    -- so was that of a statement that is no stop
    used_key : (frame : Frame) (s : Stmt) → stop_at body shared t environment frame s ≡ None → names_a_key shared.globals pid earlier (StatementIn frame s) ≡ true
    unfolding stops_of
    used_key frame (statement.SetSpecific key v) none = was_made (value_of shared.globals frame key) (no_stops body shared t environment frame (statement.SetSpecific key v) none).1.1
    used_key frame (statement.GetSpecific d key) none = was_made (value_of shared.globals frame key) (no_stops body shared t environment frame (statement.GetSpecific d key) none).1.1
    used_key frame _ none = refl

    unless_stopped : (frame : Frame) (s : Stmt) (other : Transition) (stop : Option Why) → stop_at body shared t environment frame s ≡ stop
        → (acts_or_stops (stops_or stop other).events || names_a_key shared.globals pid earlier (StatementIn frame s)) ≡ true
    unless_stopped frame s other (Some why) is = refl
    unless_stopped frame s other None is = or_right (acts_or_stops other.events) (names_a_key shared.globals pid earlier (StatementIn frame s)) (used_key frame s is)

    -- a running thread, by a choice
    abbrev Uses : Alt → NextStatement → Status → Type 0
    Uses choice next s = (acts_or_stops (acts_or choice s (transition_at passes body shared t environment choice next s)).events || names_a_key shared.globals pid earlier next) ≡ true

    running_uses : (choice : Alt) (next : NextStatement) → Uses choice next status.Running
    unfolding transition_at acts_on_request
    running_uses (alt.Act n) next = refl
    running_uses choice NoStatement = refl
    running_uses choice (StatementIn frame s) = unless_stopped frame s (runs passes body shared t environment choice frame s) (stop_at body shared t environment frame s) refl

-- ---- each step of a run

module _ (script : Script) (config : Config) where
  -- so it is of the step of an entry that moves a thread
  uses_of_step : (before : List Entry) (r : Run) → run script config before ≡ Some r → (e : Entry) (p : Process) (t : Thread)
      → IsTaken script config r.world e p t → uses_a_key script (step_of script config r p e t) ≡ true
  uses_of_step before r is e p t taken =
      let body : List Stmt = body_at script t.frames in
      let environment : Environment = environment_of config r.world p t.id in
      let next : NextStatement = next_of script t.frames in
      let reported : (key : ℕ) → is_some (key_with key p.shared.keys) ≡ has_key e.pid key r.events = key_events_of_run script config before r is e.pid p (process_taken script config before r is e p t taken) in
      if_runs (is_running t.status) (acts_or_stops (transition_by script config r.world p t e.alt).events) (names_a_key p.shared.globals e.pid r.events next) (λ running.
      subst (Uses config.passes body p.shared t environment e.pid r.events reported e.alt next) (sym (its_status t.status running)) (running_uses config.passes body p.shared t environment e.pid r.events reported e.alt next))

  -- each key of a pthread_setspecific or pthread_getspecific of a run was made and not deleted
  pub uses_of_run : EveryStep script config (λ s. uses_a_key script s ≡ true)
  uses_of_run = every_step script config (λ s. uses_a_key script s ≡ true) uses_of_step
