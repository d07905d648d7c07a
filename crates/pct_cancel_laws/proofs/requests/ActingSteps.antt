-- A step that acts upon a request begins at a cancellation point, or with asynchronous cancelability, by the events before it.
use Rattle.pct_names.proofs.Names.{[], ap, ap₂, Asynchronous, body_at, Bool, Config, Entry, Environment, environment_of, false}
use Rattle.pct_names.proofs.Names.{is_at_cancellation_point, is_deliverable, List, list_any, next_of, NextStatement, not, or_left, or_right}
use Rattle.pct_names.proofs.Names.{Process, refl, Run, run, Script, SharedState, Some, Status, Stmt, Thread, Transition, true, What, ◌||◌}
use Rattle.pct_names.proofs.Names.{ℕ, ◌∙◌, ◌∷◌, ◌≡◌}
use Rattle.pct_laws.specs.CancelEvents.{is_asynchronous_last}
use Rattle.pct_laws.specs.CancelLaw.{is_cancellation, acts_where_it_may}
use Rattle.pct_laws.specs.ThreadSteps.{ThreadStep}
use Rattle.pct_transition_cases.proofs.TransitionCases.{TransitionCase, canceled, canceled_at_point, canceled_in_join, canceled_in_sem_wait}
use Rattle.pct_transition_cases.proofs.TransitionCases.{canceled_in_waitpid, canceled_in_wait, canceled_after_wait, signal_handed_on}
use Rattle.pct_transition_cases.proofs.TransitionCases.{fork_handler_called}
use Rattle.pct_thread_invariants.proofs.lift.EveryProcess.{moves_of_run}
use Rattle.pct_thread_invariants.proofs.lift.HandlerEvents.{of_each_phase}
use Rattle.pct_thread_invariants.proofs.lift.TakenSteps.{IsTaken}
use Rattle.pct_cancel_laws.proofs.requests.ActingThreads.{mover_asynchronous}
use Rattle.pct_thread_invariants.proofs.lift.MovedThreads.{EveryStep, step_of, case_of_step, every_step}

module _ (script : Script) (passes : ℕ) (body : List Stmt) (shared : SharedState) (environment : Environment) (step : ThreadStep)
    (asynchronous : is_deliverable step.before.state step.before.pending ≡ true → step.before.mode ≡ Asynchronous → is_asynchronous_last step.pid step.tid step.earlier ≡ true) where
  -- the thread may act where the step begins
  abbrev MayActHere : Type 0
  MayActHere = (is_at_cancellation_point (next_of script step.before.frames) step.before.status || is_asynchronous_last step.pid step.tid step.earlier) ≡ true

  -- so it is, if one of these events is that it acts
  abbrev ActsLawfully : List What → Type 0
  ActsLawfully events = (not (list_any is_cancellation events) || is_at_cancellation_point (next_of script step.before.frames) step.before.status || is_asynchronous_last step.pid step.tid step.earlier) ≡ true

  -- the thread of the step is suspended in a cancellation point
  suspended : {s : Status} → step.before.status ≡ s → is_at_cancellation_point (next_of script step.before.frames) s ≡ true → MayActHere
  suspended status_is at = or_left (is_at_cancellation_point (next_of script step.before.frames) step.before.status) _ (ap (is_at_cancellation_point (next_of script step.before.frames)) status_is ∙ at)

  -- or it acts at a point, or anywhere with asynchronous cancelability
  anywhere : (at : Bool) → is_at_cancellation_point (next_of script step.before.frames) step.before.status ≡ at → is_deliverable step.before.state step.before.pending ≡ true → (at ≡ false → step.before.mode ≡ Asynchronous) → MayActHere
  anywhere true at asked elsewhere = or_left (is_at_cancellation_point (next_of script step.before.frames) step.before.status) _ at
  anywhere false at asked elsewhere = or_right (is_at_cancellation_point (next_of script step.before.frames) step.before.status) _ (asynchronous asked (elsewhere refl))

  -- the step acts where it may, by the case of its transition
  case_acts : {next : NextStatement} {s : Status} {o : Transition} → next_of script step.before.frames ≡ next → step.before.status ≡ s → TransitionCase passes body shared step.before environment true next s o → ActsLawfully o.events
  case_acts next_is status_is (canceled next asked where_it_may) = anywhere _ (ap₂ is_at_cancellation_point next_is status_is) (asked refl) (where_it_may refl)
  case_acts next_is status_is (canceled_at_point next index asked) = suspended status_is refl
  case_acts next_is status_is (canceled_in_join next id asked) = suspended status_is refl
  case_acts next_is status_is (canceled_in_sem_wait next sem asked) = suspended status_is refl
  case_acts next_is status_is (canceled_in_waitpid next pid asked) = suspended status_is refl
  case_acts next_is status_is (canceled_in_wait next c m asked) = suspended status_is refl
  case_acts next_is status_is (canceled_after_wait next c m why stays asked) = suspended status_is refl
  case_acts next_is status_is (signal_handed_on next c m u asked among) = suspended status_is refl
  case_acts next_is status_is (fork_handler_called next at call handler) = of_each_phase (λ (w : What). ActsLawfully (w ∷ [])) call.func refl refl refl at.phase
  case_acts next_is status_is _ = refl

module _ (script : Script) (config : Config) where
  -- so it is of the step of an entry that moves a thread
  may_act_of_step : (before : List Entry) (r : Run) → run script config before ≡ Some r → (e : Entry) (p : Process) (t : Thread) → IsTaken script config r.world e p t → acts_where_it_may script (step_of script config r p e t) ≡ true
  may_act_of_step before r is e p t taken =
      case_acts script config.passes (body_at script t.frames) p.shared (environment_of config r.world p t.id) (step_of script config r p e t) (mover_asynchronous script config before r is e p t taken) refl refl
      (case_of_step script config r.world p e t (moves_of_run script config before r is e p t taken))

  -- each step of every run acts where it may
  pub each_may_act_of_run : EveryStep script config (λ s. acts_where_it_may script s ≡ true)
  each_may_act_of_run = every_step script config (λ s. acts_where_it_may script s ≡ true) may_act_of_step
