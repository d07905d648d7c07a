-- A step leaves its thread the cancelability state and type that its events say.
use Rattle.pct_names.proofs.Names.{ap, body_at, Bool, cond, Config, Entry, Environment, environment_of, false, has_valid_id, List, Mode}
use Rattle.pct_names.proofs.Names.{moved, NextStatement, own_after, Process, refl, Run, run, Script, SharedState, Some, State, Status, Stmt}
use Rattle.pct_names.proofs.Names.{Thread, thread_at, thread_moved, Transition, transition_by, true, What, ℕ, ◌∙◌, ◌≡◌}
use Rattle.pct_laws.specs.AfterAll.{after_all}
use Rattle.pct_laws.specs.CancelLaw.{mode_after, SetsCancelability, state_after}
use Rattle.pct_transition_cases.proofs.TransitionCases.{TransitionCase, fork_handler_called, mode_set, state_set}
use Rattle.pct_thread_invariants.proofs.lift.ChangedThreads.{named_keeps}
use Rattle.pct_thread_invariants.proofs.lift.EveryProcess.{moves_of_run}
use Rattle.pct_thread_invariants.proofs.lift.HandlerEvents.{of_each_phase}
use Rattle.pct_thread_invariants.proofs.lift.MovedThreads.{EveryStep, step_of, case_of_step, every_step}
use Rattle.pct_thread_invariants.proofs.lift.TakenSteps.{IsTaken}
use Rattle.pct_thread_invariants.proofs.lift.ThreadsAfter.{Moves, mover}

-- the cancelability state and type of a thread
abbrev cancelability : Thread → State × Mode
cancelability t = (t.state, t.mode)

-- those of a thread that has these, after these events of its own
abbrev after_events : List What → State × Mode → State × Mode
after_events events c = (after_all state_after events c.0, after_all mode_after events c.1)

module _ (passes : ℕ) (body : List Stmt) (shared : SharedState) (t : Thread) (environment : Environment) where
  -- a transition leaves the thread those that its events say
  case_sets : {next : NextStatement} {s : Status} {o : Transition} → TransitionCase passes body shared t environment true next s o → cancelability (moved o t) ≡ after_events o.events (cancelability t)
  unfolding thread_at own_after
  case_sets (fork_handler_called next at call is) = of_each_phase (λ (w : What). cancelability t ≡ (state_after w t.state, mode_after w t.mode)) call.func refl refl refl at.phase
  case_sets (state_set frame true old allowed) = refl
  case_sets (state_set frame false old allowed) = refl
  case_sets (mode_set frame true old) = refl
  case_sets (mode_set frame false old) = refl
  case_sets _ = refl

-- ---- each step of a run

module _ (script : Script) (config : Config) where
  sets_of_step : (before : List Entry) (r : Run) → run script config before ≡ Some r → (e : Entry) (p : Process) (t : Thread) → IsTaken script config r.world e p t → SetsCancelability (step_of script config r p e t)
  sets_of_step before r is e p t taken =
      let o : Transition = transition_by script config r.world p t e.alt in
      let moves : Moves script config r.world p e t = moves_of_run script config before r is e p t taken in
      let live : has_valid_id e.tid t ≡ true = (mover script config r.world p e t moves).valid in
      let sets : cancelability (thread_moved e.tid o t) ≡ after_events o.events (cancelability t) =
      named_keeps cancelability (λ t j p d k s same. refl) o.named (cond (has_valid_id e.tid t) (moved o t) t)
      ∙ ap (λ (b : Bool). cancelability (cond b (moved o t) t)) live
      ∙ case_sets config.passes (body_at script t.frames) p.shared t (environment_of config r.world p t.id) (case_of_step script config r.world p e t moves) in
      record { state = ap (λ (c : State × Mode). c.0) sets; mode = ap (λ (c : State × Mode). c.1) sets }

  -- each step of every run sets the cancelability of its thread as its events say
  pub sets_cancelability_of_run : EveryStep script config SetsCancelability
  sets_cancelability_of_run = every_step script config SetsCancelability sets_of_step
