-- Each event that values are left is directly followed by the end of its thread: both are events of one step.
use Rattle.pct_names.proofs.Names.{[], body_at, Config, Environment, environment_of, false, false≢true, List, next_of, NextStatement, refl}
use Rattle.pct_names.proofs.Names.{reverse, Script, SharedState, Status, Stmt, Thread, Transition, transition_by, true, What, ℕ, ◌∷◌, ◌≡◌}
use Rattle.pct_laws.specs.Ends.{is_leftover}
use Rattle.pct_laws.specs.FollowedEvents.{are_followed}
use Rattle.pct_laws.specs.KnownThreads.{reports_end}
use Rattle.pct_transition_cases.proofs.CaseOfTransition.{case_of}
use Rattle.pct_transition_cases.proofs.TransitionCases.{TransitionCase, fork_handler_called}
use Rattle.pct_thread_invariants.proofs.lift.FollowedEvents.{step_follows, followed_later}
use Rattle.pct_thread_invariants.proofs.lift.HandlerEvents.{of_each_phase}
use Rattle.pct_thread_invariants.proofs.lift.TakenSteps.{AfterEveryRun, every_run}

module _ (passes : ℕ) (body : List Stmt) (shared : SharedState) (t : Thread) (environment : Environment) where
  -- the events of a transition, by its case
  case_follows : {next : NextStatement} {s : Status} {o : Transition} → TransitionCase passes body shared t environment false next s o → step_follows is_leftover reports_end (reverse o.events) ≡ true
  case_follows (fork_handler_called next at call is) = of_each_phase (λ (w : What). step_follows is_leftover reports_end (w ∷ []) ≡ true) call.func refl refl refl at.phase
  case_follows _ = refl

module _ (script : Script) (config : Config) where
  -- after every run, each event that values are left is directly followed by the end of its thread
  pub leftovers_of_run : AfterEveryRun script config (λ r. are_followed is_leftover reports_end r.events ≡ true)
  leftovers_of_run = every_run script config (λ r. are_followed is_leftover reports_end r.events ≡ true)
      (λ before r is e p t taken law.
      let environment : Environment = environment_of config r.world p t.id in
      followed_later is_leftover reports_end e r.events law (reverse (transition_by script config r.world p t e.alt).events)
      (case_follows config.passes (body_at script t.frames) p.shared t environment (case_of config.passes (body_at script t.frames) p.shared t environment false e.alt (next_of script t.frames) t.status (λ known. absurd (false≢true known))))) (λ some. refl)
