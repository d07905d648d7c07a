-- A call suspends its thread for what the operands of the statement name; and a thread that does not run goes on by the events of its call
-- alone, which name what it was suspended for, or by those of a stage of its fork, its end or its exit.
use Rattle.pct_names.proofs.Names.{◌&&◌, [], and_from, body_at, Bool, Cause, cond, cond_timedwait_point, cond_wait_point, Config, EAGAIN}
use Rattle.pct_names.proofs.Names.{ECHILD, Entry, Environment, environment_of, ETIMEDOUT, false, false≢true, has_left_wait, has_valid_id}
use Rattle.pct_names.proofs.Names.{List, list_any, moved, named_after, nat_eq, next_of, NextStatement, not, own_after, Process, refl, Run}
use Rattle.pct_names.proofs.Names.{run, Script, SharedState, Some, Status, Stmt, subst, sym, Thread, thread_at, Transition, transition_by}
use Rattle.pct_names.proofs.Names.{true, value_of, What, ◌||◌, ℕ, ◌∷◌, ◌≡◌}
use Rattle.std.proofs.Common.{eq-eqb}
use Rattle.std.proofs.lemmas.Bool.{true≢false}
use Rattle.pct_model.specs.declared.event.What.TheVariants as what
use Rattle.pct_model.specs.declared.state.Cause.TheVariants as cause
use Rattle.pct_model.specs.declared.state.Status.TheVariants as status
use Rattle.pct_laws.specs.StatementLaw.{is_call, is_suspended_at, suspends_by_call, goes_on_by}
use Rattle.pct_transition_cases.proofs.TransitionCases.{TransitionCase, rests, join_begun, join_ended, point_begun, point_passed}
use Rattle.pct_transition_cases.proofs.TransitionCases.{is_wake_up, wait_begun, timed_wait_begun, wait_ended, timed_wait_ended}
use Rattle.pct_transition_cases.proofs.TransitionCases.{wait_expired, wait_timed_out, canceled_in_wait, canceled_after_wait}
use Rattle.pct_transition_cases.proofs.TransitionCases.{signal_handed_on, ended_in_wait, sem_wait_begun, timed_sem_wait_begun, sem_taken}
use Rattle.pct_transition_cases.proofs.TransitionCases.{timed_sem_taken, sem_wait_timed_out, waitpid_begun, child_reaped, child_lost}
use Rattle.pct_transition_cases.proofs.TransitionCases.{fork_handler_called, process_not_forked}
use Rattle.pct_thread_invariants.proofs.lift.EveryProcess.{moves_of_run}
use Rattle.pct_thread_invariants.proofs.lift.HandlerEvents.{of_each_phase}
use Rattle.pct_thread_invariants.proofs.lift.TakenSteps.{IsTaken}
use Rattle.pct_thread_invariants.proofs.lift.ThreadsAfter.{Moves, mover}
use Rattle.pct_thread_invariants.proofs.lift.MovedThreads.{EveryStep, step_of, case_of_step, every_step}
use Rattle.pct_frame_laws.proofs.frames.FrameCases.{is_idle}
use Rattle.pct_ending_laws.proofs.steps.MadeStages.{never_idle}

pub same : (n : ℕ) → nat_eq n n ≡ true
same n = eq-eqb n n refl

pub both_same : (m n : ℕ) → nat_eq m m && nat_eq n n ≡ true
both_same m n = and_from (nat_eq m m) (nat_eq n n) (same m) (same n)

-- a thread that was unblocked by a signal or a broadcast returns from its call
returned : (point c m : ℕ) (why : Cause) → (nat_eq point cond_wait_point || nat_eq point cond_timedwait_point) ≡ true → is_wake_up why ≡ true → goes_on_by (status.Reacquire c m why) (what.Acquired m ∷ what.Done point ∷ []) ≡ true
returned point c m cause.Signalled waits is = and_from (nat_eq m m) _ (same m) waits
returned point c m cause.Broadcast waits is = and_from (nat_eq m m) _ (same m) waits
returned point c m _ waits is = absurd (false≢true is)

-- and one that did not act upon a request in its wait acts upon one

left : (c m : ℕ) (why : Cause) → has_left_wait (status.Reacquire c m why) ≡ false → goes_on_by (status.Reacquire c m why) (what.WaitCanceled c ∷ []) ≡ true
left c m cause.Signalled stays = same c
left c m cause.Broadcast stays = same c
left c m cause.TimedOut stays = same c
left c m cause.Canceled stays = absurd (true≢false stays)

module _ (passes : ℕ) (body : List Stmt) (shared : SharedState) (t : Thread) (environment : Environment) where
  -- the status of the thread after its transition
  abbrev status_after : Transition → Status
  status_after o = (named_after o.named (moved o t)).status

  -- a call suspends the thread at its statement
  case_suspends : {next : NextStatement} {s : Status} {o : Transition} → TransitionCase passes body shared t environment true next s o → (not (list_any is_call o.events) || is_suspended_at shared.globals next (status_after o)) ≡ true
  unfolding thread_at own_after named_after
  case_suspends (join_begun frame id d target is other joinable alone unasked) = same (value_of shared.globals frame id)
  case_suspends (point_begun frame index required unasked) = same index
  case_suspends (wait_begun frame c m owns one unasked) = both_same c m
  case_suspends (timed_wait_begun frame result c m owns one unasked) = both_same c m
  case_suspends (sem_wait_begun frame sem unasked) = same sem
  case_suspends (timed_sem_wait_begun frame result sem unasked) = same sem
  case_suspends (waitpid_begun frame result d pid unasked) = same (value_of shared.globals frame pid)
  case_suspends {next} (fork_handler_called _ at call is) =
      of_each_phase (λ (w : What). (not (list_any is_call (w ∷ [])) || is_suspended_at shared.globals next status.Running) ≡ true) call.func refl refl refl at.phase
  case_suspends _ = refl

  -- a thread that does not run goes on by its events
  case_continues : {next : NextStatement} {s : Status} {o : Transition} → TransitionCase passes body shared t environment true next s o → is_idle o ≡ false → goes_on_by s o.events ≡ true
  case_continues (rests next s alive) some = absurd (true≢false some)
  case_continues (join_ended frame operand d id v target is ended) some = same id
  case_continues (point_passed frame index i) some = same index
  case_continues (wait_ended frame d n c m why woken free) some = returned cond_wait_point c m why refl woken
  case_continues (timed_wait_ended frame result d n c m why woken free) some = returned cond_timedwait_point c m why refl woken
  case_continues (wait_expired next c m timed) some = same c
  case_continues (wait_timed_out frame result d n c m free) some = both_same m ETIMEDOUT
  case_continues (canceled_in_wait next c m asked) some = same c
  case_continues (canceled_after_wait next c m why stays asked) some = left c m why stays
  case_continues (signal_handed_on next c m u asked among) some = both_same c c
  case_continues (ended_in_wait next c m free) some = and_from (nat_eq m m && nat_eq c c) (nat_eq m m) (both_same m c) (same m)
  case_continues (sem_taken frame n sem above) some = same sem
  case_continues (timed_sem_taken frame result n sem above) some = same sem
  case_continues (sem_wait_timed_out frame result n sem none) some = same ETIMEDOUT
  case_continues (child_reaped frame result d operand pid n child is ended) some = same pid
  case_continues (child_lost frame result d operand pid) some = same ECHILD
  case_continues (process_not_forked next at prepares) some = same EAGAIN
  case_continues (fork_handler_called _ at call is) some = of_each_phase (λ (w : What). goes_on_by (status.Forking at) (w ∷ []) ≡ true) call.func refl refl refl at.phase
  case_continues _ some = refl

-- ---- each step of a run

module _ (script : Script) (config : Config) where
  -- so it is of the step of an entry that moves a thread
  suspends_of_step : (before : List Entry) (r : Run) → run script config before ≡ Some r → (e : Entry) (p : Process) (t : Thread) → IsTaken script config r.world e p t → suspends_by_call script (step_of script config r p e t) ≡ true
  suspends_of_step before r is e p t taken =
      let o : Transition = transition_by script config r.world p t e.alt in
      let moves : Moves script config r.world p e t = moves_of_run script config before r is e p t taken in
      let live : has_valid_id e.tid t ≡ true = (mover script config r.world p e t moves).valid in
      subst (λ (b : Bool). (not (list_any is_call o.events) || is_suspended_at p.shared.globals (next_of script t.frames) (named_after o.named (cond b (moved o t) t)).status) ≡ true) (sym live)
      (case_suspends config.passes (body_at script t.frames) p.shared t (environment_of config r.world p t.id) (case_of_step script config r.world p e t moves))

  continues_of_step : (before : List Entry) (r : Run) → run script config before ≡ Some r → (e : Entry) (p : Process) (t : Thread) → IsTaken script config r.world e p t
      → goes_on_by t.status (step_of script config r p e t).events ≡ true
  continues_of_step before r is e p t taken =
      case_continues config.passes (body_at script t.frames) p.shared t (environment_of config r.world p t.id)
      (case_of_step script config r.world p e t (moves_of_run script config before r is e p t taken)) (never_idle script config before r is e p t taken)

  -- each call suspends its thread for what its operands name
  pub suspends_of_run : EveryStep script config (λ s. suspends_by_call script s ≡ true)
  suspends_of_run = every_step script config (λ s. suspends_by_call script s ≡ true) suspends_of_step

  -- each thread that does not run goes on by its events
  pub continues_of_run : EveryStep script config (λ s. goes_on_by s.before.status s.events ≡ true)
  continues_of_run = every_step script config (λ s. goes_on_by s.before.status s.events ≡ true) continues_of_step
