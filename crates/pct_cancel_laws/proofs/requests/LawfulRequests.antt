-- The events of every run keep the law of cancellation: a thread is canceled only by a request that came, with its cancelability enabled,
-- a thread that has to act upon a request calls no cancellation point, a thread returns from one after its call, and one that has begun to
-- end does not enable its cancelability.
use Rattle.pct_names.proofs.Names.{◌&&◌, ◌++◌, and_from, and_parts, ap, Bool, Cause, cond, Config, Disable, Enable, Entry, environment_of}
use Rattle.pct_names.proofs.Names.{Event, event_of, false, false≢true, Frame, has_begun_to_end, has_left_wait, is_deliverable, is_required}
use Rattle.pct_names.proofs.Names.{is_timed_wait, List, made_thread, map, moved, nat_eq, next_of, NextStatement, not, Option, option_map_or}
use Rattle.pct_names.proofs.Names.{or_left, or_right, own_after, point_kind, Process, refl, reverse, Run, run, Script, sem_timedwait_point}
use Rattle.pct_names.proofs.Names.{sem_wait_point, Some, statement_at, StatementIn, Status, Stmt, subst, sym, testcancel_point, Thread}
use Rattle.pct_names.proofs.Names.{thread_at, Transition, transition_by, true, waitpid_point, What, ◌||◌, ℕ, ◌∙◌, ◌∷◌, ◌≡◌}
use Rattle.std.proofs.Common.{eq-eqb, eqb-true}
use Rattle.std.proofs.lemmas.Bool.{true≢false}
use Rattle.pct_model.specs.declared.event.What.TheVariants as what
use Rattle.pct_model.specs.declared.state.Cause.TheVariants as cause
use Rattle.pct_model.specs.declared.state.Status.TheVariants as status
use Rattle.pct_model.specs.declared.statement.Stmt.TheVariants as statement
use Rattle.pct_laws.specs.CancelEvents.{is_requested, is_enabled_last, has_to_act}
use Rattle.pct_laws.specs.Each.{each}
use Rattle.pct_laws.specs.NewestEvents.{newest_event, newest_is, reports_call}
use Rattle.pct_laws.specs.RequestsLaw.{is_in_wait, is_in_timed_wait, is_to_return, is_to_time_out, is_to_end, has_own_return, may_return}
use Rattle.pct_laws.specs.RequestsLaw.{is_sem_wait_point, is_cond_wait_point, calls_sem_wait, allows}
use Rattle.pct_laws.specs.Kept.{is_call_of, is_leaving, WaitKept}
use Rattle.pct_laws.specs.KnownThreads.{is_own}
use Rattle.pct_laws.specs.ThreadSummary.{ThreadSummary, summary_of}
use Rattle.pct_laws.specs.declared.stage.WaitStage.{WaitStage}
use Rattle.pct_laws.specs.declared.stage.WaitStage.TheVariants.{Leaving, Left}
use Rattle.pct_laws.specs.WaitStages.{stage_after, wait_stage}
use Rattle.pct_transition_cases.proofs.PlacedStatements.{IsPlaced, is_placed, statement_placed}
use Rattle.pct_transition_cases.proofs.TransitionCases.{TransitionCase, is_wake_up, join_begun, state_set, cancel_tested, point_begun}
use Rattle.pct_transition_cases.proofs.TransitionCases.{point_done, point_passed, canceled, canceled_at_point, canceled_in_join}
use Rattle.pct_transition_cases.proofs.TransitionCases.{canceled_in_sem_wait, canceled_in_waitpid, wait_begun, timed_wait_begun, wait_ended}
use Rattle.pct_transition_cases.proofs.TransitionCases.{timed_wait_ended, wait_expired, wait_timed_out, canceled_in_wait}
use Rattle.pct_transition_cases.proofs.TransitionCases.{canceled_after_wait, signal_handed_on, ended_in_wait, sem_wait_begun, sem_taken}
use Rattle.pct_transition_cases.proofs.TransitionCases.{timed_sem_wait_begun, timed_sem_taken, sem_wait_timed_out, fork_handler_called}
use Rattle.pct_transition_cases.proofs.TransitionCases.{waitpid_begun, child_reaped, no_child_found, child_lost}
use Rattle.pct_thread_invariants.proofs.ThreadsOfRun.{thread_rule, processes_fit, threads_fit, threads_kept}
use Rattle.pct_thread_invariants.proofs.lift.EveryProcess.{moves_of_run}
use Rattle.pct_thread_invariants.proofs.lift.EveryThread.{of_made_thread}
use Rattle.pct_thread_invariants.proofs.lift.HandlerEvents.{of_each_phase}
use Rattle.pct_thread_invariants.proofs.lift.ReportedBy.{after_all}
use Rattle.pct_thread_invariants.proofs.lift.TakenSteps.{IsTaken, AfterEveryRun, every_run}
use Rattle.pct_cancel_laws.proofs.requests.ActingThreads.{mover_process, mover_valid, mover_made, mover_acts}
use Rattle.pct_cancel_laws.proofs.requests.CancelStates.{not_begun}
use Rattle.pct_cancel_laws.proofs.requests.LeftWaits.{left_waits_of_run}
use Rattle.pct_thread_invariants.proofs.thread.SuspendedCalls.{call_event, newest_call_of_run}
use Rattle.pct_thread_invariants.proofs.lift.MovedThreads.{case_of_step}
use Rattle.pct_thread_invariants.proofs.thread.ThreadRule.{summary, summary_reading, FitsAny}
use Rattle.pct_cancel_laws.proofs.waits.GenericPoints.{is_no_cond_wait, is_no_test, has_no_own_return}
use Rattle.pct_cancel_laws.proofs.waits.WaitSteps.{blocked, same_wait}
use Rattle.pct_cancel_laws.proofs.waits.WaitsOfRun.{waits_kept_of_run}

-- ---- a mutex is acquired

-- that a thread acquires a mutex does not change whether it has to act upon a request
acts_after : (e : Entry) (m : ℕ) (earlier : List Event) → has_to_act e.pid e.tid (event_of e (what.Acquired m) ∷ earlier) ≡ has_to_act e.pid e.tid earlier
acts_after e m earlier = by (nat_eq e.pid e.pid) (nat_eq e.tid e.tid) (is_requested e.pid e.tid earlier) (is_enabled_last e.pid e.tid earlier) (summary_of e.pid e.tid earlier)
  where
    by : (in_process of_thread requested enabled : Bool) (s : ThreadSummary)
        → (((in_process && false) || requested) && (cond (in_process && of_thread) enabled (cond (of_thread && false) enabled enabled) && not_begun (cond (in_process && of_thread) s (cond (of_thread && false) s s)))) ≡ (requested && (enabled && not_begun s))
    by true true requested enabled s = refl
    by true false requested enabled s = refl
    by false true requested enabled s = refl
    by false false requested enabled s = refl

-- ---- the stage of a wait

-- an event of an entry is one of the thread of the entry
is_its_own : (e : Entry) (w : What) → is_own e.pid e.tid (event_of e w) ≡ true
is_its_own e w = and_from (nat_eq e.pid e.pid) (nat_eq e.tid e.tid) (eq-eqb e.pid e.pid refl) (eq-eqb e.tid e.tid refl)

-- so it leads to the next stage of the wait of this thread
next_stage : (e : Entry) (w : What) (earlier : List Event) → wait_stage e.pid e.tid (event_of e w ∷ earlier) ≡ stage_after w (wait_stage e.pid e.tid earlier)
next_stage e w earlier = ap (λ (own : Bool). cond own (stage_after w (wait_stage e.pid e.tid earlier)) (wait_stage e.pid e.tid earlier)) (is_its_own e w)

-- a thread that was unblocked, and has not acted upon a request in its wait, is in it
still_in_wait : (next : NextStatement) (c m : ℕ) (why : Cause) (stage : WaitStage) → has_left_wait (status.Reacquire c m why) ≡ false → WaitKept next (status.Reacquire c m why) stage → is_in_wait stage ≡ true
still_in_wait next c m cause.Signalled stage stays is = ap is_in_wait is
still_in_wait next c m cause.Broadcast stage stays is = ap is_in_wait is
still_in_wait next c m cause.TimedOut stage stays is = ap is_in_wait is
still_in_wait next c m cause.Canceled stage leaves is = absurd (false≢true (sym leaves))

-- a thread that leaves its wait, and owns its mutex again, begins to end next
owned_again : (timed : Bool) (c m : ℕ) (stage : WaitStage) → is_leaving timed c m stage ≡ true → is_to_end c m (stage_after (what.Acquired m) stage) ≡ true
owned_again timed c m (Leaving has_time cond mutex) is = let parts = same_wait has_time timed cond c mutex m is in and_from (nat_eq cond c) (nat_eq mutex m) parts.0 parts.1
owned_again timed c m (Left has_time cond mutex) is = let parts = same_wait has_time timed cond c mutex m is in and_from (nat_eq cond c) (nat_eq mutex m) parts.0 parts.1
owned_again timed c m _ is = absurd (false≢true is)

-- ---- the return from a cancellation point

-- a generic point, by whether it returns by an event of its own, is pthread_testcancel or a condition wait, or shall be a cancellation point
return_by : (own tests waits required acts returns called : Bool) → own ≡ false → tests ≡ false → waits ≡ false → (required ≡ true → called ≡ true) → cond own false (cond tests (not acts) (cond waits returns (not required || called))) ≡ true
return_by false false false true acts returns called no_own no_test no_wait calls = calls refl
return_by false false false false acts returns called no_own no_test no_wait calls = refl
return_by true tests waits required acts returns called no_own no_test no_wait calls = absurd (true≢false no_own)
return_by own true waits required acts returns called no_own no_test no_wait calls = absurd (true≢false no_test)
return_by own tests true required acts returns called no_own no_test no_wait calls = absurd (true≢false no_wait)

-- ---- a thread that has begun to end

-- cancelability that is enabled is not disabled
not_disabled : Enable ≡ Disable → ⊥
not_disabled same = cc

-- a thread with its cancelability enabled has neither begun to end nor begun to exit its process, if it would be disabled then
unbegun : (begun exits : Bool) → ((begun || exits) ≡ true → Enable ≡ Disable) → not begun && not exits ≡ true
unbegun false false disabled = refl
unbegun true exits disabled = absurd (not_disabled (disabled refl))
unbegun false true disabled = absurd (not_disabled (disabled refl))

-- ---- a step

module _ (script : Script) (config : Config) (before : List Entry) (r : Run) (is : run script config before ≡ Some r) (e : Entry) (p : Process) (t : Thread) (taken : IsTaken script config r.world e p t) (law : each allows r.events ≡ true) where
  -- the thread was made
  it_made : made_thread e.pid e.tid r.world ≡ Some t
  it_made = mover_made script config before r is e p t taken

  -- and is not gone
  here : t.gone ≡ false
  here = (mover_valid script config before r is e p t taken).here

  -- the thread has to act, by its events, if it has a request and its cancelability is enabled
  acts : has_to_act e.pid e.tid r.events ≡ is_deliverable t.state t.pending
  acts = mover_acts script config before r is e p t taken

  -- it has a request and acts upon it
  cancels : (true ≡ true → is_deliverable t.state t.pending ≡ true) → has_to_act e.pid e.tid r.events ≡ true
  cancels asked = acts ∙ asked refl

  -- it has none, and calls a cancellation point
  calls : (true ≡ true → is_deliverable t.state t.pending ≡ false) → has_to_act e.pid e.tid r.events ≡ false
  calls unasked = acts ∙ unasked refl

  -- the stage of its wait is as its status is
  in_wait : {s : Status} → t.status ≡ s → WaitKept (next_of script t.frames) s (wait_stage e.pid e.tid r.events)
  in_wait status_is = subst (λ (s : Status). WaitKept (next_of script t.frames) s (wait_stage e.pid e.tid r.events)) status_is (waits_kept_of_run script config before r is e.pid e.tid t it_made here)

  -- it left its wait by a request, and owns its mutex again
  ends_in_wait : (m : ℕ) → has_left_wait t.status ≡ true → has_to_act e.pid e.tid (event_of e (what.Acquired m) ∷ r.events) ≡ true
  ends_in_wait m left = acts_after e m r.events ∙ acts ∙ left_waits_of_run script config before r is e.pid e.tid t it_made here left

  -- it owns its mutex again after a signal or a broadcast, and returns next
  returns_next : (c m : ℕ) (why : Cause) → is_wake_up why ≡ true → t.status ≡ status.Reacquire c m why → is_to_return (wait_stage e.pid e.tid (event_of e (what.Acquired m) ∷ r.events)) ≡ true
  returns_next c m why woken status_is =
      ap is_to_return (next_stage e (what.Acquired m) r.events ∙ ap (stage_after (what.Acquired m)) (blocked (next_of script t.frames) c m why (wait_stage e.pid e.tid r.events) woken (in_wait status_is)))

  -- the newest event of a thread that is suspended in a call
  newest_call : {s : Status} (index : ℕ) → t.status ≡ s → call_event (next_of script t.frames) s ≡ Some (what.Called index) → newest_event e.pid e.tid r.events ≡ Some (what.Called index)
  newest_call index status_is in_call = newest_call_of_run script config before r is e.pid e.tid t it_made here (what.Called index) (ap (call_event (next_of script t.frames)) status_is ∙ in_call)

  called : {s : Status} (index : ℕ) → t.status ≡ s → call_event (next_of script t.frames) s ≡ Some (what.Called index) → newest_is (reports_call index) e.pid e.tid r.events ≡ true
  called index status_is in_call = ap (λ (o : Option What). option_map_or (reports_call index) o false) (newest_call index status_is in_call) ∙ eq-eqb index index refl

  -- one that waits for a semaphore, by its next statement
  in_sem_wait : (sem : ℕ) {next : NextStatement} → next_of script t.frames ≡ next → call_event (next_of script t.frames) (status.InSem sem) ≡ call_event next (status.InSem sem)
  in_sem_wait sem next_is = ap (λ (next : NextStatement). call_event next (status.InSem sem)) next_is

  called_sem_wait : (index : ℕ) → is_sem_wait_point index ≡ true → {sem : ℕ} → t.status ≡ status.InSem sem → call_event (next_of script t.frames) (status.InSem sem) ≡ Some (what.Called index) → newest_is calls_sem_wait e.pid e.tid r.events ≡ true
  called_sem_wait index is_one status_is in_call = ap (λ (o : Option What). option_map_or calls_sem_wait o false) (newest_call index status_is in_call) ∙ is_one

  -- the point at which it is suspended is that of its statement
  same_point : (index i : ℕ) (frame : Frame) → next_of script t.frames ≡ StatementIn frame (statement.PointCall i) → t.status ≡ status.AtPoint index → i ≡ index
  same_point index i frame next_is status_is =
      let kept = threads_kept script config before r is e.pid e.tid p t (mover_process script config before r is e p t taken) (mover_valid script config before r is e p t taken).found here in
      eqb-true i index (and_parts (nat_eq i index) (is_required (point_kind index)) (ap (is_call_of index) (sym next_is) ∙ kept.at_point index status_is)).0

  -- a statement of the script calls a generic point, from which the thread may return
  returns : (index : ℕ) (frame : Frame) → statement_at script frame ≡ Some (statement.PointCall index) → (is_required (point_kind index) ≡ true → newest_is (reports_call index) e.pid e.tid r.events ≡ true) → may_return index e.pid e.tid r.events ≡ true
  returns index frame at = return_by (has_own_return index) (nat_eq index testcancel_point) (is_cond_wait_point index) (is_required (point_kind index)) (has_to_act e.pid e.tid r.events) (is_to_return (wait_stage e.pid e.tid r.events)) (newest_is (reports_call index) e.pid e.tid r.events)
      (has_no_own_return script frame index at) (is_no_test script frame index at) (is_no_cond_wait script frame index at)

  -- the events of a transition keep the law
  case_lawful : {body : List Stmt} {next : NextStatement} {s : Status} {o : Transition} → IsPlaced script t.frames body next → next_of script t.frames ≡ next → t.status ≡ s
      → FitsAny script config.passes (moved o t) (after_all summary (reverse o.events) (summary_of e.pid e.tid r.events))
      → TransitionCase config.passes body p.shared t (environment_of config r.world p t.id) true next s o → each allows (map (event_of e) (reverse o.events) ++ r.events) ≡ true
  unfolding thread_at own_after
  case_lawful place next_is status_is fits (canceled next asked where_it_may) = and_from _ _ (cancels asked) law
  case_lawful place next_is status_is fits (canceled_at_point next index asked) = and_from _ _ (cancels asked) law
  case_lawful place next_is status_is fits (canceled_in_join next id asked) = and_from _ _ (cancels asked) law
  case_lawful place next_is status_is fits (canceled_in_sem_wait next sem asked) = and_from _ _ (cancels asked) law
  case_lawful place next_is status_is fits (canceled_in_waitpid next pid asked) = and_from _ _ (cancels asked) law
  case_lawful place next_is status_is fits (canceled_in_wait next c m asked) = and_from _ _ (and_from _ _ (cancels asked) (ap is_in_wait (in_wait status_is))) law
  case_lawful place next_is status_is fits (canceled_after_wait next c m why stays asked) = and_from _ _ (and_from _ _ (cancels asked) (still_in_wait (next_of script t.frames) c m why (wait_stage e.pid e.tid r.events) stays (in_wait status_is))) law
  case_lawful place next_is status_is fits (signal_handed_on next c m u asked among) = and_from _ _ (and_from _ _ (cancels asked) (ap is_in_wait (in_wait status_is))) law
  case_lawful place next_is status_is fits (ended_in_wait next c m free) =
      and_from _ _ (and_from _ _ (ends_in_wait m (ap has_left_wait status_is)) (ap (is_to_end c m) (next_stage e (what.Acquired m) r.events) ∙ owned_again (is_timed_wait (next_of script t.frames)) c m (wait_stage e.pid e.tid r.events) (in_wait status_is))) law
  case_lawful place next_is status_is fits (join_begun frame id d target is other joinable alone unasked) = and_from _ _ (ap not (calls unasked)) law
  case_lawful place next_is status_is fits (point_begun frame index required unasked) = and_from _ _ (ap not (calls unasked)) law
  case_lawful place next_is status_is fits (wait_begun frame c m owner same unasked) = and_from _ _ (ap not (calls unasked)) law
  case_lawful place next_is status_is fits (timed_wait_begun frame result c m owner same unasked) = and_from _ _ (ap not (calls unasked)) law
  case_lawful place next_is status_is fits (timed_sem_wait_begun frame result sem unasked) = and_from _ _ (ap not (calls unasked)) law
  case_lawful place next_is status_is fits (sem_wait_begun frame sem unasked) = and_from _ _ (ap not (calls unasked)) law
  case_lawful place next_is status_is fits (waitpid_begun frame result d pid unasked) = and_from _ _ (ap not (calls unasked)) law
  case_lawful place next_is status_is fits (cancel_tested frame unasked) =
      and_from _ _ (ap not (calls unasked)) law
  case_lawful place next_is status_is fits (no_child_found frame result d operand unasked) = and_from _ _ (or_left (not (has_to_act e.pid e.tid r.events)) _ (ap not (calls unasked))) law
  case_lawful place next_is status_is fits (child_lost frame result d operand pid) = and_from _ _ (or_right (not (has_to_act e.pid e.tid r.events)) _ (called waitpid_point status_is refl)) law
  case_lawful place next_is status_is fits (child_reaped frame result d operand pid n child found ended) = and_from _ _ (called waitpid_point status_is refl) law
  case_lawful place next_is status_is fits (sem_taken frame s sem above) = and_from _ _ (called_sem_wait sem_wait_point refl status_is (in_sem_wait sem next_is)) law
  case_lawful place next_is status_is fits (timed_sem_taken frame result s sem above) = and_from _ _ (called_sem_wait sem_timedwait_point refl status_is (in_sem_wait sem next_is)) law
  case_lawful place next_is status_is fits (sem_wait_timed_out frame result s sem none) = and_from _ _ (called sem_timedwait_point status_is (in_sem_wait sem next_is)) law
  case_lawful place next_is status_is fits (point_done frame index optional) = and_from _ _ (returns index frame (statement_placed place) (λ required. absurd (true≢false (sym required ∙ optional)))) law
  case_lawful place next_is status_is fits (point_passed frame index i) =
      and_from _ _ (returns index frame (statement_placed place ∙ ap (λ (n : ℕ). Some (statement.PointCall n)) (same_point index i frame next_is status_is)) (λ required. called index status_is refl)) law
  case_lawful place next_is status_is fits (wait_ended frame cond mutex c m why woken free) = and_from _ _ (returns_next c m why woken status_is) law
  case_lawful place next_is status_is fits (timed_wait_ended frame result cond mutex c m why woken free) = and_from _ _ (returns_next c m why woken status_is) law
  case_lawful place next_is status_is fits (wait_expired next c m timed) = and_from _ _ (ap is_in_timed_wait (in_wait status_is) ∙ ap is_timed_wait next_is ∙ timed refl) law
  case_lawful place next_is status_is fits (wait_timed_out frame result cond mutex c m free) =
      and_from _ _ (ap is_to_time_out (next_stage e (what.Acquired m) r.events ∙ ap (stage_after (what.Acquired m)) (in_wait status_is))) law
  case_lawful place next_is status_is fits (state_set frame true old allowed) =
      let reported : ThreadSummary = summary_of e.pid e.tid r.events in
      and_from _ _ (unbegun (has_begun_to_end reported.reason) reported.exiting (λ begun. fits.agrees.disabled (ap (λ why. has_begun_to_end why || reported.exiting) (sym fits.agrees.reason) ∙ begun))) law
  case_lawful place next_is status_is fits (state_set frame false old allowed) = law
  case_lawful place next_is status_is fits (fork_handler_called next at call handler) = of_each_phase (λ (w : What). each allows (event_of e w ∷ r.events) ≡ true) call.func law law law at.phase
  case_lawful place next_is status_is fits _ = assumption

-- ---- every run

module _ (script : Script) (config : Config) where
  -- the thread that an entry moves fits its events after the step
  fits_after : (before : List Entry) (r : Run) → run script config before ≡ Some r → (e : Entry) (p : Process) (t : Thread) → IsTaken script config r.world e p t
      → FitsAny script config.passes (moved (transition_by script config r.world p t e.alt) t) (after_all summary (reverse (transition_by script config r.world p t e.alt).events) (summary_of e.pid e.tid r.events))
  fits_after before r is e p t taken =
      let made : made_thread e.pid e.tid r.world ≡ Some t = mover_made script config before r is e p t taken in
      let fits : FitsAny script config.passes t (summary_of e.pid e.tid r.events) = subst (FitsAny script config.passes t) (sym (summary_reading e.tid e.pid r.events))
      (of_made_thread summary (FitsAny script config.passes) r (threads_fit script config before r is) e.pid e.tid t made (mover_valid script config before r is e p t taken).here) in
      (thread_rule script config).kept r.world p t (summary_of e.pid e.tid r.events) e.alt (processes_fit script config before r is e.pid p (mover_process script config before r is e p t taken)) taken.offered fits

  -- the law of cancellation, of the events of every run
  pub requests_of_run : AfterEveryRun script config (λ r. each allows r.events ≡ true)
  requests_of_run =
      every_run script config (λ r. each allows r.events ≡ true)
      (λ before r is e p t taken law.
      case_lawful script config before r is e p t taken law (is_placed script t.frames) refl refl (fits_after before r is e p t taken)
      (case_of_step script config r.world p e t (moves_of_run script config before r is e p t taken)))
      (λ some. refl)
