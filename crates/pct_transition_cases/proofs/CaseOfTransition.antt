-- Each transition of the table is one of the cases.
use Rattle.pct_names.proofs.Names.{◌&&◌, ◌++◌, ◌<◌, [], acts, acts_on_request, acts_or, adds, after_block, after_end, after_test, Alt, ap}
use Rattle.pct_names.proofs.Names.{arith, AsyncCall, begins_fork, begins_join, begins_sem_wait, begins_wait, begins_waitpid, Bool}
use Rattle.pct_names.proofs.Names.{broadcasts, called_kind, calls, calls_destructor, calls_handler, calls_point, Cause, choices_at, cond}
use Rattle.pct_names.proofs.Names.{cond_timedwait_point, cond_wait_point, creates, creates_by, creates_key, creates_key_by, deletes_key}
use Rattle.pct_names.proofs.Names.{Dest, detaches, due_keys, EAGAIN, emits, end_value, ends_block, ends_by_exit, ends_join, ends_now}
use Rattle.pct_names.proofs.Names.{ends_sem_wait, ends_thread, Environment, eqb-false, exit_value_of, exits, exits_twice, expires}
use Rattle.pct_names.proofs.Names.{fails_to_create, fails_to_create_key, false, find, finds_no_child, first_stop, ForkAt, ForkChildCall}
use Rattle.pct_names.proofs.Names.{forks_by, Frame, FrameKind, gets_self, gets_specific, goes_on, goes_on_after_handlers, goes_on_ending}
use Rattle.pct_names.proofs.Names.{goes_on_exiting, goes_on_forking, HandlerCall, hands_on, has_begun_to_end, inl, inr}
use Rattle.pct_names.proofs.Names.{is_allowed_asynchronously, is_asynchronous, is_deliverable, is_forbidden_in_child, is_in_handler}
use Rattle.pct_names.proofs.Names.{is_none, is_required, is_some, is_stack_full, is_timed_wait, join_point, joins_at, jumps, Key, key_place}
use Rattle.pct_names.proofs.Names.{key_with, leaves_handler, leaves_wait, left_keys, length, List, list_any, locks, MAX_FORK_HANDLERS}
use Rattle.pct_names.proofs.Names.{MAX_FRAMES, MAX_HANDLERS, may_register, nat_eq, nat_lt, next_handler, NextStatement, None, none-some}
use Rattle.pct_names.proofs.Names.{not, not-false, not-true, offers, open_of, Operand, Option, option_and_then, option_map, option_map_or}
use Rattle.pct_names.proofs.Names.{Optional, or_parts, owns, Parent, passes_point, Phase, point_kind, PointKind, points, pops}
use Rattle.pct_names.proofs.Names.{pos_of_ne-zero, posts, Prepare, pushes, reacquires, reaps, reaps_if, refl, registers_fork, registers_if}
use Rattle.pct_names.proofs.Names.{requests, Required, returns_by, returns_in_child, returns_in_parent, runs, sem_timedwait_point}
use Rattle.pct_names.proofs.Names.{sem_wait_point, sets, sets_mode, sets_specific, sets_state, SharedState, signals_by, slice_index, Some}
use Rattle.pct_names.proofs.Names.{StatementIn, Status, Stmt, stop_at, stops_of, stops_or, StopTest, subst, suc, sym, testcancel_point}
use Rattle.pct_names.proofs.Names.{tests_cancel, Thread, Transition, transition_at, true, unlocks, value_at, value_of, waitpid_point}
use Rattle.pct_names.proofs.Names.{Busy, calls_once, Fresh, is_fresh, leaves_routine, once_at, OnceState}
use Rattle.pct_names.proofs.Names.{waits_at, waits_with_another_mutex, Why, ◌||◌, ℕ, ◌∙◌, ◌∷◌, ◌≡◌, ◌≤◌}
use Rattle.std.proofs.Common.{eqb-true}
use Rattle.std.proofs.lemmas.Bool.{true≢false, ltb-true, ltb-false}
use Rattle.pct_model.specs.ChoiceTable.{is_expire}
use Rattle.pct_model.specs.declared.event.Caller.TheVariants as caller
use Rattle.pct_model.specs.declared.event.What.TheVariants as what
use Rattle.pct_model.specs.declared.process.Child.{Child}
use Rattle.pct_model.specs.declared.schedule.Alt.TheVariants as alt
use Rattle.pct_model.specs.declared.state.Cause.TheVariants as cause
use Rattle.pct_model.specs.declared.state.FrameKind.TheVariants as kind
use Rattle.pct_model.specs.declared.state.OnceState.TheVariants.{Done as OnceDone}
use Rattle.pct_model.specs.declared.state.Phase.TheVariants.{Child as ChildPhase}
use Rattle.pct_model.specs.declared.state.Status.TheVariants as status
use Rattle.pct_model.specs.declared.statement.Stmt.TheVariants as statement
use Rattle.pct_model.specs.declared.transition.NamedAction.TheVariants as named_action
use Rattle.pct_model.specs.declared.transition.OwnAction.TheVariants as own_action
use Rattle.pct_model.specs.declared.transition.SharedAction.TheVariants as shared_action
use Rattle.pct_transition_cases.proofs.OfferedChoices.{is_acting, goes_at, may_have_time, Offered, offered_alive, may_go_on}
use Rattle.pct_transition_cases.proofs.OfferedChoices.{may_go_on_untimed, may_expire_in_wait, expired_before, act_delivered}
use Rattle.pct_transition_cases.proofs.OfferedChoices.{act_where_it_may, heir_among, picked_among, id_among, key_among, left_among}
use Rattle.pct_transition_cases.proofs.OfferedChoices.{offered_of, free_to_lock, gone_on_at_required, no_key_left}
use Rattle.pct_transition_cases.proofs.TransitionCases.{past_nop, past_if, past_while, past_else, past_end, Returns, by_return, by_end}
use Rattle.pct_transition_cases.proofs.TransitionCases.{TransitionCase, rests, stopped, jumped, emitted, variable_set, variable_added}
use Rattle.pct_transition_cases.proofs.TransitionCases.{function_called, main_returned, start_returned, call_left, handler_left}
use Rattle.pct_transition_cases.proofs.TransitionCases.{exit_function_left, thread_made, thread_not_made, join_begun, join_ended}
use Rattle.pct_transition_cases.proofs.TransitionCases.{thread_detached, self_got, request_sent, state_set, mode_set, cancel_tested}
use Rattle.pct_transition_cases.proofs.TransitionCases.{point_begun, point_done, point_passed, canceled, canceled_at_point}
use Rattle.pct_transition_cases.proofs.TransitionCases.{canceled_in_join, canceled_in_sem_wait, canceled_in_waitpid, mutex_locked}
use Rattle.pct_transition_cases.proofs.TransitionCases.{mutex_unlocked, wait_begun, timed_wait_begun, wait_ended, timed_wait_ended}
use Rattle.pct_transition_cases.proofs.TransitionCases.{wait_expired, wait_timed_out, canceled_in_wait, canceled_after_wait}
use Rattle.pct_transition_cases.proofs.TransitionCases.{signal_handed_on, ended_in_wait, signal_sent, signal_lost, broadcast_sent}
use Rattle.pct_transition_cases.proofs.TransitionCases.{sem_wait_begun, sem_taken, timed_sem_wait_begun, timed_sem_taken}
use Rattle.pct_transition_cases.proofs.TransitionCases.{sem_wait_timed_out, sem_posted, fork_registered, fork_not_registered, fork_begun}
use Rattle.pct_transition_cases.proofs.TransitionCases.{fork_handler_called, fork_handler_left, process_forked, process_not_forked}
use Rattle.pct_transition_cases.proofs.TransitionCases.{fork_failed, fork_returned, waitpid_begun, child_reaped, no_child_found, child_lost}
use Rattle.pct_transition_cases.proofs.TransitionCases.{key_made, key_not_made, key_deleted, specific_set, specific_got, handler_pushed}
use Rattle.pct_transition_cases.proofs.TransitionCases.{handler_popped, handler_called, exit_called, handler_run, destructor_called}
use Rattle.pct_transition_cases.proofs.TransitionCases.{pass_begun, thread_ended, thread_ended_with_keys, last_ended, last_ended_with_keys}
use Rattle.pct_transition_cases.proofs.TransitionCases.{exit_registered, exit_not_registered, process_exited, process_ended_now}
use Rattle.pct_transition_cases.proofs.TransitionCases.{exit_function_called, process_ended, routine_left, routine_called, routine_done}

-- ---- stops

-- where no stop applies, each test is false
no_stop : (tests : List StopTest) → first_stop tests ≡ None → list_any (λ (test : StopTest). test.0) tests ≡ false
no_stop [] none = refl
no_stop (test ∷ tests) none = by_test test.0 refl none (no_stop tests)
  where
    by_test : (applies : Bool) → test.0 ≡ applies → option_map (λ (s : StopTest). s.1) (cond applies (Some test) (find (λ (s : StopTest). s.0) tests)) ≡ None
        → (first_stop tests ≡ None → list_any (λ (s : StopTest). s.0) tests ≡ false) → (test.0 || list_any (λ (s : StopTest). s.0) tests) ≡ false
    by_test true is some later = absurd (none-some test.1 (sym some))
    by_test false is none later = ap (λ (b : Bool). b || list_any (λ (s : StopTest). s.0) tests) is ∙ later none

-- where a statement does not stop, it is not forbidden in the process of the thread, it may be called with the cancelability of the thread, and none of its own stops applies
pub no_stops : (body : List Stmt) (shared : SharedState) (t : Thread) (environment : Environment) (frame : Frame) (s : Stmt) → stop_at body shared t environment frame s ≡ None
    → (is_forbidden_in_child body shared frame s ≡ false) × ((is_asynchronous t.state t.mode && not (is_allowed_asynchronously s) ≡ false) × (list_any (λ (test : StopTest). test.0) (stops_of body shared t environment frame s) ≡ false))
unfolding stop_at
no_stops body shared t environment frame s none =
    let own : Bool = list_any (λ (test : StopTest). test.0) (stops_of body shared t environment frame s) in
    let called : Bool = is_asynchronous t.state t.mode && not (is_allowed_asynchronously s) in
    let all : (is_forbidden_in_child body shared frame s || (called || own)) ≡ false = no_stop ((is_forbidden_in_child body shared frame s, ForkChildCall) ∷ (called, AsyncCall) ∷ stops_of body shared t environment frame s) none in
    let parts : (is_forbidden_in_child body shared frame s ≡ false) × ((called || own) ≡ false) = or_parts (is_forbidden_in_child body shared frame s) (called || own) all in
    (parts.0, or_parts called own parts.1)

-- a test that stands alone
alone : (b : Bool) → (b || false) ≡ false → b ≡ false
alone true none = absurd (true≢false none)
alone false none = refl

below_limit : (n limit : ℕ) → not (nat_lt n limit) ≡ false → n < limit
below_limit n limit is = ltb-true n limit (not-false (nat_lt n limit) is)

-- the calls that are no generic points shall be cancellation points
shall_join : is_required (point_kind join_point) ≡ true
unfolding point_kind points
shall_join = refl

shall_test : is_required (point_kind testcancel_point) ≡ true
unfolding point_kind points
shall_test = refl

shall_wait : is_required (point_kind cond_wait_point) ≡ true
unfolding point_kind points
shall_wait = refl

shall_wait_for_post : is_required (point_kind sem_wait_point) ≡ true
unfolding point_kind points
shall_wait_for_post = refl

shall_wait_in_time : is_required (point_kind cond_timedwait_point) ≡ true
unfolding point_kind points
shall_wait_in_time = refl

shall_wait_for_post_in_time : is_required (point_kind sem_timedwait_point) ≡ true
unfolding point_kind points
shall_wait_for_post_in_time = refl

shall_wait_for_child : is_required (point_kind waitpid_point) ≡ true
unfolding point_kind points
shall_wait_for_child = refl

module _ (passes : ℕ) (body : List Stmt) (shared : SharedState) (t : Thread) (environment : Environment) (offered : Bool) where
  abbrev Case : NextStatement → Status → Transition → Type 0
  Case next s o = TransitionCase passes body shared t environment offered next s o

  abbrev value : Frame → Operand → ℕ
  value frame v = value_of shared.globals frame v

  -- the choice is among those of the table, where it is known to be offered
  abbrev Legal : Alt → NextStatement → Status → Type 0
  Legal choice next s = offered ≡ true → offers (choices_at body shared t environment next s) choice ≡ true

  may_be : {choice : Alt} {next : NextStatement} {s : Status} → Legal choice next s → offered ≡ true → Offered shared t environment next s choice
  may_be {choice} {next} {s} legal known = offered_of body shared t environment choice next s (legal known)

  -- and it is not to act upon a request
  abbrev Goes : Alt → NextStatement → Status → Type 0
  Goes choice next s = offered ≡ true → (offers (choices_at body shared t environment next s) choice ≡ true) × (is_acting choice ≡ false)

  -- what a thread waits for has occurred, unless its choice is that a time expires
  goes : (choice : Alt) (next : NextStatement) (s : Status) → Goes choice next s → is_expire choice ≡ false → offered ≡ true → goes_at shared environment s ≡ true
  goes choice next s may stays known = may_go_on (offered_of body shared t environment choice next s (may known).0) (may known).1 stays

  -- the same of a thread that is in no wait with a time
  goes_untimed : (choice : Alt) (next : NextStatement) (s : Status) → Goes choice next s → may_have_time s && is_timed_wait next ≡ false → offered ≡ true → goes_at shared environment s ≡ true
  goes_untimed choice next s may untimed known = may_go_on_untimed (offered_of body shared t environment choice next s (may known).0) (may known).1 untimed

  -- ---- statements

  -- a return from a fork handler, by the values that the thread kept
  leave_case : (frame : Frame) (s : Stmt) (v : ℕ) → Returns body shared.globals frame s v → frame.kind ≡ kind.ForkFn → (kept : Option ForkAt) → t.kept ≡ kept → Case (StatementIn frame s) status.Running (leaves_handler kept)
  unfolding leaves_handler
  leave_case frame s v returns is (Some at) keeps = fork_handler_left frame s v at returns is keeps
  leave_case frame s v returns is None keeps = rests (StatementIn frame s) status.Running (λ known. refl)

  -- a return, by the kind of the frame
  return_case : (frame : Frame) (s : Stmt) (v : ℕ) → Returns body shared.globals frame s v → (k : FrameKind) → frame.kind ≡ k → exits_twice k shared ≡ false → Case (StatementIn frame s) status.Running (returns_by t.kept k v)
  unfolding returns_by exits ends_by_exit leaves_routine
  return_case frame s v returns kind.Main is once = main_returned frame s v returns is once
  return_case frame s v returns kind.Start is once = start_returned frame s v returns is
  return_case frame s v returns kind.Call is once = call_left frame s v returns (inl is)
  return_case frame s v returns kind.PopHandler is once = call_left frame s v returns (inr is)
  return_case frame s v returns kind.Handler is once = handler_left frame s v returns (inl is)
  return_case frame s v returns kind.Destructor is once = handler_left frame s v returns (inr is)
  return_case frame s v returns kind.ExitFn is once = exit_function_left frame s v returns is
  return_case frame s v returns kind.ForkFn is once = leave_case frame s v returns is t.kept refl
  return_case frame s v returns (kind.OnceFn o) is once = routine_left frame s v o returns is

  end_case : (frame : Frame) (opened : Option ℕ) → open_of body frame.pc ≡ opened → is_none opened && exits_twice frame.kind shared ≡ false → Case (StatementIn frame statement.End) status.Running (ends_block opened t.kept body frame)
  unfolding jumps
  end_case frame (Some opened) is once = jumped frame statement.End (after_end body frame.pc opened) (past_end opened is)
  end_case frame None is once = return_case frame statement.End 0 (by_end is) frame.kind refl once

  join_case : (frame : Frame) (id : Operand) (d : Dest) → (offered ≡ true → is_deliverable t.state t.pending ≡ false) → (found : Option Thread) → environment.named (value frame id) ≡ found
      → (is_none found || (nat_eq (value frame id) t.id || (option_map_or (λ u. u.detached) found false || (environment.another_joins (value frame id) || false)))) ≡ false
      → Case (StatementIn frame (statement.Join id d)) status.Running (begins_join (value frame id))
  unfolding begins_join
  join_case frame id d unasked None is none = absurd (true≢false none)
  join_case frame id d unasked (Some target) is none =
      let joined : Bool = environment.another_joins (value frame id) in
      let other : (nat_eq (value frame id) t.id ≡ false) × ((target.detached || (joined || false)) ≡ false) = or_parts (nat_eq (value frame id) t.id) (target.detached || (joined || false)) none in
      let joinable : (target.detached ≡ false) × ((joined || false) ≡ false) = or_parts target.detached (joined || false) other.1 in
      join_begun frame id d target is other.0 joinable.0 (alone joined joinable.1) unasked

  detach_case : (frame : Frame) (id : Operand) (found : Option Thread) → environment.named (value frame id) ≡ found → (is_none found || (option_map_or (λ u. u.detached) found false || (environment.another_joins (value frame id) || false))) ≡ false
      → Case (StatementIn frame (statement.Detach id)) status.Running (detaches (suc frame.pc) (value frame id))
  unfolding detaches
  detach_case frame id None is none = absurd (true≢false none)
  detach_case frame id (Some target) is none =
      let joined : Bool = environment.another_joins (value frame id) in
      let joinable : (target.detached ≡ false) × ((joined || false) ≡ false) = or_parts target.detached (joined || false) none in
      thread_detached frame id target is joinable.0 (alone joined joinable.1)

  request_case : (frame : Frame) (id : Operand) (found : Option Thread) → environment.named (value frame id) ≡ found → (is_none found || false) ≡ false → Case (StatementIn frame (statement.CancelThread id)) status.Running (requests (suc frame.pc) (value frame id))
  unfolding requests
  request_case frame id None is none = absurd (true≢false none)
  request_case frame id (Some target) is none = request_sent frame id target is

  create_case : (choice : Alt) (frame : Frame) (result id : Dest) (f : ℕ) (v : Operand) (detached : Bool) → (offered ≡ true → Offered shared t environment (StatementIn frame (statement.Create result id f v detached)) status.Running choice)
      → Case (StatementIn frame (statement.Create result id f v detached)) status.Running (creates_by choice (suc frame.pc) result id f (value frame v) detached)
  unfolding creates fails_to_create
  create_case (alt.New n) frame result id f v detached may = thread_made frame result id f v detached n (λ known. id_among (may known))
  create_case alt.Go frame result id f v detached may = thread_not_made frame result id f v detached
  create_case _ frame result id f v detached may = rests (StatementIn frame (statement.Create result id f v detached)) status.Running (λ known. refl)

  create_key_case : (choice : Alt) (frame : Frame) (result key : Dest) (destructor : Option ℕ) → (offered ≡ true → Offered shared t environment (StatementIn frame (statement.KeyCreate result key destructor)) status.Running choice)
      → Case (StatementIn frame (statement.KeyCreate result key destructor)) status.Running (creates_key_by choice (suc frame.pc) result key destructor)
  unfolding creates_key fails_to_create_key
  create_key_case (alt.New n) frame result key destructor may = key_made frame result key destructor n (λ known. key_among (may known))
  create_key_case alt.Go frame result key destructor may = key_not_made frame result key destructor
  create_key_case _ frame result key destructor may = rests (StatementIn frame (statement.KeyCreate result key destructor)) status.Running (λ known. refl)

  signal_case : (choice : Alt) (frame : Frame) (c : ℕ) → (offered ≡ true → Offered shared t environment (StatementIn frame (statement.Signal c)) status.Running choice) → Case (StatementIn frame (statement.Signal c)) status.Running (signals_by choice (suc frame.pc) c)
  unfolding signals_by
  signal_case (alt.Pick u) frame c may = signal_sent frame c u (λ known. picked_among (may known))
  signal_case alt.Go frame c may = signal_lost frame c
  signal_case _ frame c may = rests (StatementIn frame (statement.Signal c)) status.Running (λ known. refl)

  point_case : (frame : Frame) (index : ℕ) → (is_required (point_kind index) ≡ true → offered ≡ true → is_deliverable t.state t.pending ≡ false) → (k : Option PointKind) → point_kind index ≡ k → Case (StatementIn frame (statement.PointCall index)) status.Running (calls_point (suc frame.pc) index k)
  unfolding calls_point
  point_case frame index unasked (Some Required) is = point_begun frame index is (unasked (ap is_required is))
  point_case frame index unasked (Some Optional) is = point_done frame index (ap is_required is)
  point_case frame index unasked None is = rests (StatementIn frame (statement.PointCall index)) status.Running (λ known. refl)

  register_case : (frame : Frame) (result : Dest) (f : ℕ) (may : Bool) → may_register shared ≡ may → Case (StatementIn frame (statement.AtExit result f)) status.Running (registers_if may (suc frame.pc) result f)
  unfolding registers_if
  register_case frame result f true is = exit_registered frame result f is
  register_case frame result f false is = exit_not_registered frame result f

  -- pthread_once, by the state of the control
  once_case : (frame : Frame) (o f : ℕ) (state : OnceState) → once_at shared.onces o ≡ state → is_fresh state && is_stack_full t.frames ≡ false → Case (StatementIn frame (statement.CallOnce o f)) status.Running (calls_once (suc frame.pc) o f t.id state)
  unfolding calls_once
  once_case frame o f Fresh is room = routine_called frame o f is (below_limit (length t.frames) MAX_FRAMES room)
  once_case frame o f (Busy id) is room = rests (StatementIn frame (statement.CallOnce o f)) status.Running (λ known. refl)
  once_case frame o f OnceDone is room = routine_done frame o f is

  -- pthread_atfork, by whether there is room for one more registration
  register_fork_case : (frame : Frame) (result : Dest) (prepare parent child : Option ℕ) (room : Bool) → nat_lt (length shared.fork_handlers) MAX_FORK_HANDLERS ≡ room
      → Case (StatementIn frame (statement.AtFork result prepare parent child)) status.Running
      (cond room (record (goes_on (suc frame.pc) []) { writes = (result, 0) ∷ []; shared = Some (shared_action.AddForkHandlers (record { prepare = prepare; parent = parent; child = child })) }) (record (goes_on (suc frame.pc) (what.Answer caller.AtFork 2 ∷ [])) { writes = (result, 2) ∷ [] }))
  register_fork_case frame result prepare parent child true is = fork_registered frame result (record { prepare = prepare; parent = parent; child = child }) (ltb-true (length shared.fork_handlers) MAX_FORK_HANDLERS is)
  register_fork_case frame result prepare parent child false is = fork_not_registered frame result prepare parent child

  waitpid_case : (frame : Frame) (result d : Dest) (pid : Operand) → (offered ≡ true → is_deliverable t.state t.pending ≡ false) → (found : Option Child) → Case (StatementIn frame (statement.WaitPid result pid d)) status.Running (begins_waitpid found (value frame pid) (suc frame.pc) result)
  unfolding finds_no_child
  waitpid_case frame result d pid unasked (Some child) = waitpid_begun frame result d pid unasked
  waitpid_case frame result d pid unasked None = no_child_found frame result d pid unasked

  pop_by : (frame : Frame) (v : Operand) (f a : ℕ) (handlers : List (ℕ × ℕ)) → t.handlers ≡ (f, a) ∷ handlers → (drop : Bool) → nat_eq (value frame v) 0 ≡ drop → not drop && is_stack_full t.frames ≡ false
      → Case (StatementIn frame (statement.Pop v)) status.Running (cond drop (record (goes_on (suc frame.pc) (what.Popped f a false ∷ [])) { own = Some own_action.PopHandler }) (record (goes_on (suc frame.pc) (what.Popped f a true ∷ [])) { own = Some (own_action.CallHandler f a) }))
  pop_by frame v f a handlers is true zero none = handler_popped frame v f a handlers is zero
  pop_by frame v f a handlers is false not_zero none = handler_called frame v f a handlers is (below_limit (length t.frames) MAX_FRAMES none) not_zero

  pop_case : (frame : Frame) (v : Operand) (handlers : List (ℕ × ℕ)) → t.handlers ≡ handlers → not (nat_eq (value frame v) 0) && is_stack_full t.frames ≡ false
      → Case (StatementIn frame (statement.Pop v)) status.Running (pops (suc frame.pc) (value frame v) handlers)
  unfolding pops
  pop_case frame v [] is none = rests (StatementIn frame (statement.Pop v)) status.Running (λ known. refl)
  pop_case frame v ((f, a) ∷ handlers) is none = pop_by frame v f a handlers is (nat_eq (value frame v) 0) refl none

  -- a call of a function that shall be a cancellation point goes on only without a request to act upon
  unasked : (choice : Alt) (frame : Frame) (s : Stmt) → Goes choice (StatementIn frame s) status.Running → stop_at body shared t environment frame s ≡ None → is_required (called_kind s) ≡ true → is_allowed_asynchronously s ≡ false
      → offered ≡ true → is_deliverable t.state t.pending ≡ false
  unasked choice frame s may none shall called known =
      gone_on_at_required body shared t environment choice frame s shall called (no_stops body shared t environment frame s none).0 (no_stops body shared t environment frame s none).1.0 (may known).0 (may known).1

  -- where no stop of a condition wait applies, the thread owns the mutex, and none waits with another one
  no_stop_of_wait : (c m : ℕ) → (not (owns t.id m shared) || (waits_with_another_mutex c m environment || false)) ≡ false → (owns t.id m shared ≡ true) × (waits_with_another_mutex c m environment ≡ false)
  no_stop_of_wait c m none =
      let other : Bool = waits_with_another_mutex c m environment in
      let parts : (not (owns t.id m shared) ≡ false) × ((other || false) ≡ false) = or_parts (not (owns t.id m shared)) (other || false) none in
      (not-false (owns t.id m shared) parts.0, alone other parts.1)

  running_case : (choice : Alt) (frame : Frame) (s : Stmt) → Goes choice (StatementIn frame s) status.Running → stop_at body shared t environment frame s ≡ None
      → Case (StatementIn frame s) status.Running (runs passes body shared t environment choice frame s)
  unfolding runs emits sets adds jumps calls gets_self ends_by_exit pushes sets_state sets_mode tests_cancel deletes_key sets_specific gets_specific locks unlocks begins_wait broadcasts begins_sem_wait posts registers_fork begins_fork exits ends_now stops_of called_kind
  running_case choice frame (statement.Emit v) may none = emitted frame v
  running_case choice frame (statement.Set d v) may none = variable_set frame d v
  running_case choice frame (statement.Add d v) may none = variable_added frame d v
  running_case choice frame statement.Nop may none = jumped frame statement.Nop (suc frame.pc) past_nop
  running_case choice frame (statement.If v) may none = jumped frame (statement.If v) (after_test body frame.pc (value frame v)) (past_if v)
  running_case choice frame statement.Else may none = jumped frame statement.Else (after_block body frame.pc) past_else
  running_case choice frame (statement.While v) may none = jumped frame (statement.While v) (after_test body frame.pc (value frame v)) (past_while v)
  running_case choice frame statement.End may none = end_case frame (open_of body frame.pc) refl (alone (is_none (open_of body frame.pc) && exits_twice frame.kind shared) (no_stops body shared t environment frame statement.End none).1.1)
  running_case choice frame (statement.Do f v) may none = function_called frame f v (below_limit (length t.frames) MAX_FRAMES (alone (is_stack_full t.frames) (no_stops body shared t environment frame (statement.Do f v) none).1.1))
  running_case choice frame (statement.Return v) may none = return_case frame (statement.Return v) (value frame v) (by_return v) frame.kind refl (alone (exits_twice frame.kind shared) (no_stops body shared t environment frame (statement.Return v) none).1.1)
  running_case choice frame (statement.Create result id f v detached) may none = create_case choice frame result id f v detached (may_be (λ known. (may known).0))
  running_case choice frame (statement.Join id d) may none = join_case frame id d (unasked choice frame (statement.Join id d) may none shall_join refl) (environment.named (value frame id)) refl (no_stops body shared t environment frame (statement.Join id d) none).1.1
  running_case choice frame (statement.Detach id) may none = detach_case frame id (environment.named (value frame id)) refl (no_stops body shared t environment frame (statement.Detach id) none).1.1
  running_case choice frame (statement.CancelThread id) may none = request_case frame id (environment.named (value frame id)) refl (no_stops body shared t environment frame (statement.CancelThread id) none).1.1
  running_case choice frame (statement.SelfId d) may none = self_got frame d
  running_case choice frame statement.TestCancel may none = cancel_tested frame (unasked choice frame statement.TestCancel may none shall_test refl)
  running_case choice frame (statement.SetState enable old) may none = state_set frame enable old (alone (enable && is_in_handler t.frames) (no_stops body shared t environment frame (statement.SetState enable old) none).1.1)
  running_case choice frame (statement.SetMode asynchronous old) may none = mode_set frame asynchronous old
  running_case choice frame (statement.PointCall index) may none = point_case frame index (λ shall. unasked choice frame (statement.PointCall index) may none shall refl) (point_kind index) refl
  running_case choice frame (statement.KeyCreate result key destructor) may none = create_key_case choice frame result key destructor (may_be (λ known. (may known).0))
  running_case choice frame (statement.KeyDelete key) may none = key_deleted frame key (alone (is_none (key_with (value frame key) shared.keys)) (no_stops body shared t environment frame (statement.KeyDelete key) none).1.1)
  running_case choice frame (statement.SetSpecific key v) may none = specific_set frame key v (alone (is_none (key_with (value frame key) shared.keys)) (no_stops body shared t environment frame (statement.SetSpecific key v) none).1.1)
  running_case choice frame (statement.GetSpecific d key) may none = specific_got frame d key
  running_case choice frame (statement.ThreadExit v) may none = exit_called frame v (alone (has_begun_to_end t.reason) (no_stops body shared t environment frame (statement.ThreadExit v) none).1.1)
  running_case choice frame (statement.Push f v) may none = handler_pushed frame f v (below_limit (length t.handlers) MAX_HANDLERS (alone (not (nat_lt (length t.handlers) MAX_HANDLERS)) (no_stops body shared t environment frame (statement.Push f v) none).1.1))
  running_case choice frame (statement.Pop v) may none = pop_case frame v t.handlers refl (alone (not (nat_eq (value frame v) 0) && is_stack_full t.frames) (no_stops body shared t environment frame (statement.Pop v) none).1.1)
  running_case choice frame (statement.Lock m) may none =
      mutex_locked frame m (λ known. free_to_lock body shared t environment choice frame m (no_stops body shared t environment frame (statement.Lock m) none).0 (no_stops body shared t environment frame (statement.Lock m) none).1.0 (may known).0)
  running_case choice frame (statement.Unlock m) may none = mutex_unlocked frame m (not-false (owns t.id m shared) (alone (not (owns t.id m shared)) (no_stops body shared t environment frame (statement.Unlock m) none).1.1))
  running_case choice frame (statement.CondWait c m) may none =
      let stays : (owns t.id m shared ≡ true) × (waits_with_another_mutex c m environment ≡ false) = no_stop_of_wait c m (no_stops body shared t environment frame (statement.CondWait c m) none).1.1 in
      wait_begun frame c m stays.0 stays.1 (unasked choice frame (statement.CondWait c m) may none shall_wait refl)
  running_case choice frame (statement.CondTimedWait result c m) may none =
      let stays : (owns t.id m shared ≡ true) × (waits_with_another_mutex c m environment ≡ false) = no_stop_of_wait c m (no_stops body shared t environment frame (statement.CondTimedWait result c m) none).1.1 in
      timed_wait_begun frame result c m stays.0 stays.1 (unasked choice frame (statement.CondTimedWait result c m) may none shall_wait_in_time refl)
  running_case choice frame (statement.Signal c) may none = signal_case choice frame c (may_be (λ known. (may known).0))
  running_case choice frame (statement.Broadcast c) may none = broadcast_sent frame c
  running_case choice frame (statement.SemWait sem) may none = sem_wait_begun frame sem (unasked choice frame (statement.SemWait sem) may none shall_wait_for_post refl)
  running_case choice frame (statement.SemTimedWait result sem) may none = timed_sem_wait_begun frame result sem (unasked choice frame (statement.SemTimedWait result sem) may none shall_wait_for_post_in_time refl)
  running_case choice frame (statement.SemPost sem) may none = sem_posted frame sem
  running_case choice frame (statement.CallOnce o f) may none =
      once_case frame o f (once_at shared.onces o) refl (alone (is_fresh (once_at shared.onces o) && is_stack_full t.frames) (no_stops body shared t environment frame (statement.CallOnce o f) none).1.1)
  running_case choice frame (statement.AtFork result prepare parent child) may none = register_fork_case frame result prepare parent child (nat_lt (length shared.fork_handlers) MAX_FORK_HANDLERS) refl
  running_case choice frame (statement.Fork result child) may none = fork_begun frame result child (alone (has_begun_to_end t.reason) (no_stops body shared t environment frame (statement.Fork result child) none).1.1)
  running_case choice frame (statement.WaitPid result pid d) may none = waitpid_case frame result d pid (unasked choice frame (statement.WaitPid result pid d) may none shall_wait_for_child refl) (environment.family.child (value frame pid))
  running_case choice frame (statement.AtExit result f) may none = register_case frame result f (may_register shared) refl
  running_case choice frame (statement.ProcExit v) may none = process_exited frame v (alone (is_some shared.exit_value) (no_stops body shared t environment frame (statement.ProcExit v) none).1.1)
  running_case choice frame (statement.ProcExitNow v) may none = process_ended_now frame v

  stop_case : (frame : Frame) (s : Stmt) (stop : Option Why) (other : Transition) → (stop ≡ None → Case (StatementIn frame s) status.Running other) → Case (StatementIn frame s) status.Running (stops_or stop other)
  stop_case frame s (Some why) other goes = stopped frame s why
  stop_case frame s None other goes = goes refl

  -- ---- suspended threads

  point_passed_case : (index : ℕ) (next : NextStatement) → Case next (status.AtPoint index) (passes_point index next)
  unfolding passes_point
  point_passed_case index (StatementIn frame (statement.PointCall i)) = point_passed frame index i
  point_passed_case index next = rests next (status.AtPoint index) (λ known. refl)

  join_value_case : (id : ℕ) (target : Thread) → environment.named id ≡ Some target → (s : Status) → target.status ≡ s → (next : NextStatement) → Case next (status.Joining id) (joins_at (exit_value_of s) id next)
  unfolding ends_join
  join_value_case id target is (status.Ended v) ended (StatementIn frame (statement.Join operand d)) = join_ended frame operand d id v target is ended
  join_value_case id target is s ended next = rests next (status.Joining id) (λ known. refl)

  join_ended_case : (id : ℕ) (next : NextStatement) (found : Option Thread) → environment.named id ≡ found → Case next (status.Joining id) (joins_at (option_and_then (λ u. exit_value_of u.status) found) id next)
  join_ended_case id next (Some target) is = join_value_case id target is target.status refl next
  join_ended_case id next None is = rests next (status.Joining id) (λ known. refl)

  taken_case : (choice : Alt) (sem : ℕ) (next : NextStatement) → Goes choice next (status.InSem sem) → Case next (status.InSem sem) (ends_sem_wait choice sem (slice_index shared.counts sem) next)
  unfolding ends_sem_wait
  taken_case choice sem (StatementIn frame (statement.SemWait s)) may = sem_taken frame s sem (goes_untimed choice (StatementIn frame (statement.SemWait s)) (status.InSem sem) may refl)
  taken_case alt.Expire sem (StatementIn frame (statement.SemTimedWait result s)) may = sem_wait_timed_out frame result s sem (λ known. expired_before (may_be (λ is. (may is).0) known))
  taken_case choice sem (StatementIn frame (statement.SemTimedWait result s)) may = timed_sem_taken frame result s sem (goes choice (StatementIn frame (statement.SemTimedWait result s)) (status.InSem sem) may refl)
  taken_case choice sem next may = rests next (status.InSem sem) (λ known. refl)

  reacquired_case : (c m : ℕ) (why : Cause) (next : NextStatement) → (offered ≡ true → goes_at shared environment (status.Reacquire c m why) ≡ true) → Case next (status.Reacquire c m why) (reacquires t.id c m why next)
  unfolding reacquires
  reacquired_case c m cause.Canceled next free = ended_in_wait next c m free
  reacquired_case c m cause.TimedOut (StatementIn frame (statement.CondTimedWait result cond mutex)) free = wait_timed_out frame result cond mutex c m free
  reacquired_case c m cause.TimedOut next free = rests next (status.Reacquire c m cause.TimedOut) (λ known. refl)
  reacquired_case c m why (StatementIn frame (statement.CondWait cond mutex)) free = wait_ended frame cond mutex c m why refl free
  reacquired_case c m why (StatementIn frame (statement.CondTimedWait result cond mutex)) free = timed_wait_ended frame result cond mutex c m why refl free
  reacquired_case c m why next free = rests next (status.Reacquire c m why) (λ known. refl)

  reaped_case : (frame : Frame) (result d : Dest) (operand : Operand) (pid : ℕ) (child : Child) → environment.family.child pid ≡ Some child → (ended : Option ℕ) → child.ended ≡ ended
      → Case (StatementIn frame (statement.WaitPid result operand d)) (status.InWaitPid pid) (reaps_if ended pid (suc frame.pc) result d)
  unfolding reaps
  reaped_case frame result d operand pid child is (Some n) ended = child_reaped frame result d operand pid n child is ended
  reaped_case frame result d operand pid child is None ended = rests (StatementIn frame (statement.WaitPid result operand d)) (status.InWaitPid pid) (λ known. refl)

  waited_case : (pid : ℕ) (found : Option Child) → environment.family.child pid ≡ found → (next : NextStatement) → Case next (status.InWaitPid pid) (waits_at found pid next)
  unfolding finds_no_child
  waited_case pid (Some child) is (StatementIn frame (statement.WaitPid result operand d)) = reaped_case frame result d operand pid child is child.ended refl
  waited_case pid None is (StatementIn frame (statement.WaitPid result operand d)) = child_lost frame result d operand pid
  waited_case pid found is next = rests next (status.InWaitPid pid) (λ known. refl)

  -- ---- threads in fork

  forked_case : (at : ForkAt) → at.phase ≡ Prepare → (next : NextStatement) (new_pid : Option ℕ) → environment.family.new_pid ≡ new_pid → Case next (status.Forking at) (forks_by at.length new_pid)
  unfolding forks_by
  forked_case at prepares next (Some new) is = process_forked next at new prepares is
  forked_case at prepares next None is = process_not_forked next at prepares

  parent_case : (frame : Frame) (result child : Dest) (at : ForkAt) → at.phase ≡ Parent → (none : Bool)
      → Case (StatementIn frame (statement.Fork result child)) (status.Forking at) (cond none (record (goes_on (suc frame.pc) []) { writes = (result, EAGAIN) ∷ [] }) (record (goes_on (suc frame.pc) []) { writes = (result, 0) ∷ (child, at.answer) ∷ [] }))
  parent_case frame result child at returns true = fork_failed frame result child at returns
  parent_case frame result child at returns false = fork_returned frame result child at at.answer

  -- a thread in fork goes on where no handler of the phase is left
  phase_case : (phase : Phase) (at : ForkAt) → at.phase ≡ phase → (next : NextStatement) → Case next (status.Forking at) (goes_on_after_handlers phase at environment.family.new_pid next)
  unfolding returns_in_parent returns_in_child
  phase_case Prepare at is next = forked_case at is next environment.family.new_pid refl
  phase_case Parent at is (StatementIn frame (statement.Fork result child)) = parent_case frame result child at is (nat_eq at.answer 0)
  phase_case ChildPhase at is (StatementIn frame (statement.Fork result child)) = fork_returned frame result child at 0
  phase_case phase at is next = rests next (status.Forking at) (λ known. refl)

  -- a thread in fork goes on: it calls the handler that is left, if one is
  forking_case : (at : ForkAt) (next : NextStatement) (left : Option HandlerCall) → next_handler shared.fork_handlers at ≡ left → Case next (status.Forking at) (goes_on_forking left at environment.family.new_pid next)
  unfolding calls_handler
  forking_case at next (Some call) is = fork_handler_called next at call is
  forking_case at next None is = phase_case at.phase at refl next

  -- ---- threads that end

  module _ (next : NextStatement) (no_handlers : t.handlers ≡ []) where
    -- no key is left in the pass
    abbrev NoneLeft : Type 0
    NoneLeft = offered ≡ true → left_keys shared.keys t.specific ≡ []

    -- the number of keys of which the destructor is due
    abbrev due : ℕ
    due = due_keys shared.keys t

    destructor_by : (k : ℕ) (key : Key) → (offered ≡ true → list_any (nat_eq k) (left_keys shared.keys t.specific) ≡ true) → key_with k shared.keys ≡ Some key → (destructor : Option ℕ) → key.destructor ≡ destructor
        → Case next status.Ending (calls_destructor t.pass k (value_at (key_place k) t.specific) destructor)
    unfolding calls_destructor
    destructor_by k key among is (Some f) destructor_is = destructor_called next k f key no_handlers is destructor_is among
    destructor_by k key among is None destructor_is = rests next status.Ending (λ known. refl)

    destructor_case : (k : ℕ) → (offered ≡ true → list_any (nat_eq k) (left_keys shared.keys t.specific) ≡ true) → (found : Option Key) → key_with k shared.keys ≡ found
        → Case next status.Ending (calls_destructor t.pass k (value_at (key_place k) t.specific) (option_and_then (λ key. key.destructor) found))
    unfolding calls_destructor
    destructor_case k among (Some key) is = destructor_by k key among is key.destructor refl
    destructor_case k among None is = rests next status.Ending (λ known. refl)

    ended_by : NoneLeft → (left : ℕ) → left ≡ due → (0 < left → passes ≤ t.pass) → (none : Bool) → nat_eq left 0 ≡ none → Case next status.Ending (record (acts (cond none [] (what.Leftover left ∷ []) ++ what.EndedWith (end_value t.reason) ∷ [])) { own = Some (own_action.EndThread (end_value t.reason)) })
    ended_by none_left left all last true is = thread_ended next no_handlers (sym all ∙ eqb-true left 0 is) none_left
    ended_by none_left left all last false is = let some : 0 < left = pos_of_ne-zero (eqb-false left 0 is) in thread_ended_with_keys next left no_handlers some (last some) all none_left

    last_ended_by : NoneLeft → environment.is_last ≡ true → (left : ℕ) → left ≡ due → (0 < left → passes ≤ t.pass) → (none : Bool) → nat_eq left 0 ≡ none
        → Case next status.Ending (record (acts (cond none [] (what.Leftover left ∷ []) ++ what.EndedWith (end_value t.reason) ∷ what.ExitBegun 0 ∷ [])) { own = Some own_action.EndLast; shared = Some (shared_action.BeginExit 0) })
    last_ended_by none_left is_last left all last true is = last_ended next no_handlers is_last (sym all ∙ eqb-true left 0 is) none_left
    last_ended_by none_left is_last left all last false is = let some : 0 < left = pos_of_ne-zero (eqb-false left 0 is) in last_ended_with_keys next left no_handlers is_last some (last some) all none_left

    ended_case : NoneLeft → (left : ℕ) → left ≡ due → (0 < left → passes ≤ t.pass) → (is_last : Bool) → environment.is_last ≡ is_last → Case next status.Ending (ends_thread is_last left (end_value t.reason))
    unfolding ends_thread
    ended_case none_left left all last true is = last_ended_by none_left is left all last (nat_eq left 0) refl
    ended_case none_left left all last false is = ended_by none_left left all last (nat_eq left 0) refl

    -- keys are due, and the limit allows a pass
    pass_by : NoneLeft → (left : ℕ) → left ≡ due → (some more : Bool) → not (nat_eq left 0) ≡ some → nat_lt t.pass passes ≡ more
        → Case next status.Ending (cond (some && more) (record (acts (what.PassBegun (suc t.pass) ∷ [])) { own = Some own_action.BeginPass }) (ends_thread environment.is_last left (end_value t.reason)))
    pass_by none_left left all true true is below = pass_begun next no_handlers (ltb-true t.pass passes below) (subst (λ n. 0 < n) all (pos_of_ne-zero (eqb-false left 0 (not-true (nat_eq left 0) is)))) none_left
    pass_by none_left left all true false is past = ended_case none_left left all (λ some. ltb-false t.pass passes past) environment.is_last refl
    pass_by none_left left all false more is limit =
        let nothing : left ≡ 0 = eqb-true left 0 (not-false (nat_eq left 0) is) in
        ended_case none_left left all (λ some. absurd (omega (arith, some, nothing))) environment.is_last refl

  ending_case : (choice : Alt) (next : NextStatement) → Legal choice next status.Ending → (handlers : List (ℕ × ℕ)) → t.handlers ≡ handlers
      → Case next status.Ending (goes_on_ending environment.is_last passes shared.keys t choice handlers)
  unfolding goes_on_ending
  ending_case choice next may ((f, a) ∷ handlers) is = handler_run next f a handlers is
  ending_case (alt.Dtor k) next may [] is = destructor_case next is k (λ known. left_among (may_be may known)) (key_with k shared.keys) refl
  ending_case choice next may [] is =
      let due : ℕ = due_keys shared.keys t in
      pass_by next is (λ known. no_key_left body shared t environment choice next is refl (may known)) due refl (not (nat_eq due 0)) (nat_lt t.pass passes) refl refl

  exit_case : (next : NextStatement) (functions : List ℕ) → shared.exit_functions ≡ functions → (exit_value : Option ℕ) → shared.exit_value ≡ exit_value → Case next status.Exiting (goes_on_exiting functions exit_value)
  unfolding goes_on_exiting ends_now
  exit_case next (f ∷ functions) is exit_value value_is = exit_function_called next f functions is
  exit_case next [] is (Some v) value_is = process_ended next v value_is is
  exit_case next [] is None value_is = rests next status.Exiting (λ known. refl)

  -- ---- the table

  -- where the thread goes on
  pub going_case : (choice : Alt) (next : NextStatement) (s : Status) → Goes choice next s → Case next s (transition_at passes body shared t environment choice next s)
  unfolding transition_at expires
  going_case choice (StatementIn frame s) status.Running may = stop_case frame s (stop_at body shared t environment frame s) (runs passes body shared t environment choice frame s) (running_case choice frame s may)
  going_case choice next (status.AtPoint index) may = point_passed_case index next
  going_case choice next (status.Joining id) may = join_ended_case id next (environment.named id) refl
  going_case choice next (status.InSem sem) may = taken_case choice sem next may
  going_case choice next (status.InWaitPid pid) may = waited_case pid (environment.family.child pid) refl next
  going_case choice next (status.Waiting c m) may = wait_expired next c m (λ known. may_expire_in_wait (offered_of body shared t environment choice next (status.Waiting c m) (may known).0) (may known).1)
  going_case choice next (status.Reacquire c m why) may = reacquired_case c m why next (goes_untimed choice next (status.Reacquire c m why) may refl)
  going_case choice next status.Ending may = ending_case choice next (λ known. (may known).0) t.handlers refl
  going_case choice next (status.Forking at) may = forking_case at next (next_handler shared.fork_handlers at) refl
  going_case choice next status.Exiting may = exit_case next shared.exit_functions refl shared.exit_value refl
  going_case choice next s may = rests next s (λ known. offered_alive (offered_of body shared t environment choice next s (may known).0))

  handing_case : (u : ℕ) (next : NextStatement) (c m : ℕ) → (offered ≡ true → Offered shared t environment next (status.Reacquire c m cause.Signalled) (alt.Act u)) → (none : Bool) → nat_eq u 0 ≡ none
      → Case next (status.Reacquire c m cause.Signalled) (cond none (leaves_wait c m) (record (acts (what.WaitCanceled c ∷ what.HandedOn c u ∷ [])) { own = Some (own_action.SetStatus (status.Reacquire c m cause.Canceled)); named = Some (named_action.Wake u) }))
  unfolding leaves_wait
  handing_case u next c m may true is = canceled_after_wait next c m cause.Signalled refl (λ known. act_delivered (may known))
  handing_case u next c m may false is = signal_handed_on next c m u (λ known. act_delivered (may known)) (λ known. heir_among (may known) is)

  acting_case : (n : ℕ) (next : NextStatement) (s : Status) → (offered ≡ true → Offered shared t environment next s (alt.Act n)) → Case next s (acts_on_request n s)
  unfolding acts_on_request leaves_wait hands_on
  acting_case n next status.Running may = canceled next (λ known. act_delivered (may known)) (λ known. act_where_it_may (may known))
  acting_case n next (status.AtPoint index) may = canceled_at_point next index (λ known. act_delivered (may known))
  acting_case n next (status.Joining id) may = canceled_in_join next id (λ known. act_delivered (may known))
  acting_case n next (status.InSem sem) may = canceled_in_sem_wait next sem (λ known. act_delivered (may known))
  acting_case n next (status.InWaitPid pid) may = canceled_in_waitpid next pid (λ known. act_delivered (may known))
  acting_case n next (status.Waiting c m) may = canceled_in_wait next c m (λ known. act_delivered (may known))
  acting_case n next (status.Reacquire c m cause.Signalled) may = handing_case n next c m may (nat_eq n 0) refl
  acting_case n next (status.Reacquire c m cause.Broadcast) may = canceled_after_wait next c m cause.Broadcast refl (λ known. act_delivered (may known))
  acting_case n next (status.Reacquire c m cause.TimedOut) may = canceled_after_wait next c m cause.TimedOut refl (λ known. act_delivered (may known))
  acting_case n next s may = rests next s (λ known. offered_alive (may known))

  -- the case of the transition that a choice makes
  pub case_of : (choice : Alt) (next : NextStatement) (s : Status) → Legal choice next s → Case next s (acts_or choice s (transition_at passes body shared t environment choice next s))
  case_of (alt.Act n) next s may = acting_case n next s (may_be may)
  case_of choice next s may = going_case choice next s (λ known. (may known, refl))
