-- What the transition of a thread can be, by case: one case for each shape of transition, with its actions and events in full, and
-- with what is known of the thread where it is made. A proof about transitions has a clause for each case of which it has something to
-- say, and one for all others.
use Rattle.pct_names.proofs.Names.{◌%◌, ◌&&◌, ◌+◌, ◌-◌, ◌<◌, [], acts, after_block, after_end, after_test, Asynchronous, Bool, Busy, Fresh, once_at}
use Rattle.pct_names.proofs.Names.{calls_cancellation_point, Cause, cond_timedwait_point, cond_wait_point, creates_thread, Dest, due_keys}
use Rattle.pct_names.proofs.Names.{EAGAIN, ECHILD, end_value, ENOMEM, Environment, ETIMEDOUT, false, ForkAt, ForkHandlers, Frame, goes_on}
use Rattle.pct_names.proofs.Names.{handler_event, HandlerCall, has_begun_to_end, has_left_wait, is_deliverable, is_ended_status}
use Rattle.pct_names.proofs.Names.{is_free_mutex, is_in_handler, is_none, is_required, is_some, is_timed_wait, join_point, Key, key_place}
use Rattle.pct_names.proofs.Names.{key_with, left_keys, length, List, list_any, MAX_FORK_HANDLERS, MAX_FRAMES, MAX_HANDLERS, may_register}
use Rattle.pct_names.proofs.Names.{mode_if, mode_number, nat_eq, nat_lt, new_keys, next_handler, NextStatement, no_change, None, open_of}
use Rattle.pct_names.proofs.Names.{Operand, Option, owns, Parent, point_kind, Prepare, Required, sem_timedwait_point, sem_wait_point}
use Rattle.pct_names.proofs.Names.{SharedState, slice_index, Some, state_if, state_number, StatementIn, Status, Stmt, stops, suc}
use Rattle.pct_names.proofs.Names.{testcancel_point, Thread, Transition, true, value_at, value_of, variable_value, waitpid_point}
use Rattle.pct_names.proofs.Names.{waits_with_another_mutex, while_called, Why, ℕ, ◌∷◌, ◌≡◌, ◌≤◌, ◌⊎◌}
use Rattle.pct_model.specs.declared.event.Caller.TheVariants as caller
use Rattle.pct_model.specs.declared.event.What.TheVariants as what
use Rattle.pct_model.specs.declared.process.Child.{Child}
use Rattle.pct_model.specs.declared.state.Cause.TheVariants as cause
use Rattle.pct_model.specs.declared.state.FrameKind.TheVariants as kind
use Rattle.pct_model.specs.declared.state.OnceState.TheVariants.{Done as OnceDone}
use Rattle.pct_model.specs.declared.state.Reason.TheVariants as reason
use Rattle.pct_model.specs.declared.state.Status.TheVariants as status
use Rattle.pct_model.specs.declared.statement.Stmt.TheVariants as statement
use Rattle.pct_model.specs.declared.transition.NamedAction.TheVariants as named_action
use Rattle.pct_model.specs.declared.transition.OwnAction.TheVariants as own_action
use Rattle.pct_model.specs.declared.transition.ProcessAction.TheVariants as process_action
use Rattle.pct_model.specs.declared.transition.SharedAction.TheVariants as shared_action

-- ---- jumps and returns

module _ (body : List Stmt) (globals : List ℕ) (frame : Frame) where
  -- a statement that changes nothing but the pc, and the pc to which it leads
  pub data Leads : Stmt → ℕ → Type 0 where
    past_nop : Leads statement.Nop (suc frame.pc)
    past_if : (v : Operand) → Leads (statement.If v) (after_test body frame.pc (value_of globals frame v))
    past_while : (v : Operand) → Leads (statement.While v) (after_test body frame.pc (value_of globals frame v))
    past_else : Leads statement.Else (after_block body frame.pc)
    past_end : (opened : ℕ) → open_of body frame.pc ≡ Some opened → Leads statement.End (after_end body frame.pc opened)

  -- a statement that returns from its function, and the value
  pub data Returns : Stmt → ℕ → Type 0 where
    by_return : (v : Operand) → Returns (statement.Return v) (value_of globals frame v)
    by_end : open_of body frame.pc ≡ None → Returns statement.End 0

-- ---- the cases

-- a thread that waits is unblocked by another one: by a signal or a broadcast
abbrev pub is_wake_up : Cause → Bool
is_wake_up cause.Signalled = true
is_wake_up cause.Broadcast = true
is_wake_up _ = false

module _ (passes : ℕ) (body : List Stmt) (shared : SharedState) (t : Thread) (environment : Environment) (offered : Bool) where
  -- the value of an operand
  abbrev value : Frame → Operand → ℕ
  value frame v = value_of shared.globals frame v

  -- the transition of a thread at a statement, with a status. Where the choice that makes it is known to be offered, `offered` is true,
  -- and the case has what is known of the thread then
  pub data TransitionCase : NextStatement → Status → Transition → Type 0 where
    -- it changes nothing
    rests : (next : NextStatement) (s : Status) → (offered ≡ true → is_ended_status s ≡ false) → TransitionCase next s no_change
    stopped : (frame : Frame) (s : Stmt) (why : Why) → TransitionCase (StatementIn frame s) status.Running (stops why)
    -- statements of the script language
    jumped : (frame : Frame) (s : Stmt) (pc : ℕ) → Leads body shared.globals frame s pc → TransitionCase (StatementIn frame s) status.Running (goes_on pc [])
    emitted : (frame : Frame) (v : Operand) → TransitionCase (StatementIn frame (statement.Emit v)) status.Running (goes_on (suc frame.pc) (what.Emit (value frame v) ∷ []))
    variable_set : (frame : Frame) (d : Dest) (v : Operand) → TransitionCase (StatementIn frame (statement.Set d v)) status.Running (record (goes_on (suc frame.pc) []) { writes = (d, value frame v) ∷ [] })
    variable_added : (frame : Frame) (d : Dest) (v : Operand)
        → TransitionCase (StatementIn frame (statement.Add d v)) status.Running (record (goes_on (suc frame.pc) []) { writes = (d, (variable_value shared.globals frame d + value frame v) % 4294967296) ∷ [] })
    function_called : (frame : Frame) (f : ℕ) (v : Operand) → length t.frames < MAX_FRAMES
        → TransitionCase (StatementIn frame (statement.Do f v)) status.Running (record (goes_on (suc frame.pc) []) { own = Some (own_action.Call f (value frame v) kind.Call) })
    -- returns, by the kind of the frame
    main_returned : (frame : Frame) (s : Stmt) (v : ℕ) → Returns body shared.globals frame s v → frame.kind ≡ kind.Main → is_some shared.exit_value ≡ false
        → TransitionCase (StatementIn frame s) status.Running (record (acts (what.ExitBegun v ∷ [])) { own = Some own_action.BeginExit; shared = Some (shared_action.BeginExit v) })
    start_returned : (frame : Frame) (s : Stmt) (v : ℕ) → Returns body shared.globals frame s v → frame.kind ≡ kind.Start
        → TransitionCase (StatementIn frame s) status.Running (record (acts (what.EndingExit v ∷ [])) { own = Some (own_action.BeginEnd (reason.Exit v)) })
    call_left : (frame : Frame) (s : Stmt) (v : ℕ) → Returns body shared.globals frame s v → (frame.kind ≡ kind.Call) ⊎ (frame.kind ≡ kind.PopHandler)
        → TransitionCase (StatementIn frame s) status.Running (record (acts []) { own = Some (own_action.Leave status.Running) })
    handler_left : (frame : Frame) (s : Stmt) (v : ℕ) → Returns body shared.globals frame s v → (frame.kind ≡ kind.Handler) ⊎ (frame.kind ≡ kind.Destructor)
        → TransitionCase (StatementIn frame s) status.Running (record (acts []) { own = Some (own_action.Leave status.Ending) })
    exit_function_left : (frame : Frame) (s : Stmt) (v : ℕ) → Returns body shared.globals frame s v → frame.kind ≡ kind.ExitFn
        → TransitionCase (StatementIn frame s) status.Running (record (acts []) { own = Some (own_action.Leave status.Exiting) })
    routine_left : (frame : Frame) (s : Stmt) (v o : ℕ) → Returns body shared.globals frame s v → frame.kind ≡ kind.OnceFn o
        → TransitionCase (StatementIn frame s) status.Running (record (acts (what.OnceDone o ∷ [])) { own = Some (own_action.Leave status.Running); shared = Some (shared_action.SetOnce o OnceDone) })
    -- threads
    thread_made : (frame : Frame) (result id : Dest) (f : ℕ) (v : Operand) (detached : Bool) (new : ℕ) → (offered ≡ true → list_any (nat_eq new) environment.new_ids ≡ true)
        → TransitionCase (StatementIn frame (statement.Create result id f v detached)) status.Running
        (record (creates_thread (suc frame.pc) (record { id = new; detached = detached; func = f; arg = value frame v }) (what.Created new detached ∷ [])) { writes = (result, 0) ∷ (id, new) ∷ [] })
    thread_not_made : (frame : Frame) (result id : Dest) (f : ℕ) (v : Operand) (detached : Bool)
        → TransitionCase (StatementIn frame (statement.Create result id f v detached)) status.Running (record (goes_on (suc frame.pc) (what.Answer caller.Create EAGAIN ∷ [])) { writes = (result, EAGAIN) ∷ [] })
    join_begun : (frame : Frame) (id : Operand) (d : Dest) (target : Thread) → environment.named (value frame id) ≡ Some target → nat_eq (value frame id) t.id ≡ false → target.detached ≡ false → environment.another_joins (value frame id) ≡ false → (offered ≡ true → is_deliverable t.state t.pending ≡ false)
        → TransitionCase (StatementIn frame (statement.Join id d)) status.Running (record (acts (what.Called join_point ∷ [])) { own = Some (own_action.SetStatus (status.Joining (value frame id))) })
    join_ended : (frame : Frame) (operand : Operand) (d : Dest) (id v : ℕ) (target : Thread) → environment.named id ≡ Some target → target.status ≡ status.Ended v
        → TransitionCase (StatementIn frame (statement.Join operand d)) (status.Joining id) (record (goes_on (suc frame.pc) (what.Joined id v ∷ [])) { writes = (d, v) ∷ []; named = Some (named_action.EndJoin id) })
    thread_detached : (frame : Frame) (id : Operand) (target : Thread) → environment.named (value frame id) ≡ Some target → target.detached ≡ false → environment.another_joins (value frame id) ≡ false
        → TransitionCase (StatementIn frame (statement.Detach id)) status.Running (record (goes_on (suc frame.pc) (what.Detached (value frame id) ∷ [])) { named = Some (named_action.Detach (value frame id)) })
    self_got : (frame : Frame) (d : Dest) → TransitionCase (StatementIn frame (statement.SelfId d)) status.Running (record (goes_on (suc frame.pc) []) { writes = (d, t.id) ∷ [] })
    -- cancellation
    request_sent : (frame : Frame) (id : Operand) (target : Thread) → environment.named (value frame id) ≡ Some target
        → TransitionCase (StatementIn frame (statement.CancelThread id)) status.Running (record (goes_on (suc frame.pc) (what.Request (value frame id) ∷ [])) { named = Some (named_action.Request (value frame id)) })
    state_set : (frame : Frame) (enable : Bool) (old : Dest) → enable && is_in_handler t.frames ≡ false
        → TransitionCase (StatementIn frame (statement.SetState enable old)) status.Running (record (goes_on (suc frame.pc) (what.StateSet enable ∷ [])) { writes = (old, state_number t.state) ∷ []; own = Some (own_action.SetState (state_if enable)) })
    mode_set : (frame : Frame) (asynchronous : Bool) (old : Dest)
        → TransitionCase (StatementIn frame (statement.SetMode asynchronous old)) status.Running (record (goes_on (suc frame.pc) (what.ModeSet asynchronous ∷ [])) { writes = (old, mode_number t.mode) ∷ []; own = Some (own_action.SetMode (mode_if asynchronous)) })
    cancel_tested : (frame : Frame) → (offered ≡ true → is_deliverable t.state t.pending ≡ false)
        → TransitionCase (StatementIn frame statement.TestCancel) status.Running (goes_on (suc frame.pc) (what.Done testcancel_point ∷ []))
    point_begun : (frame : Frame) (index : ℕ) → point_kind index ≡ Some Required → (offered ≡ true → is_deliverable t.state t.pending ≡ false)
        → TransitionCase (StatementIn frame (statement.PointCall index)) status.Running (record (acts (what.Called index ∷ [])) { own = Some (own_action.SetStatus (status.AtPoint index)) })
    point_done : (frame : Frame) (index : ℕ) → is_required (point_kind index) ≡ false → TransitionCase (StatementIn frame (statement.PointCall index)) status.Running (goes_on (suc frame.pc) (what.Done index ∷ []))
    point_passed : (frame : Frame) (index i : ℕ) → TransitionCase (StatementIn frame (statement.PointCall i)) (status.AtPoint index) (goes_on (suc frame.pc) (what.Done index ∷ []))
    canceled : (next : NextStatement) → (offered ≡ true → is_deliverable t.state t.pending ≡ true) → (offered ≡ true → calls_cancellation_point next ≡ false → t.mode ≡ Asynchronous)
        → TransitionCase next status.Running (record (acts (what.EndingCanceled ∷ [])) { own = Some (own_action.BeginEnd reason.Canceled) })
    canceled_at_point : (next : NextStatement) (index : ℕ) → (offered ≡ true → is_deliverable t.state t.pending ≡ true)
        → TransitionCase next (status.AtPoint index) (record (acts (what.EndingCanceled ∷ [])) { own = Some (own_action.BeginEnd reason.Canceled) })
    canceled_in_join : (next : NextStatement) (id : ℕ) → (offered ≡ true → is_deliverable t.state t.pending ≡ true)
        → TransitionCase next (status.Joining id) (record (acts (what.EndingCanceled ∷ [])) { own = Some (own_action.BeginEnd reason.Canceled) })
    canceled_in_sem_wait : (next : NextStatement) (sem : ℕ) → (offered ≡ true → is_deliverable t.state t.pending ≡ true)
        → TransitionCase next (status.InSem sem) (record (acts (what.EndingCanceled ∷ [])) { own = Some (own_action.BeginEnd reason.Canceled) })
    canceled_in_waitpid : (next : NextStatement) (pid : ℕ) → (offered ≡ true → is_deliverable t.state t.pending ≡ true)
        → TransitionCase next (status.InWaitPid pid) (record (acts (what.EndingCanceled ∷ [])) { own = Some (own_action.BeginEnd reason.Canceled) })
    -- mutexes
    mutex_locked : (frame : Frame) (m : ℕ) → (offered ≡ true → is_free_mutex m shared ≡ true)
        → TransitionCase (StatementIn frame (statement.Lock m)) status.Running (record (goes_on (suc frame.pc) (what.Acquired m ∷ [])) { shared = Some (shared_action.OwnMutex m t.id) })
    mutex_unlocked : (frame : Frame) (m : ℕ) → owns t.id m shared ≡ true
        → TransitionCase (StatementIn frame (statement.Unlock m)) status.Running (record (goes_on (suc frame.pc) (what.Released m ∷ [])) { shared = Some (shared_action.OwnMutex m 0) })
    -- condition waits: the call; the return, by a signal or a broadcast; for one with a time, that it expires, and the return then; and the two
    -- steps by which a request ends one
    wait_begun : (frame : Frame) (c m : ℕ) → owns t.id m shared ≡ true → waits_with_another_mutex c m environment ≡ false → (offered ≡ true → is_deliverable t.state t.pending ≡ false)
        → TransitionCase (StatementIn frame (statement.CondWait c m)) status.Running (record (acts (what.Called cond_wait_point ∷ what.Released m ∷ [])) { own = Some (own_action.SetStatus (status.Waiting c m)); shared = Some (shared_action.OwnMutex m 0) })
    timed_wait_begun : (frame : Frame) (result : Dest) (c m : ℕ) → owns t.id m shared ≡ true → waits_with_another_mutex c m environment ≡ false → (offered ≡ true → is_deliverable t.state t.pending ≡ false)
        → TransitionCase (StatementIn frame (statement.CondTimedWait result c m)) status.Running (record (acts (what.Called cond_timedwait_point ∷ what.Released m ∷ [])) { own = Some (own_action.SetStatus (status.Waiting c m)); shared = Some (shared_action.OwnMutex m 0) })
    wait_ended : (frame : Frame) (cond mutex c m : ℕ) (why : Cause) → is_wake_up why ≡ true → (offered ≡ true → is_free_mutex m shared ≡ true)
        → TransitionCase (StatementIn frame (statement.CondWait cond mutex)) (status.Reacquire c m why) (record (goes_on (suc frame.pc) (what.Acquired m ∷ what.Done cond_wait_point ∷ [])) { shared = Some (shared_action.OwnMutex m t.id) })
    timed_wait_ended : (frame : Frame) (result : Dest) (cond mutex c m : ℕ) (why : Cause) → is_wake_up why ≡ true → (offered ≡ true → is_free_mutex m shared ≡ true)
        → TransitionCase (StatementIn frame (statement.CondTimedWait result cond mutex)) (status.Reacquire c m why)
        (record (goes_on (suc frame.pc) (what.Acquired m ∷ what.Done cond_timedwait_point ∷ [])) { writes = (result, 0) ∷ []; shared = Some (shared_action.OwnMutex m t.id) })
    wait_expired : (next : NextStatement) (c m : ℕ) → (offered ≡ true → is_timed_wait next ≡ true)
        → TransitionCase next (status.Waiting c m) (record (acts (what.WaitExpired c ∷ [])) { own = Some (own_action.SetStatus (status.Reacquire c m cause.TimedOut)) })
    wait_timed_out : (frame : Frame) (result : Dest) (cond mutex c m : ℕ) → (offered ≡ true → is_free_mutex m shared ≡ true)
        → TransitionCase (StatementIn frame (statement.CondTimedWait result cond mutex)) (status.Reacquire c m cause.TimedOut)
        (record (goes_on (suc frame.pc) (what.Acquired m ∷ what.Answer caller.CondTimedWait ETIMEDOUT ∷ [])) { writes = (result, ETIMEDOUT) ∷ []; shared = Some (shared_action.OwnMutex m t.id) })
    canceled_in_wait : (next : NextStatement) (c m : ℕ) → (offered ≡ true → is_deliverable t.state t.pending ≡ true)
        → TransitionCase next (status.Waiting c m) (record (acts (what.WaitCanceled c ∷ [])) { own = Some (own_action.SetStatus (status.Reacquire c m cause.Canceled)) })
    canceled_after_wait : (next : NextStatement) (c m : ℕ) (why : Cause) → has_left_wait (status.Reacquire c m why) ≡ false → (offered ≡ true → is_deliverable t.state t.pending ≡ true)
        → TransitionCase next (status.Reacquire c m why) (record (acts (what.WaitCanceled c ∷ [])) { own = Some (own_action.SetStatus (status.Reacquire c m cause.Canceled)) })
    signal_handed_on : (next : NextStatement) (c m u : ℕ) → (offered ≡ true → is_deliverable t.state t.pending ≡ true) → (offered ≡ true → list_any (λ waiter. nat_eq u waiter.id) (environment.waiters c) ≡ true)
        → TransitionCase next (status.Reacquire c m cause.Signalled) (record (acts (what.WaitCanceled c ∷ what.HandedOn c u ∷ [])) { own = Some (own_action.SetStatus (status.Reacquire c m cause.Canceled)); named = Some (named_action.Wake u) })
    ended_in_wait : (next : NextStatement) (c m : ℕ) → (offered ≡ true → is_free_mutex m shared ≡ true)
        → TransitionCase next (status.Reacquire c m cause.Canceled) (record (acts (what.Acquired m ∷ what.EndingInWait c m ∷ [])) { own = Some (own_action.BeginEnd reason.Canceled); shared = Some (shared_action.OwnMutex m t.id) })
    -- signals and broadcasts
    signal_sent : (frame : Frame) (c u : ℕ) → (offered ≡ true → list_any (λ waiter. nat_eq u waiter.id) (environment.waiters c) ≡ true)
        → TransitionCase (StatementIn frame (statement.Signal c)) status.Running (record (goes_on (suc frame.pc) (what.Signalled c u ∷ [])) { named = Some (named_action.Wake u) })
    signal_lost : (frame : Frame) (c : ℕ) → TransitionCase (StatementIn frame (statement.Signal c)) status.Running (goes_on (suc frame.pc) (what.Signalled c 0 ∷ []))
    broadcast_sent : (frame : Frame) (c : ℕ)
        → TransitionCase (StatementIn frame (statement.Broadcast c)) status.Running (record (goes_on (suc frame.pc) (what.BroadcastTo c (length (environment.waiters c)) ∷ [])) { named = Some (named_action.WakeAll c) })
    -- semaphores
    sem_wait_begun : (frame : Frame) (sem : ℕ) → (offered ≡ true → is_deliverable t.state t.pending ≡ false)
        → TransitionCase (StatementIn frame (statement.SemWait sem)) status.Running (record (acts (what.Called sem_wait_point ∷ [])) { own = Some (own_action.SetStatus (status.InSem sem)) })
    sem_taken : (frame : Frame) (s sem : ℕ) → (offered ≡ true → nat_lt 0 (slice_index shared.counts sem) ≡ true)
        → TransitionCase (StatementIn frame (statement.SemWait s)) (status.InSem sem) (record (goes_on (suc frame.pc) (what.Taken sem ∷ [])) { shared = Some (shared_action.SetCount sem (slice_index shared.counts sem - 1)) })
    timed_sem_wait_begun : (frame : Frame) (result : Dest) (sem : ℕ) → (offered ≡ true → is_deliverable t.state t.pending ≡ false)
        → TransitionCase (StatementIn frame (statement.SemTimedWait result sem)) status.Running (record (acts (what.Called sem_timedwait_point ∷ [])) { own = Some (own_action.SetStatus (status.InSem sem)) })
    timed_sem_taken : (frame : Frame) (result : Dest) (s sem : ℕ) → (offered ≡ true → nat_lt 0 (slice_index shared.counts sem) ≡ true)
        → TransitionCase (StatementIn frame (statement.SemTimedWait result s)) (status.InSem sem)
        (record (goes_on (suc frame.pc) (what.Taken sem ∷ [])) { writes = (result, 0) ∷ []; shared = Some (shared_action.SetCount sem (slice_index shared.counts sem - 1)) })
    sem_wait_timed_out : (frame : Frame) (result : Dest) (s sem : ℕ) → (offered ≡ true → nat_lt 0 (slice_index shared.counts sem) ≡ false)
        → TransitionCase (StatementIn frame (statement.SemTimedWait result s)) (status.InSem sem) (record (goes_on (suc frame.pc) (what.Answer caller.SemTimedWait ETIMEDOUT ∷ [])) { writes = (result, ETIMEDOUT) ∷ [] })
    sem_posted : (frame : Frame) (sem : ℕ)
        → TransitionCase (StatementIn frame (statement.SemPost sem)) status.Running (record (goes_on (suc frame.pc) (what.Posted sem ∷ [])) { shared = Some (shared_action.SetCount sem (suc (slice_index shared.counts sem) % 4294967296)) })
    -- once controls
    routine_called : (frame : Frame) (o f : ℕ) → once_at shared.onces o ≡ Fresh → length t.frames < MAX_FRAMES
        → TransitionCase (StatementIn frame (statement.CallOnce o f)) status.Running (record (goes_on (suc frame.pc) (what.OnceCalled o ∷ [])) { own = Some (own_action.Call f 0 (kind.OnceFn o)); shared = Some (shared_action.SetOnce o (Busy t.id)) })
    routine_done : (frame : Frame) (o f : ℕ) → once_at shared.onces o ≡ OnceDone → TransitionCase (StatementIn frame (statement.CallOnce o f)) status.Running (goes_on (suc frame.pc) [])
    -- processes: pthread_atfork, the steps of fork with the calls of its handlers, and waitpid
    fork_registered : (frame : Frame) (result : Dest) (handlers : ForkHandlers) → length shared.fork_handlers < MAX_FORK_HANDLERS
        → TransitionCase (StatementIn frame (statement.AtFork result handlers.prepare handlers.parent handlers.child)) status.Running (record (goes_on (suc frame.pc) []) { writes = (result, 0) ∷ []; shared = Some (shared_action.AddForkHandlers handlers) })
    fork_not_registered : (frame : Frame) (result : Dest) (prepare parent child : Option ℕ)
        → TransitionCase (StatementIn frame (statement.AtFork result prepare parent child)) status.Running (record (goes_on (suc frame.pc) (what.Answer caller.AtFork ENOMEM ∷ [])) { writes = (result, ENOMEM) ∷ [] })
    fork_begun : (frame : Frame) (result child : Dest) → has_begun_to_end t.reason ≡ false
        → TransitionCase (StatementIn frame (statement.Fork result child)) status.Running (record (acts []) { own = Some (own_action.SetStatus (status.Forking (record { phase = Prepare; next = length shared.fork_handlers; length = length shared.fork_handlers; answer = 0 }))) })
    fork_handler_called : (next : NextStatement) (at : ForkAt) (call : HandlerCall) → next_handler shared.fork_handlers at ≡ Some call
        → TransitionCase next (status.Forking at) (record (acts (handler_event at.phase call.func ∷ [])) { own = Some (own_action.CallForkHandler (while_called at call.index) call.func) })
    fork_handler_left : (frame : Frame) (s : Stmt) (v : ℕ) (at : ForkAt) → Returns body shared.globals frame s v → frame.kind ≡ kind.ForkFn → t.kept ≡ Some at
        → TransitionCase (StatementIn frame s) status.Running (record (acts []) { own = Some (own_action.Leave (status.Forking at)) })
    process_forked : (next : NextStatement) (at : ForkAt) (new : ℕ) → at.phase ≡ Prepare → environment.family.new_pid ≡ Some new
        → TransitionCase next (status.Forking at) (record (acts (what.Forked new ∷ [])) { own = Some (own_action.SetStatus (status.Forking (record { phase = Parent; next = 0; length = at.length; answer = new }))); process = Some (process_action.Make new) })
    process_not_forked : (next : NextStatement) (at : ForkAt) → at.phase ≡ Prepare
        → TransitionCase next (status.Forking at) (record (acts (what.Answer caller.Fork EAGAIN ∷ [])) { own = Some (own_action.SetStatus (status.Forking (record { phase = Parent; next = 0; length = at.length; answer = 0 }))) })
    fork_failed : (frame : Frame) (result child : Dest) (at : ForkAt) → at.phase ≡ Parent
        → TransitionCase (StatementIn frame (statement.Fork result child)) (status.Forking at) (record (goes_on (suc frame.pc) []) { writes = (result, EAGAIN) ∷ [] })
    fork_returned : (frame : Frame) (result child : Dest) (at : ForkAt) (value : ℕ)
        → TransitionCase (StatementIn frame (statement.Fork result child)) (status.Forking at) (record (goes_on (suc frame.pc) []) { writes = (result, 0) ∷ (child, value) ∷ [] })
    waitpid_begun : (frame : Frame) (result d : Dest) (pid : Operand) → (offered ≡ true → is_deliverable t.state t.pending ≡ false)
        → TransitionCase (StatementIn frame (statement.WaitPid result pid d)) status.Running (record (acts (what.Called waitpid_point ∷ [])) { own = Some (own_action.SetStatus (status.InWaitPid (value frame pid))) })
    child_reaped : (frame : Frame) (result d : Dest) (operand : Operand) (pid n : ℕ) (child : Child) → environment.family.child pid ≡ Some child → child.ended ≡ Some n
        → TransitionCase (StatementIn frame (statement.WaitPid result operand d)) (status.InWaitPid pid) (record (goes_on (suc frame.pc) (what.Reaped pid n ∷ [])) { writes = (result, 0) ∷ (d, n) ∷ []; process = Some (process_action.Reap pid) })
    no_child_found : (frame : Frame) (result d : Dest) (operand : Operand) → (offered ≡ true → is_deliverable t.state t.pending ≡ false)
        → TransitionCase (StatementIn frame (statement.WaitPid result operand d)) status.Running (record (goes_on (suc frame.pc) (what.Answer caller.WaitPid ECHILD ∷ [])) { writes = (result, ECHILD) ∷ [] })
    child_lost : (frame : Frame) (result d : Dest) (operand : Operand) (pid : ℕ)
        → TransitionCase (StatementIn frame (statement.WaitPid result operand d)) (status.InWaitPid pid) (record (goes_on (suc frame.pc) (what.Answer caller.WaitPid ECHILD ∷ [])) { writes = (result, ECHILD) ∷ [] })
    -- keys
    key_made : (frame : Frame) (result key : Dest) (destructor : Option ℕ) (k : ℕ) → (offered ≡ true → list_any (nat_eq k) (new_keys shared.keys) ≡ true)
        → TransitionCase (StatementIn frame (statement.KeyCreate result key destructor)) status.Running (record (goes_on (suc frame.pc) (what.KeyMade k ∷ [])) { writes = (result, 0) ∷ (key, k) ∷ []; shared = Some (shared_action.MakeKey k destructor) })
    key_not_made : (frame : Frame) (result key : Dest) (destructor : Option ℕ)
        → TransitionCase (StatementIn frame (statement.KeyCreate result key destructor)) status.Running (record (goes_on (suc frame.pc) (what.Answer caller.KeyCreate EAGAIN ∷ [])) { writes = (result, EAGAIN) ∷ [] })
    key_deleted : (frame : Frame) (key : Operand) → is_none (key_with (value frame key) shared.keys) ≡ false
        → TransitionCase (StatementIn frame (statement.KeyDelete key)) status.Running (record (goes_on (suc frame.pc) (what.KeyGone (value frame key) ∷ [])) { shared = Some (shared_action.DeleteKey (value frame key)); named = Some (named_action.ForgetKey (value frame key)) })
    specific_set : (frame : Frame) (key v : Operand) → is_none (key_with (value frame key) shared.keys) ≡ false
        → TransitionCase (StatementIn frame (statement.SetSpecific key v)) status.Running (record (goes_on (suc frame.pc) []) { own = Some (own_action.SetSpecific (value frame key) (value frame v)) })
    specific_got : (frame : Frame) (d : Dest) (key : Operand)
        → TransitionCase (StatementIn frame (statement.GetSpecific d key)) status.Running (record (goes_on (suc frame.pc) []) { writes = (d, value_at (key_place (value frame key)) t.specific) ∷ [] })
    -- cleanup handlers
    handler_pushed : (frame : Frame) (f : ℕ) (v : Operand) → length t.handlers < MAX_HANDLERS
        → TransitionCase (StatementIn frame (statement.Push f v)) status.Running (record (goes_on (suc frame.pc) (what.Pushed f (value frame v) ∷ [])) { own = Some (own_action.PushHandler f (value frame v)) })
    handler_popped : (frame : Frame) (v : Operand) (f a : ℕ) (handlers : List (ℕ × ℕ)) → t.handlers ≡ (f, a) ∷ handlers → nat_eq (value frame v) 0 ≡ true
        → TransitionCase (StatementIn frame (statement.Pop v)) status.Running (record (goes_on (suc frame.pc) (what.Popped f a false ∷ [])) { own = Some own_action.PopHandler })
    handler_called : (frame : Frame) (v : Operand) (f a : ℕ) (handlers : List (ℕ × ℕ)) → t.handlers ≡ (f, a) ∷ handlers → length t.frames < MAX_FRAMES → nat_eq (value frame v) 0 ≡ false
        → TransitionCase (StatementIn frame (statement.Pop v)) status.Running (record (goes_on (suc frame.pc) (what.Popped f a true ∷ [])) { own = Some (own_action.CallHandler f a) })
    -- the end of a thread
    exit_called : (frame : Frame) (v : Operand) → has_begun_to_end t.reason ≡ false
        → TransitionCase (StatementIn frame (statement.ThreadExit v)) status.Running (record (acts (what.EndingExit (value frame v) ∷ [])) { own = Some (own_action.BeginEnd (reason.Exit (value frame v))) })
    handler_run : (next : NextStatement) (f a : ℕ) (handlers : List (ℕ × ℕ)) → t.handlers ≡ (f, a) ∷ handlers
        → TransitionCase next status.Ending (record (acts (what.HandlerRun f a ∷ [])) { own = Some (own_action.RunHandler f a) })
    destructor_called : (next : NextStatement) (k f : ℕ) (key : Key) → t.handlers ≡ [] → key_with k shared.keys ≡ Some key → key.destructor ≡ Some f → (offered ≡ true → list_any (nat_eq k) (left_keys shared.keys t.specific) ≡ true)
        → TransitionCase next status.Ending (record (acts (what.DtorRun t.pass k f (value_at (key_place k) t.specific) ∷ [])) { own = Some (own_action.RunDestructor k f (value_at (key_place k) t.specific)) })
    pass_begun : (next : NextStatement) → t.handlers ≡ [] → t.pass < passes → 0 < due_keys shared.keys t → (offered ≡ true → left_keys shared.keys t.specific ≡ [])
        → TransitionCase next status.Ending (record (acts (what.PassBegun (suc t.pass) ∷ [])) { own = Some own_action.BeginPass })
    thread_ended : (next : NextStatement) → t.handlers ≡ [] → due_keys shared.keys t ≡ 0 → (offered ≡ true → left_keys shared.keys t.specific ≡ [])
        → TransitionCase next status.Ending (record (acts (what.EndedWith (end_value t.reason) ∷ [])) { own = Some (own_action.EndThread (end_value t.reason)) })
    thread_ended_with_keys : (next : NextStatement) (left : ℕ) → t.handlers ≡ [] → 0 < left → passes ≤ t.pass → left ≡ due_keys shared.keys t → (offered ≡ true → left_keys shared.keys t.specific ≡ [])
        → TransitionCase next status.Ending (record (acts (what.Leftover left ∷ what.EndedWith (end_value t.reason) ∷ [])) { own = Some (own_action.EndThread (end_value t.reason)) })
    last_ended : (next : NextStatement) → t.handlers ≡ [] → environment.is_last ≡ true → due_keys shared.keys t ≡ 0 → (offered ≡ true → left_keys shared.keys t.specific ≡ [])
        → TransitionCase next status.Ending (record (acts (what.EndedWith (end_value t.reason) ∷ what.ExitBegun 0 ∷ [])) { own = Some own_action.EndLast; shared = Some (shared_action.BeginExit 0) })
    last_ended_with_keys : (next : NextStatement) (left : ℕ) → t.handlers ≡ [] → environment.is_last ≡ true → 0 < left → passes ≤ t.pass → left ≡ due_keys shared.keys t → (offered ≡ true → left_keys shared.keys t.specific ≡ [])
        → TransitionCase next status.Ending (record (acts (what.Leftover left ∷ what.EndedWith (end_value t.reason) ∷ what.ExitBegun 0 ∷ [])) { own = Some own_action.EndLast; shared = Some (shared_action.BeginExit 0) })
    -- the exit of a process, and its end
    exit_registered : (frame : Frame) (result : Dest) (f : ℕ) → may_register shared ≡ true
        → TransitionCase (StatementIn frame (statement.AtExit result f)) status.Running (record (goes_on (suc frame.pc) []) { writes = (result, 0) ∷ []; shared = Some (shared_action.AddExit f) })
    exit_not_registered : (frame : Frame) (result : Dest) (f : ℕ)
        → TransitionCase (StatementIn frame (statement.AtExit result f)) status.Running (record (goes_on (suc frame.pc) (what.Answer caller.AtExit 1 ∷ [])) { writes = (result, 1) ∷ [] })
    process_exited : (frame : Frame) (v : Operand) → is_some shared.exit_value ≡ false
        → TransitionCase (StatementIn frame (statement.ProcExit v)) status.Running (record (acts (what.ExitBegun (value frame v) ∷ [])) { own = Some own_action.BeginExit; shared = Some (shared_action.BeginExit (value frame v)) })
    process_ended_now : (frame : Frame) (v : Operand)
        → TransitionCase (StatementIn frame (statement.ProcExitNow v)) status.Running (record (acts (what.ProcessEnded (value frame v % 256) ∷ [])) { process = Some (process_action.End (value frame v % 256)) })
    exit_function_called : (next : NextStatement) (f : ℕ) (functions : List ℕ) → shared.exit_functions ≡ f ∷ functions
        → TransitionCase next status.Exiting (record (acts (what.ExitRun f ∷ [])) { own = Some (own_action.RunExitFunction f); shared = Some shared_action.TakeExit })
    process_ended : (next : NextStatement) (v : ℕ) → shared.exit_value ≡ Some v → shared.exit_functions ≡ []
        → TransitionCase next status.Exiting (record (acts (what.ProcessEnded (v % 256) ∷ [])) { process = Some (process_action.End (v % 256)) })
