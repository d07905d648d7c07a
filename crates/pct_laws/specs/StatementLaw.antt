-- The law of statements: a running thread makes the events of its next statement, with the values of the operands, unless it acts upon a
-- request or its statement is a stop. One table has the events of each statement of the script language, and of each call. A call that
-- suspends the thread does so for what the operands name, and the thread leaves it only by the events of a return or of a request, which
-- name what it was suspended for.
--
-- It leaves open when a thread acts upon a request (CancelLaw.antt) and which statement is a stop; which threads a signal and a broadcast
-- unblock (WakeLaw.antt), and which of the numbers that are free a new thread or a new key gets; whether waitpid finds a child; which value a
-- join and which status waitpid gets (JoinLaw.antt, ProcessLaw.antt); and what else a step does beside its events.
use Rattle.std.specs.Prelude.{◌≡◌, ℕ, ◌%◌, if◌then◌else◌, Bool, true, false, not, ◌&&◌, ◌||◌, List, [], ◌∷◌, length, is_none, is_some, nat_eq, nat_lt}
use Rattle.std.specs.List.{list_all, list_any, range_with_len}
use Rattle.pct_model.specs.declared.event.Caller.TheVariants as caller
use Rattle.pct_model.specs.declared.event.What.{What}
use Rattle.pct_model.specs.declared.event.What.TheVariants as what
use Rattle.pct_model.specs.declared.frame.Frame.{Frame}
use Rattle.pct_model.specs.declared.limits.TheConstants.{MAX_EXIT_FUNCTIONS, MAX_FORK_HANDLERS, MAX_KEYS}
use Rattle.pct_model.specs.declared.numbers.TheConstants.{EAGAIN, ECHILD, ENOMEM, ETIMEDOUT}
use Rattle.pct_model.specs.declared.schedule.Config.{Config}
use Rattle.pct_model.specs.declared.schedule.Entry.{Entry}
use Rattle.pct_model.specs.declared.script.Script.{Script}
use Rattle.pct_model.specs.declared.state.Cause.TheVariants as cause
use Rattle.pct_model.specs.declared.state.FrameKind.{FrameKind}
use Rattle.pct_model.specs.declared.state.FrameKind.TheVariants as kind
use Rattle.pct_model.specs.declared.state.Status.{Status}
use Rattle.pct_model.specs.declared.state.Status.TheVariants as status
use Rattle.pct_model.specs.declared.statement.Operand.{Operand}
use Rattle.pct_model.specs.declared.statement.Stmt.{Stmt}
use Rattle.pct_model.specs.declared.statement.Stmt.TheVariants as statement
use Rattle.pct_model.specs.CancelCalls.{is_required, is_optional, point_kind, testcancel_point}
use Rattle.pct_model.specs.CondCalls.{cond_wait_point, cond_timedwait_point}
use Rattle.pct_model.specs.ForkCalls.{waitpid_point}
use Rattle.pct_model.specs.Keys.{KeyPlace, key_at, new_keys}
use Rattle.pct_model.specs.LineParsing.{is_empty}
use Rattle.pct_model.specs.NextStatement.{NextStatement, NoStatement, StatementIn, next_of, body_at}
use Rattle.pct_model.specs.SemCalls.{sem_wait_point, sem_timedwait_point}
use Rattle.pct_model.specs.StopTable.{closes_function}
use Rattle.pct_model.specs.ThreadCalls.{join_point}
use Rattle.pct_model.specs.ThreadSlots.{free_ids, holds_slot, slot_of}
use Rattle.pct_model.specs.World.{Thread, SharedState, value_of}
use Rattle.pct_laws.specs.CancelLaw.{is_running, acts_or_stops}
use Rattle.pct_laws.specs.ThreadSteps.{ThreadStep, EachStep}

-- ---- parts of the table

-- the two answers are the same
abbrev pub agree : Bool → Bool → Bool
agree true b = b
agree false b = not b

-- the events of a return with a value, by the kind of the frame: one from `main` in the initial thread acts as exit, one from the start
-- routine of another thread as pthread_exit, one from an init routine has the event of its control, and any other has none (XSH
-- pthread_create, pthread_once)
abbrev pub of_return : FrameKind → ℕ → List What → Bool
of_return kind.Main v (what.ExitBegun n ∷ []) = nat_eq n v
of_return kind.Main v _ = false
of_return kind.Start v (what.EndingExit n ∷ []) = nat_eq n v
of_return kind.Start v _ = false
of_return (kind.OnceFn o) v (what.OnceDone control ∷ []) = nat_eq control o
of_return (kind.OnceFn o) v _ = false
of_return _ v events = is_empty events

-- the event of a pop with an argument, in a thread with these handlers: the newest is removed, and called if the argument is not 0 (XSH
-- pthread_cleanup_pop). Without a handler there is none, which happens in no script that passes the checks
abbrev pub of_pop : ℕ → List (ℕ × ℕ) → List What → Bool
of_pop v ((f, a) ∷ handlers) (what.Popped function argument called ∷ []) = nat_eq function f && nat_eq argument a && agree called (not (nat_eq v 0))
of_pop v ((f, a) ∷ handlers) _ = false
of_pop v [] events = is_empty events

-- each slot is held by one of these threads: pthread_create fails
abbrev pub all_slots_held : ℕ → List Thread → Bool
all_slots_held slots threads = list_all (λ s. list_any (λ t. nat_eq (slot_of slots t.id) s && holds_slot t) threads) (range_with_len 0 slots)

-- each place has a key: pthread_key_create fails
abbrev pub all_places_taken : List KeyPlace → Bool
all_places_taken keys = list_all (λ place. is_some (key_at keys place)) (range_with_len 0 MAX_KEYS)

-- atexit registers a function: fewer than the limit are registered, and exit has not begun
abbrev pub has_room : SharedState → Bool
has_room shared = nat_lt (length shared.exit_functions) MAX_EXIT_FUNCTIONS && is_none shared.exit_value

-- ---- the table

module _ (slots : ℕ) (body : List Stmt) (shared : SharedState) (threads : List Thread) (t : Thread) where
  -- the value of an operand
  abbrev pub value : Frame → Operand → ℕ
  value frame operand = value_of shared.globals frame operand

  -- the events are those of a statement of a running thread
  abbrev pub asked : Frame → Stmt → List What → Bool
  -- the script language
  asked frame (statement.Emit v) (what.Emit n ∷ []) = nat_eq n (value frame v)
  asked frame (statement.Set d v) events = is_empty events
  asked frame (statement.Add d v) events = is_empty events
  asked frame statement.Nop events = is_empty events
  asked frame (statement.If v) events = is_empty events
  asked frame statement.Else events = is_empty events
  asked frame (statement.While v) events = is_empty events
  asked frame (statement.Do f v) events = is_empty events
  -- XSH pthread_create: the end of `main` and of a start routine is a return of 0
  asked frame statement.End events = if closes_function body frame.pc then of_return frame.kind 0 events else is_empty events
  asked frame (statement.Return v) events = of_return frame.kind (value frame v) events
  -- XSH pthread_create: a number that is free, or EAGAIN if none is. That it fails only then, and which
  -- numbers are free, are choices of this host
  asked frame (statement.Create result id f v detached) (what.Created n made_detached ∷ []) = list_any (nat_eq n) (free_ids slots threads) && agree made_detached detached
  asked frame (statement.Create result id f v detached) (what.Answer caller.Create n ∷ []) = nat_eq n EAGAIN && all_slots_held slots threads
  -- XSH pthread_join: the call. That each call which may suspend the thread has an event of its own is a choice of this host
  asked frame (statement.Join id d) (what.Called index ∷ []) = nat_eq index join_point
  -- XSH pthread_detach, pthread_cancel, pthread_self, pthread_exit
  asked frame (statement.Detach id) (what.Detached n ∷ []) = nat_eq n (value frame id)
  asked frame (statement.CancelThread id) (what.Request n ∷ []) = nat_eq n (value frame id)
  asked frame (statement.SelfId d) events = is_empty events
  asked frame (statement.ThreadExit v) (what.EndingExit n ∷ []) = nat_eq n (value frame v)
  -- XSH pthread_testcancel: it returns, as the thread does not act
  asked frame statement.TestCancel (what.Done index ∷ []) = nat_eq index testcancel_point
  -- XSH pthread_setcancelstate, pthread_setcanceltype
  asked frame (statement.SetState enable old) (what.StateSet enabled ∷ []) = agree enabled enable
  asked frame (statement.SetMode asynchronous old) (what.ModeSet made_asynchronous ∷ []) = agree made_asynchronous asynchronous
  -- XSH pthread_cleanup_push, pthread_cleanup_pop
  asked frame (statement.Push f v) (what.Pushed function argument ∷ []) = nat_eq function f && nat_eq argument (value frame v)
  asked frame (statement.Pop v) events = of_pop (value frame v) t.handlers events
  -- XSH pthread_key_create: as for pthread_create
  asked frame (statement.KeyCreate result key destructor) (what.KeyMade n ∷ []) = list_any (nat_eq n) (new_keys shared.keys)
  asked frame (statement.KeyCreate result key destructor) (what.Answer caller.KeyCreate n ∷ []) = nat_eq n EAGAIN && all_places_taken shared.keys
  -- XSH pthread_key_delete, pthread_setspecific, pthread_getspecific
  asked frame (statement.KeyDelete key) (what.KeyGone n ∷ []) = nat_eq n (value frame key)
  asked frame (statement.SetSpecific key v) events = is_empty events
  asked frame (statement.GetSpecific d key) events = is_empty events
  -- XSH pthread_mutex_lock, pthread_mutex_unlock
  asked frame (statement.Lock m) (what.Acquired n ∷ []) = nat_eq n m
  asked frame (statement.Unlock m) (what.Released n ∷ []) = nat_eq n m
  -- XSH pthread_cond_wait: the call, and the release of the mutex, atomically
  asked frame (statement.CondWait c m) (what.Called index ∷ what.Released n ∷ []) = nat_eq index cond_wait_point && nat_eq n m
  -- XSH pthread_cond_timedwait: the same
  asked frame (statement.CondTimedWait result c m) (what.Called index ∷ what.Released n ∷ []) = nat_eq index cond_timedwait_point && nat_eq n m
  -- XSH pthread_cond_signal, pthread_cond_broadcast
  asked frame (statement.Signal c) (what.Signalled cond id ∷ []) = nat_eq cond c
  asked frame (statement.Broadcast c) (what.BroadcastTo cond n ∷ []) = nat_eq cond c
  -- XSH sem_wait, sem_timedwait, sem_post
  asked frame (statement.SemWait sem) (what.Called index ∷ []) = nat_eq index sem_wait_point
  asked frame (statement.SemTimedWait result sem) (what.Called index ∷ []) = nat_eq index sem_timedwait_point
  asked frame (statement.SemPost sem) (what.Posted n ∷ []) = nat_eq n sem
  -- XSH pthread_once: the routine is called, or it has returned before. Which of them is said by the law of pthread_once (OnceLaw.antt)
  asked frame (statement.CallOnce o f) (what.OnceCalled control ∷ []) = nat_eq control o
  asked frame (statement.CallOnce o f) events = is_empty events
  -- XSH pthread_atfork: ENOMEM past the limit of this host alone
  asked frame (statement.AtFork result prepare parent child) (what.Answer caller.AtFork n ∷ []) = nat_eq n ENOMEM && not (nat_lt (length shared.fork_handlers) MAX_FORK_HANDLERS)
  asked frame (statement.AtFork result prepare parent child) events = is_empty events && nat_lt (length shared.fork_handlers) MAX_FORK_HANDLERS
  -- XSH fork: its call
  asked frame (statement.Fork result child) events = is_empty events
  -- XSH waitpid: the call, or ECHILD. Which of them is not said here: it depends on the other processes
  asked frame (statement.WaitPid result pid d) (what.Called index ∷ []) = nat_eq index waitpid_point
  asked frame (statement.WaitPid result pid d) (what.Answer caller.WaitPid n ∷ []) = nat_eq n ECHILD
  -- XSH atexit: it fails with 1 in this host where no function can be registered
  asked frame (statement.AtExit result f) (what.Answer caller.AtExit n ∷ []) = nat_eq n 1 && not (has_room shared)
  asked frame (statement.AtExit result f) events = is_empty events && has_room shared
  -- XSH exit, _exit: the status has 8 bits
  asked frame (statement.ProcExit v) (what.ExitBegun n ∷ []) = nat_eq n (value frame v)
  asked frame (statement.ProcExitNow v) (what.ProcessEnded n ∷ []) = nat_eq n (value frame v % 256)
  -- XSH 2.9.5.2: the call of a generic point. One that is required suspends the thread, one that is optional returns at once: a choice of
  -- this host
  asked frame (statement.PointCall index) (what.Called i ∷ []) = nat_eq i index && is_required (point_kind index)
  asked frame (statement.PointCall index) (what.Done i ∷ []) = nat_eq i index && is_optional (point_kind index)
  asked frame (statement.PointCall index) events = is_empty events && is_none (point_kind index)
  -- the thread made other events
  asked frame _ _ = false

  -- the events are those of the next statement; a thread without one makes no step
  abbrev pub asked_at : NextStatement → List What → Bool
  asked_at NoStatement events = false
  asked_at (StatementIn frame s) events = asked frame s events

-- ---- the law of a step

-- a running thread makes the events of its next statement, or acts upon a request, or its statement is a stop
abbrev pub says_statement : ℕ → Script → ThreadStep → Bool
says_statement slots script s =
    not (is_running s.before.status) || acts_or_stops s.events
    || asked_at slots (body_at script s.before.frames) s.process.shared s.process.threads s.before (next_of script s.before.frames) s.events

-- ---- calls that suspend

-- the event is the call of a function in which the thread is suspended
abbrev pub is_call : What → Bool
is_call (what.Called index) = true
is_call _ = false

-- the thread is suspended, with this status, in the call that a statement makes, for what its operands name: a thread, a condition variable
-- and a mutex, a semaphore, a process, or a generic point (XSH pthread_join, pthread_cond_wait, sem_wait, waitpid, 2.9.5.2)
abbrev pub is_suspended_at : List ℕ → NextStatement → Status → Bool
is_suspended_at globals (StatementIn frame (statement.Join id d)) (status.Joining n) = nat_eq n (value_of globals frame id)
is_suspended_at globals (StatementIn frame (statement.CondWait c m)) (status.Waiting cond mutex) = nat_eq cond c && nat_eq mutex m
is_suspended_at globals (StatementIn frame (statement.CondTimedWait result c m)) (status.Waiting cond mutex) = nat_eq cond c && nat_eq mutex m
is_suspended_at globals (StatementIn frame (statement.SemWait sem)) (status.InSem n) = nat_eq n sem
is_suspended_at globals (StatementIn frame (statement.SemTimedWait result sem)) (status.InSem n) = nat_eq n sem
is_suspended_at globals (StatementIn frame (statement.WaitPid result pid d)) (status.InWaitPid n) = nat_eq n (value_of globals frame pid)
is_suspended_at globals (StatementIn frame (statement.PointCall index)) (status.AtPoint n) = nat_eq n index
is_suspended_at globals _ _ = false

-- a step with such an event suspends its thread at its next statement
abbrev pub suspends_by_call : Script → ThreadStep → Bool
suspends_by_call script s = not (list_any is_call s.events) || is_suspended_at s.process.shared.globals (next_of script s.before.frames) s.after.status

-- ---- the events of a thread that does not run

-- the event is one of fork: a handler is called, a process is made, or none can be made (XSH pthread_atfork, fork)
abbrev pub is_of_fork : What → Bool
is_of_fork (what.PrepareRun f) = true
is_of_fork (what.ParentRun f) = true
is_of_fork (what.ChildRun f) = true
is_of_fork (what.Forked pid) = true
is_of_fork (what.Answer caller.Fork n) = nat_eq n EAGAIN
is_of_fork _ = false

-- the event is one of the end of a thread; by that of the last thread of a process exit begins (XSH 2.9.5.3, pthread_exit)
abbrev pub is_of_end : What → Bool
is_of_end (what.HandlerRun f a) = true
is_of_end (what.PassBegun n) = true
is_of_end (what.DtorRun pass key f v) = true
is_of_end (what.Leftover n) = true
is_of_end (what.EndedWith v) = true
is_of_end (what.ExitBegun v) = true
is_of_end _ = false

-- the events are those of a step of a thread with this status. One that is suspended in a call returns from it, or acts upon a request
-- there, and its events name what it was suspended for: the thread that was joined, the semaphore, the process that was reaped, the generic
-- point, the condition variable and the mutex of the wait. Any other that does not run makes a stage of a fork, of its end, or of an exit
abbrev pub goes_on_by : Status → List What → Bool
-- the events of a running thread are in the table of statements
goes_on_by status.Running events = true
-- XSH 2.9.5.2
goes_on_by (status.AtPoint n) (what.Done index ∷ []) = nat_eq index n
goes_on_by (status.AtPoint n) (what.EndingCanceled ∷ []) = true
-- XSH pthread_join
goes_on_by (status.Joining target) (what.Joined id v ∷ []) = nat_eq id target
goes_on_by (status.Joining target) (what.EndingCanceled ∷ []) = true
-- XSH sem_wait
goes_on_by (status.InSem n) (what.Taken sem ∷ []) = nat_eq sem n
goes_on_by (status.InSem n) (what.EndingCanceled ∷ []) = true
-- XSH sem_timedwait: its time expired
goes_on_by (status.InSem n) (what.Answer caller.SemTimedWait number ∷ []) = nat_eq number ETIMEDOUT
-- XSH waitpid: ECHILD if another thread has reaped the child meanwhile
goes_on_by (status.InWaitPid child) (what.Reaped pid n ∷ []) = nat_eq pid child
goes_on_by (status.InWaitPid child) (what.Answer caller.WaitPid n ∷ []) = nat_eq n ECHILD
goes_on_by (status.InWaitPid child) (what.EndingCanceled ∷ []) = true
-- XSH pthread_cond_wait: a thread owns the mutex again as it returns, and also as it begins to end, after it acted upon a request in the
-- wait; if a signal had unblocked it, it may hand the signal on then
goes_on_by (status.Waiting c m) (what.WaitCanceled cond ∷ []) = nat_eq cond c
-- XSH pthread_cond_timedwait: the time expires, and the thread returns ETIMEDOUT once it owns the mutex again
goes_on_by (status.Waiting c m) (what.WaitExpired cond ∷ []) = nat_eq cond c
goes_on_by (status.Reacquire c m cause.TimedOut) (what.Acquired mutex ∷ what.Answer caller.CondTimedWait number ∷ []) = nat_eq mutex m && nat_eq number ETIMEDOUT
goes_on_by (status.Reacquire c m cause.TimedOut) (what.WaitCanceled cond ∷ []) = nat_eq cond c
goes_on_by (status.Reacquire c m cause.TimedOut) events = false
goes_on_by (status.Reacquire c m cause.Canceled) (what.Acquired mutex ∷ what.EndingInWait cond owned ∷ []) = nat_eq mutex m && nat_eq cond c && nat_eq owned m
goes_on_by (status.Reacquire c m cause.Canceled) events = false
goes_on_by (status.Reacquire c m cause.Signalled) (what.WaitCanceled cond ∷ what.HandedOn signalled id ∷ []) = nat_eq cond c && nat_eq signalled c
goes_on_by (status.Reacquire c m why) (what.WaitCanceled cond ∷ []) = nat_eq cond c
goes_on_by (status.Reacquire c m why) (what.Acquired mutex ∷ what.Done index ∷ []) = nat_eq mutex m && (nat_eq index cond_wait_point || nat_eq index cond_timedwait_point)
-- XSH fork: its return has no event
goes_on_by (status.Forking at) [] = true
goes_on_by (status.Forking at) (w ∷ []) = is_of_fork w
-- XSH 2.9.5.3, pthread_exit
goes_on_by status.Ending events = not (is_empty events) && list_all is_of_end events
-- XSH exit
goes_on_by status.Exiting (what.ExitRun f ∷ []) = true
goes_on_by status.Exiting (what.ProcessEnded n ∷ []) = true
-- a thread that has ended makes no step
goes_on_by _ events = false

-- ---- the law

-- the law of statements, of the run of a schedule
pub record StatementLaw (script : Script) (config : Config) (entries : List Entry) : Type 0 where
  pub said : EachStep script config entries (λ s. says_statement config.slots script s ≡ true)
  pub suspended : EachStep script config entries (λ s. suspends_by_call script s ≡ true)
  pub continued : EachStep script config entries (λ s. goes_on_by s.before.status s.events ≡ true)
