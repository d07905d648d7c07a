-- The stops: uses that POSIX leaves undefined, further uses that this host reports as undefined by its choice, its limits, and what it
-- leaves out; StopTexts.antt has the class of each. A stop ends the run. An unpaired push or pop, and a return between them (XSH
-- pthread_cleanup_pop), are refused before the run (Nesting.antt, Checks.antt).
use Rattle.std.specs.Prelude.{ℕ, Bool, true, false, not, ◌&&◌, ◌||◌, List, [], ◌∷◌, length, Option, is_none, is_some, nat_eq, nat_lt, option_map, find}
use Rattle.std.specs.List.{list_any}
use Rattle.pct_model.specs.declared.statement.Operand.{Operand}
use Rattle.pct_model.specs.declared.statement.Stmt.{Stmt}
use Rattle.pct_model.specs.declared.statement.Stmt.TheVariants as statement
use Rattle.pct_model.specs.declared.frame.Frame.{Frame}
use Rattle.pct_model.specs.declared.state.FrameKind.{FrameKind}
use Rattle.pct_model.specs.declared.state.FrameKind.TheVariants as kind
use Rattle.pct_model.specs.declared.state.Reason.{Reason}
use Rattle.pct_model.specs.declared.state.Reason.TheVariants as reason
use Rattle.pct_model.specs.declared.limits.TheConstants.{MAX_FRAMES, MAX_HANDLERS}
use Rattle.pct_model.specs.declared.point.TheConstants.{CLOSE_POINT, OPEN_POINT, PAUSE_POINT, READ_POINT, SLEEP_POINT, WRITE_POINT}
use Rattle.pct_model.specs.declared.stop.Why.{Why}
use Rattle.pct_model.specs.declared.stop.Why.TheVariants as why
use Rattle.pct_model.specs.Cancelability.{is_asynchronous}
use Rattle.pct_model.specs.Jumps.{open_of}
use Rattle.pct_model.specs.Keys.{key_with}
use Rattle.pct_model.specs.World.{Thread, SharedState, value_of}
use Rattle.pct_model.specs.MutexCalls.{owns}
use Rattle.pct_model.specs.OnceCalls.{once_at, is_fresh}
use Rattle.pct_model.specs.Environment.{Environment, names_no_thread, is_detached_thread, waits_with_another_mutex}

-- a test: whether a stop applies, and the stop
abbrev pub StopTest : Type 0
StopTest = Bool × Why

-- the first stop that applies
abbrev pub first_stop : List StopTest → Option Why
first_stop tests = option_map (λ t. t.1) (find (λ t. t.0) tests)

-- ---- conditions

-- a call in a thread with these frames would need one frame more than the limit
abbrev pub is_stack_full : List Frame → Bool
is_stack_full frames = not (nat_lt (length frames) MAX_FRAMES)

-- a return from a frame of this kind exits the process, where exit has begun before
abbrev pub exits_twice : FrameKind → SharedState → Bool
exits_twice kind.Main shared = is_some shared.exit_value
exits_twice _ shared = false

-- the thread has begun to end, for a reason
abbrev pub has_begun_to_end : Reason → Bool
has_begun_to_end reason.None = false
has_begun_to_end (reason.Exit v) = true
has_begun_to_end reason.Canceled = true

-- the `end` at a pc closes no block, so it closes the function
abbrev pub closes_function : List Stmt → ℕ → Bool
closes_function body pc = is_none (open_of body pc)

-- a frame of this kind is that of a cleanup handler or of a destructor
abbrev pub is_handler_kind : FrameKind → Bool
is_handler_kind kind.PopHandler = true
is_handler_kind kind.Handler = true
is_handler_kind kind.Destructor = true
is_handler_kind _ = false

-- a thread with these frames is in a cleanup handler or in a destructor
abbrev pub is_in_handler : List Frame → Bool
is_in_handler frames = list_any (λ frame. is_handler_kind frame.kind) frames

-- allowed with asynchronous cancelability enabled: the three functions that are async-cancel-safe (XSH 2.9.5.4), and the script
-- language. That a return which acts as pthread_exit or exit is allowed, is a choice of this host
abbrev pub is_allowed_asynchronously : Stmt → Bool
is_allowed_asynchronously (statement.Emit v) = true
is_allowed_asynchronously (statement.Set d v) = true
is_allowed_asynchronously (statement.Add d v) = true
is_allowed_asynchronously statement.Nop = true
is_allowed_asynchronously (statement.If v) = true
is_allowed_asynchronously statement.Else = true
is_allowed_asynchronously (statement.While v) = true
is_allowed_asynchronously statement.End = true
is_allowed_asynchronously (statement.Do f v) = true
is_allowed_asynchronously (statement.Return v) = true
is_allowed_asynchronously (statement.CancelThread id) = true
is_allowed_asynchronously (statement.SetState enable old) = true
is_allowed_asynchronously (statement.SetMode asynchronous old) = true
is_allowed_asynchronously _ = false

-- ---- the child of a process with several threads

-- the functions with generic points that the child of a process with several threads may call here: these are async-signal-safe (XSH
-- 2.4.3). That other functions of that section are not among them is a choice of this host
abbrev pub is_safe_point : ℕ → Bool
is_safe_point index = list_any (nat_eq index) (CLOSE_POINT ∷ OPEN_POINT ∷ PAUSE_POINT ∷ READ_POINT ∷ SLEEP_POINT ∷ WRITE_POINT ∷ [])

-- a return from a frame of this kind ends neither the thread nor the process
abbrev pub is_inner_kind : FrameKind → Bool
is_inner_kind kind.Main = false
is_inner_kind kind.Start = false
is_inner_kind _ = true

-- the statement at a frame is allowed in the child of a process with several threads (XSH fork)
abbrev pub is_allowed_in_child : List Stmt → Frame → Stmt → Bool
is_allowed_in_child body frame (statement.Emit v) = true
is_allowed_in_child body frame (statement.Set d v) = true
is_allowed_in_child body frame (statement.Add d v) = true
is_allowed_in_child body frame statement.Nop = true
is_allowed_in_child body frame (statement.If v) = true
is_allowed_in_child body frame statement.Else = true
is_allowed_in_child body frame (statement.While v) = true
is_allowed_in_child body frame statement.End = is_inner_kind frame.kind || not (closes_function body frame.pc)
is_allowed_in_child body frame (statement.Do f v) = true
is_allowed_in_child body frame (statement.Return v) = is_inner_kind frame.kind
is_allowed_in_child body frame (statement.ProcExitNow v) = true
is_allowed_in_child body frame (statement.PointCall index) = is_safe_point index
is_allowed_in_child body frame _ = false

-- a frame of this kind is that of a fork handler
abbrev pub is_fork_kind : FrameKind → Bool
is_fork_kind kind.ForkFn = true
is_fork_kind _ = false

-- the process is the child of one with several threads, and may not execute the statement at this frame. That it may execute every
-- statement of a fork handler is a choice of this host
abbrev pub is_forbidden_in_child : List Stmt → SharedState → Frame → Stmt → Bool
is_forbidden_in_child body shared frame s = shared.restricted && (not (is_fork_kind frame.kind) && not (is_allowed_in_child body frame s))

-- ---- the table

module _ (body : List Stmt) (shared : SharedState) (t : Thread) (environment : Environment) where
  -- the value of an operand
  abbrev pub value : Frame → Operand → ℕ
  value frame operand = value_of shared.globals frame operand

  -- XSH pthread_cond_wait: undefined if the caller does not own the mutex, or if a thread is blocked on the condition variable with another
  -- mutex; one that was unblocked and has not returned yet counts no longer. The order of the tests is a choice of this host
  abbrev pub stops_of_wait : ℕ → ℕ → List StopTest
  stops_of_wait c m = (not (owns t.id m shared), why.NotOwner) ∷ (waits_with_another_mutex c m environment, why.CondTwoMutexes) ∷ []

  -- the own stops of each statement, in the order in which they are tested. `others` is the threads of the process as this thread sees
  -- them, itself included: its own id names it, so a self-detach and a self-cancel are no stops of their own
  unfoldable pub stops_of : Frame → Stmt → List StopTest
  -- XSH exit: a second call is undefined. XSH pthread_create: a return from `main` in the initial thread is an implicit call of exit;
  -- the `end` that closes `main` is `return 0`
  stops_of frame statement.End = (closes_function body frame.pc && exits_twice frame.kind shared, why.ExitTwice) ∷ []
  -- a limit of this host
  stops_of frame (statement.Do f v) = (is_stack_full t.frames, why.StackFull) ∷ []
  -- as for `end`
  stops_of frame (statement.Return v) = (exits_twice frame.kind shared, why.ExitTwice) ∷ []
  -- XSH pthread_join: undefined if the id does not refer to a joinable thread: no thread had it, or its lifetime is over (ThreadId,
  -- XSH 2.9.2), or the thread is detached (NotJoinable); if it is the caller (JoinSelf); or if another join of it is in progress
  -- (JoinTwice). "Joined" is the return of pthread_join, not its call: this host's reading. The order of the tests is a choice of this host
  stops_of frame (statement.Join id d) =
      (names_no_thread (value frame id) environment, why.ThreadId)
      ∷ (nat_eq (value frame id) t.id, why.JoinSelf)
      ∷ (is_detached_thread (value frame id) environment, why.NotJoinable)
      ∷ (environment.another_joins (value frame id), why.JoinTwice)
      ∷ []
  -- XSH pthread_detach: as for pthread_join; that a detach during a join is a stop is a choice of this host
  stops_of frame (statement.Detach id) =
      (names_no_thread (value frame id) environment, why.ThreadId)
      ∷ (is_detached_thread (value frame id) environment, why.NotJoinable)
      ∷ (environment.another_joins (value frame id), why.DetachJoined)
      ∷ []
  -- XSH 2.9.2, for pthread_cancel: the lifetime of the id is over; an id that no thread had is treated alike
  stops_of frame (statement.CancelThread id) = (names_no_thread (value frame id) environment, why.ThreadId) ∷ []
  -- XSH pthread_exit: a call from a handler or destructor that ran as a result of an implicit or explicit call of pthread_exit; that
  -- this includes one which a request called is a choice of this host. A thread that has begun to end runs nothing else, so its
  -- reason decides
  stops_of frame (statement.ThreadExit v) = (has_begun_to_end t.reason, why.ExitInEnding) ∷ []
  -- XSH 2.9.5.3: a cleanup handler or a destructor may not enable cancelability; also if the state is enabled already, and in a handler
  -- that pthread_cleanup_pop called: choices of this host
  stops_of frame (statement.SetState enable old) = (enable && is_in_handler t.frames, why.EnableInHandler) ∷ []
  -- limits of this host
  stops_of frame (statement.Push f v) = (not (nat_lt (length t.handlers) MAX_HANDLERS), why.CleanupFull) ∷ []
  stops_of frame (statement.Pop v) = (not (nat_eq (value frame v) 0) && is_stack_full t.frames, why.StackFull) ∷ []
  -- XSH pthread_key_delete: any use after the deletion; XSH pthread_getspecific: for set and get also a key that was never made;
  -- pthread_key_delete of such a key is treated alike
  stops_of frame (statement.KeyDelete key) = (is_none (key_with (value frame key) shared.keys), why.KeyId) ∷ []
  stops_of frame (statement.SetSpecific key v) = (is_none (key_with (value frame key) shared.keys), why.KeyId) ∷ []
  stops_of frame (statement.GetSpecific d key) = (is_none (key_with (value frame key) shared.keys), why.KeyId) ∷ []
  -- XSH pthread_mutex_lock: undefined for a mutex of this type, if the caller does not own it
  stops_of frame (statement.Unlock m) = (not (owns t.id m shared), why.NotOwner) ∷ []
  -- XSH pthread_cond_wait, pthread_cond_timedwait
  stops_of frame (statement.CondWait c m) = stops_of_wait c m
  stops_of frame (statement.CondTimedWait result c m) = stops_of_wait c m
  -- a limit of this host, where the init routine is called
  stops_of frame (statement.CallOnce o f) = (is_fresh (once_at shared.onces o) && is_stack_full t.frames, why.StackFull) ∷ []
  -- a limit of this host
  stops_of frame (statement.Fork result child) = (has_begun_to_end t.reason, why.ForkInEnding) ∷ []
  -- XSH exit: undefined if it is called more than once
  stops_of frame (statement.ProcExit v) = (is_some shared.exit_value, why.ExitTwice) ∷ []
  -- no other statement has a stop of its own
  stops_of frame s = []

  -- the stop of a running thread at a statement, if there is one. XSH fork: the child of a process with several threads may execute
  -- async-signal-safe operations only; that another statement is a stop, which is tested first, is a choice of this host. XSH 2.9.5.4 has
  -- the functions that are async-cancel-safe; that a call of another one with asynchronous cancelability is a stop is a choice of this host
  unfoldable pub stop_at : Frame → Stmt → Option Why
  stop_at frame s =
      first_stop (
      (is_forbidden_in_child body shared frame s, why.ForkChildCall)
      ∷ (is_asynchronous t.state t.mode && not (is_allowed_asynchronously s), why.AsyncCall)
      ∷ stops_of frame s
      )
