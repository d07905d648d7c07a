-- What each thread may do next: its choices, in the order `go`, then `expire`, then `act`, or the others by the slot or the place of the number
-- that they name. A thread that holds its slot is ready if it has a choice. Legality (Step.antt), deadlock (Run.antt) and the
-- scheduler's choice (Chosen.antt) derive from this table. The choices are:
-- `go`: the thread goes on: it executes its statement or stops at it, fails for lack of room, returns from the call in which it is
-- suspended, or makes the next stage of a fork, of its end or of an exit
-- `act 0`: it acts upon a request (XSH 2.9.5)
-- `act n`: it does so in pthread_cond_wait, after a signal unblocked it; the signal is handed on to the thread with this id
-- `new n`: the thread or the key that it creates gets this number
-- `dtor n`: it calls the destructor of this key
-- `pick n`: by pthread_cond_signal it unblocks the thread with this id
-- `expire`: the time of the wait in which it is suspended expires
use Rattle.std.specs.Prelude.{ℕ, Bool, true, false, not, ◌&&◌, List, [], ◌∷◌, ◌++◌, if◌then◌else◌, map, nat_eq, nat_lt, slice_index}
use Rattle.std.specs.List.{list_any}
use Rattle.pct_model.specs.declared.frame.Frame.{Frame}
use Rattle.pct_model.specs.declared.script.Script.{Script}
use Rattle.pct_model.specs.declared.statement.Stmt.{Stmt}
use Rattle.pct_model.specs.declared.statement.Stmt.TheVariants as statement
use Rattle.pct_model.specs.declared.schedule.Alt.{Alt}
use Rattle.pct_model.specs.declared.schedule.Config.{Config}
use Rattle.pct_model.specs.declared.schedule.Alt.TheVariants as alt
use Rattle.pct_model.specs.declared.state.Cause.{Cause}
use Rattle.pct_model.specs.declared.state.Cause.TheVariants as cause
use Rattle.pct_model.specs.declared.state.Status.{Status}
use Rattle.pct_model.specs.declared.state.Status.TheVariants as status
use Rattle.pct_model.specs.Cancelability.{is_deliverable, is_asynchronous}
use Rattle.pct_model.specs.CancelCalls.{called_kind, is_required, is_optional, may_pass_point}
use Rattle.pct_model.specs.Formats.{is_timed}
use Rattle.pct_model.specs.Keys.{new_keys, left_keys}
use Rattle.pct_model.specs.World.{Thread, SharedState, Process, World}
use Rattle.pct_model.specs.NextStatement.{NextStatement, NoStatement, StatementIn, next_of, body_at}
use Rattle.pct_model.specs.OtherProcesses.{is_running_child}
use Rattle.pct_model.specs.MutexCalls.{is_free_mutex}
use Rattle.pct_model.specs.OnceCalls.{once_at, is_busy}
use Rattle.pct_model.specs.Environment.{Waiter, Environment, is_ended_thread, environment_of}
use Rattle.pct_model.specs.StopTable.{is_forbidden_in_child}

-- ---- parts of the table

-- `go`, if the test holds
abbrev pub go_if : Bool → List Alt
go_if true = alt.Go ∷ []
go_if false = []

-- `act 0`, if the test holds: the thread acts upon a request
abbrev pub act_if : Bool → List Alt
act_if true = alt.Act 0 ∷ []
act_if false = []

-- `expire`, if the test holds: the time of a wait expires
abbrev pub expire_if : Bool → List Alt
expire_if true = alt.Expire ∷ []
expire_if false = []

-- the next statement is a wait with a time: pthread_cond_timedwait or sem_timedwait
abbrev pub is_timed_wait : NextStatement → Bool
is_timed_wait NoStatement = false
is_timed_wait (StatementIn frame s) = is_timed s

-- the time of a wait at this statement may expire. There is no clock: it may do so at any moment of the wait, a choice of this host
abbrev pub can_expire : Environment → NextStatement → Bool
can_expire environment next = environment.timeouts && is_timed_wait next

-- a row: a test, and the choices if it holds
abbrev pub ChoiceRow : Type 0
ChoiceRow = Bool × List Alt

-- the choices of the first row whose test holds, or else these
abbrev pub first_row : List ChoiceRow → List Alt → List Alt
first_row [] otherwise = otherwise
first_row (row ∷ rows) otherwise = if row.0 then row.1 else first_row rows otherwise

-- a thread at the statement is blocked: it is pthread_mutex_lock of a mutex that has an owner, or pthread_once of a control that is busy.
-- The thread itself is no exception: one that locks a mutex of this type again deadlocks, and so does one that calls pthread_once on the
-- control in the init routine, a choice of this host
abbrev pub is_blocked : Stmt → SharedState → Bool
is_blocked (statement.Lock m) shared = not (is_free_mutex m shared)
is_blocked (statement.CallOnce o f) shared = is_busy (once_at shared.onces o)
is_blocked s shared = false

-- the statement is pthread_create
abbrev pub is_create : Stmt → Bool
is_create (statement.Create result id f v detached) = true
is_create _ = false

-- the statement is pthread_key_create
abbrev pub is_key_create : Stmt → Bool
is_key_create (statement.KeyCreate result key destructor) = true
is_key_create _ = false

-- the statement is pthread_cond_signal
abbrev pub is_signal : Stmt → Bool
is_signal (statement.Signal c) = true
is_signal _ = false

-- the threads that wait on the condition variable that the statement signals, if it is pthread_cond_signal
abbrev pub waiters_to_signal : Environment → Stmt → List Waiter
waiters_to_signal environment (statement.Signal c) = environment.waiters c
waiters_to_signal environment _ = []

-- `pick` for each of these waiters; `go` if there are none
abbrev pub pick_or_go : List Waiter → List Alt
pick_or_go [] = alt.Go ∷ []
pick_or_go waiters = map (λ waiter. alt.Pick waiter.id) waiters

-- `act` for each of these waiters; `act 0` if there are none
abbrev pub hand_on_or_act : List Waiter → List Alt
hand_on_or_act [] = alt.Act 0 ∷ []
hand_on_or_act waiters = map (λ waiter. alt.Act waiter.id) waiters

-- the choices by which a thread acts upon a request after it was unblocked on a condition variable, by the cause, where these threads
-- wait on it
abbrev pub unblocked_acts : Cause → List Waiter → List Alt
unblocked_acts cause.Signalled waiters = hand_on_or_act waiters
unblocked_acts cause.Broadcast waiters = alt.Act 0 ∷ []
unblocked_acts cause.TimedOut waiters = alt.Act 0 ∷ []
unblocked_acts cause.Canceled waiters = []

-- `new` for each of these numbers; `go` if there are none
abbrev pub new_or_go : List ℕ → List Alt
new_or_go [] = alt.Go ∷ []
new_or_go numbers = map (λ n. alt.New n) numbers

-- `dtor` for each of these numbers of keys; `go` if there are none
abbrev pub dtor_or_go : List ℕ → List Alt
dtor_or_go [] = alt.Go ∷ []
dtor_or_go numbers = map (λ n. alt.Dtor n) numbers

-- ---- the table

module _ (body : List Stmt) (shared : SharedState) (t : Thread) (environment : Environment) where
  -- the rows of a running thread at a statement: the first whose test holds decides, else `go`. `go` at a statement that stops is the
  -- stop (StopTable.antt); a row without `go` comes before the stops of the call, which is a choice of this host
  unfoldable pub running_rows : Frame → Stmt → List ChoiceRow
  running_rows frame s =
      -- XSH fork: the child of a process with several threads may execute async-signal-safe operations only. At another statement it has
      -- `go` alone, which is a stop: a choice of this host
      (is_forbidden_in_child body shared frame s, alt.Go ∷ [])
      -- XSH 2.9.5.1: with asynchronous cancelability a pending request may be acted upon at any time; `go` is a stop at a call of a
      -- function that is not async-cancel-safe
      ∷ (is_asynchronous t.state t.mode, alt.Go ∷ act_if t.pending)
      -- XSH 2.9.5.2: a function that shall be a cancellation point: a pending request is acted upon before the function returns. That
      -- this is at the call, before the thread is suspended, is a choice of this host
      ∷ (is_deliverable t.state t.pending && is_required (called_kind s), alt.Act 0 ∷ [])
      -- XSH 2.9.5.2: a function that may be a cancellation point. That the thread acts only at the call is a choice of this host
      ∷ (is_deliverable t.state t.pending && is_optional (called_kind s), alt.Go ∷ alt.Act 0 ∷ [])
      -- XSH pthread_mutex_lock: the thread blocks until the mutex has no owner. XSH pthread_once: it returns after the init routine has
      -- completed; that it blocks until then is a choice of this host. They are no cancellation points
      ∷ (is_blocked s shared, [])
      -- XSH pthread_create: if no slot is free, `go`: the call fails with EAGAIN. That it fails only then, that an ended thread which
      -- is not joined keeps its slot, and which ids are offered are choices of this host
      ∷ (is_create s, new_or_go environment.new_ids)
      -- XSH pthread_key_create: if no place is free, `go`: the call fails with EAGAIN. That it fails only then, and which numbers are
      -- offered are choices of this host
      ∷ (is_key_create s, new_or_go (new_keys shared.keys))
      -- XSH pthread_cond_signal: one of the threads that wait is unblocked; if none waits, `go`: the call has no effect
      ∷ (is_signal s, pick_or_go (waiters_to_signal environment s))
      ∷ []

  -- the choices of a running thread at a statement
  unfoldable pub running_choices : Frame → Stmt → List Alt
  running_choices frame s = first_row (running_rows frame s) (alt.Go ∷ [])

  -- the choices of an ending thread, by its cleanup handlers
  unfoldable pub ending_choices : List (ℕ × ℕ) → List Alt
  -- XSH 2.9.5.3: cancelability is disabled, so no request is acted upon. The newest handler is called first
  ending_choices (handler ∷ handlers) = alt.Go ∷ []
  -- XSH pthread_key_create: the order of the destructors is unspecified. No key is left in the pass: `go` is the next pass or the end.
  -- Which keys are in a pass is a choice of this host (Keys.antt)
  ending_choices [] = dtor_or_go (left_keys shared.keys t.specific)

  -- the choices of a thread, by its status
  unfoldable pub choices_at : NextStatement → Status → List Alt
  choices_at (StatementIn frame s) status.Running = running_choices frame s
  -- not reached: each body closes with `end`
  choices_at NoStatement status.Running = []
  -- XSH 2.9.5.2: a suspended thread is awakened by a request and acts upon it; if the event that it waits for occurs before it acts, it
  -- is unspecified whether it acts or goes on: then both are choices
  choices_at next (status.AtPoint index) = go_if (may_pass_point index) ++ act_if (is_deliverable t.state t.pending)
  choices_at next (status.Joining id) = go_if (is_ended_thread id environment) ++ act_if (is_deliverable t.state t.pending)
  -- XSH sem_wait, sem_timedwait: the thread is suspended until the count is above 0, or its time expires. That it does not expire while the
  -- count is above 0 is a choice of this host
  choices_at next (status.InSem s) =
      go_if (nat_lt 0 (slice_index shared.counts s)) ++ expire_if (can_expire environment next && not (nat_lt 0 (slice_index shared.counts s))) ++ act_if (is_deliverable t.state t.pending)
  -- XSH waitpid: the thread is suspended until the child has ended; also if another thread has reaped it meanwhile, it goes on
  choices_at next (status.InWaitPid pid) = go_if (not (is_running_child pid environment.family)) ++ act_if (is_deliverable t.state t.pending)
  -- XSH pthread_cond_wait, pthread_cond_timedwait: the thread is blocked until a signal or a broadcast unblocks it, or its time expires. It
  -- is not unblocked otherwise, which the standard allows (spurious wakeups): a choice of this host
  choices_at next (status.Waiting c m) = expire_if (can_expire environment next) ++ act_if (is_deliverable t.state t.pending)
  -- XSH pthread_cond_wait: a thread that was unblocked returns, or begins to end, once it can own the mutex. One that was unblocked by a
  -- signal, by a broadcast or as its time expired may still act upon a request (XSH 2.9.5.2); if it was by a signal, another thread gets the
  -- signal, if one waits
  choices_at next (status.Reacquire c m why) =
      go_if (is_free_mutex m shared) ++ (if is_deliverable t.state t.pending then unblocked_acts why (environment.waiters c) else [])
  choices_at next status.Ending = ending_choices t.handlers
  -- fork is no cancellation point (XSH 2.9.5.2)
  choices_at next (status.Forking at) = alt.Go ∷ []
  -- cancelability is disabled, a choice of this host
  choices_at next status.Exiting = alt.Go ∷ []
  choices_at next (status.Ended v) = []

-- the choices of a thread of a process, in a state
abbrev pub choices_of : Script → Config → World → Process → Thread → List Alt
choices_of script config w p t = choices_at (body_at script t.frames) p.shared t (environment_of config w p t.id) (next_of script t.frames) t.status

-- ---- equality of choices, and membership

-- the choice is `go`
abbrev pub is_go : Alt → Bool
is_go alt.Go = true
is_go _ = false

-- the choice is `act n`
abbrev pub is_act : ℕ → Alt → Bool
is_act n (alt.Act m) = nat_eq n m
is_act n _ = false

-- the choice is `new n`
abbrev pub is_new : ℕ → Alt → Bool
is_new n (alt.New m) = nat_eq n m
is_new n _ = false

-- the choice is `pick n`
abbrev pub is_pick : ℕ → Alt → Bool
is_pick n (alt.Pick m) = nat_eq n m
is_pick n _ = false

-- the choice is `dtor n`
abbrev pub is_dtor : ℕ → Alt → Bool
is_dtor n (alt.Dtor m) = nat_eq n m
is_dtor n _ = false

-- the choice is `expire`
abbrev pub is_expire : Alt → Bool
is_expire alt.Expire = true
is_expire _ = false

-- the two choices are equal
abbrev pub same_choice : Alt → Alt → Bool
same_choice alt.Go other = is_go other
same_choice (alt.Act n) other = is_act n other
same_choice (alt.New n) other = is_new n other
same_choice (alt.Pick n) other = is_pick n other
same_choice (alt.Dtor n) other = is_dtor n other
same_choice alt.Expire other = is_expire other

-- the choice is among these: membership in the list
abbrev pub offers : List Alt → Alt → Bool
offers choices choice = list_any (same_choice choice) choices

-- there is a choice
abbrev pub is_enabled : List Alt → Bool
is_enabled [] = false
is_enabled (choice ∷ rest) = true
