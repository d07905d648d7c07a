-- The law of results: a call that has a result stores it in the variable that its statement names, as do `set` and `add`. One table has what
-- each statement stores, as it is executed or as its call returns: the number that the event of the step reports, or else one of the state
-- before it. Each other global keeps its value, and so does each other local of a function that goes on.
--
-- It leaves open what the events report (StatementLaw.antt, JoinLaw.antt, ProcessLaw.antt), the answer that a thread in fork has got
-- (ForkLaw.antt), and the variables of other threads (WakeLaw.antt).
use Rattle.std.specs.Prelude.{◌≡◌, ℕ, ◌+◌, ◌-◌, ◌%◌, if◌then◌else◌, Bool, true, false, List, [], ◌∷◌, length, map, drop, nat_eq, slice_index}
use Rattle.std.specs.Prelude.{Option, Some, None, option_map}
use Rattle.pct_model.specs.declared.event.Caller.TheVariants as caller
use Rattle.pct_model.specs.declared.event.What.{What}
use Rattle.pct_model.specs.declared.event.What.TheVariants as what
use Rattle.pct_model.specs.declared.frame.Frame.{Frame}
use Rattle.pct_model.specs.declared.numbers.TheConstants.{EAGAIN}
use Rattle.pct_model.specs.declared.schedule.Config.{Config}
use Rattle.pct_model.specs.declared.schedule.Entry.{Entry}
use Rattle.pct_model.specs.declared.script.Script.{Script}
use Rattle.pct_model.specs.declared.state.Mode.{Mode}
use Rattle.pct_model.specs.declared.state.Mode.TheVariants.{Asynchronous, Deferred}
use Rattle.pct_model.specs.declared.state.Phase.{Phase}
use Rattle.pct_model.specs.declared.state.Phase.TheVariants as phase
use Rattle.pct_model.specs.declared.state.State.{State}
use Rattle.pct_model.specs.declared.state.State.TheVariants.{Disable, Enable}
use Rattle.pct_model.specs.declared.state.Status.{Status}
use Rattle.pct_model.specs.declared.state.Status.TheVariants as status
use Rattle.pct_model.specs.declared.statement.Dest.{Dest}
use Rattle.pct_model.specs.declared.statement.Dest.TheVariants as destination
use Rattle.pct_model.specs.declared.statement.Operand.{Operand}
use Rattle.pct_model.specs.declared.statement.Stmt.{Stmt}
use Rattle.pct_model.specs.declared.statement.Stmt.TheVariants as statement
use Rattle.pct_model.specs.Actions.{without_first}
use Rattle.pct_model.specs.Keys.{key_place, value_at}
use Rattle.pct_model.specs.LineParsing.{is_empty}
use Rattle.pct_model.specs.NextStatement.{NextStatement, NoStatement, StatementIn, next_of}
use Rattle.pct_model.specs.ScriptStatements.{variable_value}
use Rattle.pct_model.specs.World.{Thread, SharedState, value_of}
use Rattle.pct_laws.specs.CancelLaw.{acts_or_stops}
use Rattle.pct_laws.specs.ThreadSteps.{ThreadStep, EachStep}

-- a number that is stored, and the variable that gets it; `-` drops it
abbrev pub Store : Type 0
Store = Dest × ℕ

-- ---- the numbers of cancelability states and types, which are choices of this host

-- PTHREAD_CANCEL_ENABLE is 0, and PTHREAD_CANCEL_DISABLE is 1
abbrev pub number_of_state : State → ℕ
number_of_state Enable = 0
number_of_state Disable = 1

-- PTHREAD_CANCEL_DEFERRED is 0, and PTHREAD_CANCEL_ASYNCHRONOUS is 1
abbrev pub number_of_mode : Mode → ℕ
number_of_mode Deferred = 0
number_of_mode Asynchronous = 1

-- ---- the table

module _ (shared : SharedState) (t : Thread) where
  -- the value of an operand
  abbrev pub value : Frame → Operand → ℕ
  value frame operand = value_of shared.globals frame operand

  -- what a running thread stores at a statement in a step with these events, in this order
  abbrev pub stored_at : Frame → Stmt → List What → List Store
  -- the script language
  stored_at frame (statement.Set d v) [] = (d, value frame v) ∷ []
  stored_at frame (statement.Add d v) [] = (d, (variable_value shared.globals frame d + value frame v) % 4294967296) ∷ []
  -- XSH pthread_create: 0 and the id of the new thread, or the error
  stored_at frame (statement.Create result id f v detached) (what.Created n made_detached ∷ []) = (result, 0) ∷ (id, n) ∷ []
  stored_at frame (statement.Create result id f v detached) (what.Answer caller.Create n ∷ []) = (result, n) ∷ []
  -- XSH pthread_self
  stored_at frame (statement.SelfId d) [] = (d, t.id) ∷ []
  -- XSH pthread_setcancelstate, pthread_setcanceltype: the previous one
  stored_at frame (statement.SetState enable old) (what.StateSet enabled ∷ []) = (old, number_of_state t.state) ∷ []
  stored_at frame (statement.SetMode asynchronous old) (what.ModeSet made_asynchronous ∷ []) = (old, number_of_mode t.mode) ∷ []
  -- XSH pthread_key_create: 0 and the new key, or the error
  stored_at frame (statement.KeyCreate result key destructor) (what.KeyMade n ∷ []) = (result, 0) ∷ (key, n) ∷ []
  stored_at frame (statement.KeyCreate result key destructor) (what.Answer caller.KeyCreate n ∷ []) = (result, n) ∷ []
  -- XSH pthread_getspecific: the thread's value of the key
  stored_at frame (statement.GetSpecific d key) [] = (d, value_at (key_place (value frame key)) t.specific) ∷ []
  -- XSH pthread_atfork, atexit: 0, or the error
  stored_at frame (statement.AtFork result prepare parent child) [] = (result, 0) ∷ []
  stored_at frame (statement.AtFork result prepare parent child) (what.Answer caller.AtFork n ∷ []) = (result, n) ∷ []
  stored_at frame (statement.AtExit result f) [] = (result, 0) ∷ []
  stored_at frame (statement.AtExit result f) (what.Answer caller.AtExit n ∷ []) = (result, n) ∷ []
  -- XSH waitpid: the error of a call without a child
  stored_at frame (statement.WaitPid result pid d) (what.Answer caller.WaitPid n ∷ []) = (result, n) ∷ []
  -- all others store nothing
  stored_at frame _ _ = []

-- what fork stores as it returns, by its phase and the id of the child, 0 if none was made. In the parent: 0 and this id, or EAGAIN. In
-- the child: 0, and that it gets 0 for an id, too, is a choice of this host
abbrev pub stored_by_fork : Phase → (pid : ℕ) → Dest → Dest → List Store
stored_by_fork phase.Prepare pid result child = []
stored_by_fork phase.Parent pid result child = if nat_eq pid 0 then (result, EAGAIN) ∷ [] else (result, 0) ∷ (child, pid) ∷ []
stored_by_fork phase.Child pid result child = (result, 0) ∷ (child, 0) ∷ []

-- what a thread stores as it returns from the call in which it is suspended with this status, in a step with these events
abbrev pub stored_on_return : Status → Stmt → List What → List Store
-- XSH pthread_join: the exit value of the thread that was joined
stored_on_return (status.Joining target) (statement.Join id d) (what.Joined n v ∷ []) = (d, v) ∷ []
-- XSH waitpid: 0 and the status of the child, or the error
stored_on_return (status.InWaitPid pid) (statement.WaitPid result operand d) (what.Reaped child n ∷ []) = (result, 0) ∷ (d, n) ∷ []
stored_on_return (status.InWaitPid pid) (statement.WaitPid result operand d) (what.Answer caller.WaitPid n ∷ []) = (result, n) ∷ []
-- XSH sem_timedwait, pthread_cond_timedwait: 0, or the error
stored_on_return (status.InSem n) (statement.SemTimedWait result sem) (what.Taken taken ∷ []) = (result, 0) ∷ []
stored_on_return (status.InSem n) (statement.SemTimedWait result sem) (what.Answer caller.SemTimedWait number ∷ []) = (result, number) ∷ []
stored_on_return (status.Reacquire cond mutex why) (statement.CondTimedWait result c m) (what.Acquired owned ∷ what.Done index ∷ []) = (result, 0) ∷ []
stored_on_return (status.Reacquire cond mutex why) (statement.CondTimedWait result c m) (what.Acquired owned ∷ what.Answer caller.CondTimedWait number ∷ []) = (result, number) ∷ []
-- XSH fork: the step without an event is the return, in the parent and in the child
stored_on_return (status.Forking at) (statement.Fork result child) [] = stored_by_fork at.phase at.answer result child
stored_on_return _ _ _ = []

-- what a thread with a status stores at its next statement, in a step with these events
abbrev pub stored_by : SharedState → Thread → NextStatement → Status → List What → List Store
stored_by shared t NoStatement s events = []
stored_by shared t (StatementIn frame s) status.Running events = stored_at shared t frame s events
stored_by shared t (StatementIn frame s) suspended events = stored_on_return suspended s events

-- what a step stores: nothing, if the thread acts upon a request or the run stops
abbrev pub stored : Script → ThreadStep → List Store
stored script s =
    if acts_or_stops s.events then []
    else stored_by s.process.shared s.before (next_of script s.before.frames) s.before.status s.events

-- ---- variables after a step

-- the destination is the variable
abbrev pub is_same_variable : Dest → Dest → Bool
is_same_variable (destination.Local i) (destination.Local j) = nat_eq i j
is_same_variable (destination.Global i) (destination.Global j) = nat_eq i j
is_same_variable _ _ = false

-- what a variable with a value has after some stores: the last number that is stored in it, or else this value
abbrev pub after_stores : Dest → List Store → ℕ → ℕ
after_stores d [] v = v
after_stores d (store ∷ later) v = after_stores d later (if is_same_variable store.0 d then store.1 else v)

-- the local with an index, of the top one of some frames
abbrev pub local_on_top : ℕ → List Frame → Option ℕ
local_on_top i [] = None
local_on_top i (frame ∷ below) = Some (slice_index frame.locals i)

-- the locals of the functions of some frames
abbrev pub all_locals : List Frame → List (List ℕ)
all_locals frames = map (λ frame. frame.locals) frames

-- the oldest of some frames, at most as many as there are others
abbrev pub left_of : List Frame → List Frame → List Frame
left_of frames others = drop (length frames - length others) frames

-- ---- the law

-- each variable has what the step stores in it, or else keeps its value
pub record StoresResults (script : Script) (s : ThreadStep) : Type 0 where
  -- each global of the process
  pub globals : (i : ℕ)
      → slice_index s.process_after.shared.globals i ≡ after_stores (destination.Global i) (stored script s) (slice_index s.process.shared.globals i)
  -- if something is stored, each local of the function that executes the statement, which goes on
  pub locals : is_empty (stored script s) ≡ false → (i : ℕ)
      → local_on_top i s.after.frames ≡ option_map (after_stores (destination.Local i) (stored script s)) (local_on_top i s.before.frames)
  -- its callers keep their locals
  pub callers : is_empty (stored script s) ≡ false → all_locals (without_first s.after.frames) ≡ all_locals (without_first s.before.frames)
  -- if nothing is stored, each function that goes on keeps its locals: those but for one that is called, or those that return or end
  pub kept : is_empty (stored script s) ≡ true → all_locals (left_of s.after.frames s.before.frames) ≡ all_locals (left_of s.before.frames s.after.frames)

-- the law of results, of the run of a schedule
abbrev pub ResultLaw : Script → Config → List Entry → Type 0
ResultLaw script config entries = EachStep script config entries (StoresResults script)
