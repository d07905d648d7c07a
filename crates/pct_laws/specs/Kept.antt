-- The invariant of reachable states: what each state that a run reaches keeps, beside the events that led to it.
use Rattle.std.specs.Prelude.{◌≡◌, ◌≢◌, ℕ, suc, ◌+◌, ◌*◌, ◌<◌, ◌≤◌, nat_eq, Bool, true, false, not, ◌&&◌, ◌||◌, if◌then◌else◌, Option, Some, None, is_some, option_map}
use Rattle.std.specs.Prelude.{List, [], ◌∷◌, ◌++◌, length, map, count_by, slice_get, slice_index, All}
use Rattle.std.specs.Bool.{beq}
use Rattle.std.specs.List.{list_any}
use Rattle.std.specs.Option.{IsSomeAnd, option_map_or}
use Rattle.pct_model.specs.declared.event.Event.{Event}
use Rattle.pct_model.specs.declared.event.What.{What}
use Rattle.pct_model.specs.declared.event.What.TheVariants as what
use Rattle.pct_model.specs.declared.frame.Frame.{Frame}
use Rattle.pct_model.specs.declared.limits.TheConstants.{MAX_FRAMES, MAX_KEYS, MAX_LOCALS}
use Rattle.pct_model.specs.declared.process.ForkHandlers.{ForkHandlers}
use Rattle.pct_model.specs.declared.script.Script.{Script}
use Rattle.pct_model.specs.declared.schedule.Config.{Config}
use Rattle.pct_model.specs.declared.state.Cause.TheVariants as cause
use Rattle.pct_model.specs.declared.state.ForkAt.{ForkAt}
use Rattle.pct_model.specs.declared.state.FrameKind.{FrameKind}
use Rattle.pct_model.specs.declared.state.FrameKind.TheVariants as kind
use Rattle.pct_model.specs.declared.state.OnceState.{OnceState}
use Rattle.pct_model.specs.declared.state.OnceState.TheVariants.{Busy}
use Rattle.pct_model.specs.declared.state.State.TheVariants.{Disable}
use Rattle.pct_model.specs.declared.state.Status.{Status}
use Rattle.pct_model.specs.declared.state.Status.TheVariants as status
use Rattle.pct_model.specs.declared.statement.Stmt.TheVariants as statement
use Rattle.pct_model.specs.Actions.{without_first}
use Rattle.pct_laws.specs.ProcessEnds.{exit_value, end_status}
use Rattle.pct_laws.specs.FollowedEvents.{are_followed}
use Rattle.pct_model.specs.ChoiceTable.{is_timed_wait}
use Rattle.pct_model.specs.CancelCalls.{point_kind, is_required, state_if, mode_if}
use Rattle.pct_laws.specs.CancelEvents.{is_requested, is_enabled_last, is_asynchronous_last, has_not_begun}
use Rattle.pct_model.specs.CondCalls.{cond_wait_point, cond_timedwait_point}
use Rattle.pct_model.specs.ForkCalls.{is_fork}
use Rattle.pct_laws.specs.KeyEvents.{has_key}
use Rattle.pct_model.specs.Keys.{Key, KeyPlace, key_at, key_with, value_at}
use Rattle.pct_laws.specs.KnownThreads.{is_known, is_detached, is_joined}
use Rattle.pct_laws.specs.NewestEvents.{newest_event}
use Rattle.pct_model.specs.StatusKinds.{is_forking, has_left_wait, has_no_frame}
use Rattle.pct_model.specs.LineParsing.{is_empty}
use Rattle.pct_laws.specs.MutexOwners.{owner_of}
use Rattle.pct_laws.specs.OnceControls.{once_of}
use Rattle.pct_model.specs.OnceCalls.{once_at}
use Rattle.pct_model.specs.NextStatement.{NextStatement, StatementIn, next_of}
use Rattle.pct_laws.specs.Once.{is_pair}
use Rattle.pct_laws.specs.OpenPushes.{open_pushes}
use Rattle.pct_model.specs.Static.{is_plain_body}
use Rattle.pct_model.specs.StopTable.{has_begun_to_end, is_fork_kind}
use Rattle.pct_model.specs.ThreadCalls.{join_point}
use Rattle.pct_model.specs.ThreadNumbers.{NumbersThreads}
use Rattle.pct_model.specs.ThreadSlots.{is_ended_status}
use Rattle.pct_laws.specs.ThreadSummary.{ThreadSummary, summary_of}
use Rattle.pct_laws.specs.declared.stage.WaitStage.{WaitStage}
use Rattle.pct_laws.specs.declared.stage.WaitStage.TheVariants.{NoWait, InWait, Expired, Leaving, Left}
use Rattle.pct_laws.specs.WaitStages.{wait_stage}
use Rattle.pct_model.specs.World.{Thread, Process, World, made_process, thread_with, made_thread, body_of}

-- ---- handlers

-- the functions of the pushes that are open at the pcs of frames, newest first
abbrev pub open_functions : Script → List Frame → List ℕ
open_functions script [] = []
open_functions script (frame ∷ below) = open_pushes (body_of script frame.func) frame.pc ++ open_functions script below

-- handlers, newest first: one for each of these functions, which pushes name, and below them those that are left of the ones that
-- were open at the ending event
pub record AreOpen (functions : List ℕ) (handlers left : List (ℕ × ℕ)) : Type 0 where
  pub pushed : List (ℕ × ℕ)
  pub parts : handlers ≡ pushed ++ left
  pub named : map (λ (handler : ℕ × ℕ). handler.0) pushed ≡ functions

-- ---- frames

-- a frame of this kind is the bottom one of its thread
abbrev pub is_bottom_kind : FrameKind → Bool
is_bottom_kind kind.Main = true
is_bottom_kind kind.Start = true
is_bottom_kind kind.Handler = true
is_bottom_kind kind.Destructor = true
is_bottom_kind kind.ExitFn = true
is_bottom_kind _ = false

-- the bottom frame is of such a kind, and no other frame is
abbrev pub HasOneBottom : List Frame → Type 0
HasOneBottom [] = Unit {0}
HasOneBottom (frame ∷ below) = (is_bottom_kind frame.kind ≡ is_empty below) × HasOneBottom below

-- the kind of the bottom frame, if there is a frame
abbrev pub bottom_kind : List Frame → Option FrameKind
bottom_kind [] = None
bottom_kind (frame ∷ []) = Some frame.kind
bottom_kind (frame ∷ next ∷ below) = bottom_kind (next ∷ below)

-- a frame of this kind runs as its thread ends: it is that of a cleanup handler or of a destructor
abbrev pub is_end_kind : FrameKind → Bool
is_end_kind kind.Handler = true
is_end_kind kind.Destructor = true
is_end_kind _ = false

-- a thread with this status and these frames is in a fork handler: it runs, and its top frame is that of one
abbrev pub is_in_fork_handler : Status → List Frame → Bool
is_in_fork_handler status.Running (frame ∷ below) = is_fork_kind frame.kind
is_in_fork_handler _ _ = false

-- a frame of this kind is that of a function registered with atexit
abbrev pub is_exit_kind : FrameKind → Bool
is_exit_kind kind.ExitFn = true
is_exit_kind _ = false

-- the once control of which a frame of this kind is the init routine, if it is one
abbrev pub control_of : FrameKind → Option ℕ
control_of (kind.OnceFn o) = Some o
control_of _ = None

-- the control is busy with thread tid
abbrev pub is_busy_with : ℕ → OnceState → Bool
is_busy_with tid (Busy id) = nat_eq id tid
is_busy_with tid _ = false

-- ---- status

-- the status is Ending or Ended
abbrev pub is_ending_status : Status → Bool
is_ending_status status.Ending = true
is_ending_status (status.Ended v) = true
is_ending_status _ = false

-- a thread with this status and these frames exits its process: it is Exiting, or runs a function registered with atexit and has no
-- other frame
abbrev pub is_exiting : Status → List Frame → Bool
is_exiting status.Exiting frames = true
is_exiting status.Running (frame ∷ []) = is_exit_kind frame.kind
is_exiting _ _ = false

-- the next statement is pthread_join
abbrev pub is_join : NextStatement → Bool
is_join (StatementIn frame (statement.Join id d)) = true
is_join _ = false

-- the next statement is a call of the cancellation point with an index, which is a required one
abbrev pub is_call_of : ℕ → NextStatement → Bool
is_call_of index (StatementIn frame (statement.PointCall i)) = nat_eq i index && is_required (point_kind index)
is_call_of index _ = false

-- the next statement is sem_wait or sem_timedwait of the semaphore with an index
abbrev pub is_sem_wait_of : ℕ → NextStatement → Bool
is_sem_wait_of s (StatementIn frame (statement.SemWait sem)) = nat_eq sem s
is_sem_wait_of s (StatementIn frame (statement.SemTimedWait result sem)) = nat_eq sem s
is_sem_wait_of s _ = false

-- the next statement is fork
abbrev pub is_at_fork : NextStatement → Bool
is_at_fork (StatementIn frame s) = is_fork s
is_at_fork _ = false

-- the next statement is waitpid
abbrev pub is_at_waitpid : NextStatement → Bool
is_at_waitpid (StatementIn frame (statement.WaitPid result pid value)) = true
is_at_waitpid _ = false

-- the next statement is pthread_cond_wait or pthread_cond_timedwait of the condition variable and the mutex with these indexes
abbrev pub is_cond_wait_of : ℕ → ℕ → NextStatement → Bool
is_cond_wait_of c m (StatementIn frame (statement.CondWait cond mutex)) = nat_eq cond c && nat_eq mutex m
is_cond_wait_of c m (StatementIn frame (statement.CondTimedWait result cond mutex)) = nat_eq cond c && nat_eq mutex m
is_cond_wait_of c m _ = false

-- a thread with this status is in the call of its next statement, if it is in sem_wait, waitpid, pthread_cond_wait or fork; and if the time of
-- its wait expired, the call is a wait with a time
abbrev pub IsSuspendedAt : NextStatement → Status → Type 0
IsSuspendedAt next (status.InSem s) = is_sem_wait_of s next ≡ true
IsSuspendedAt next (status.InWaitPid pid) = is_at_waitpid next ≡ true
IsSuspendedAt next (status.Forking at) = is_at_fork next ≡ true
IsSuspendedAt next (status.Waiting c m) = is_cond_wait_of c m next ≡ true
IsSuspendedAt next (status.Reacquire c m cause.TimedOut) = (is_cond_wait_of c m next && is_timed_wait next) ≡ true
IsSuspendedAt next (status.Reacquire c m why) = is_cond_wait_of c m next ≡ true
IsSuspendedAt next _ = Unit {0}

-- a thread with this status and these frames has begun to end and does not exit its process: it is Ending or Ended, or its bottom
-- frame is that of a handler or of a destructor
abbrev pub is_ending : Status → List Frame → Bool
is_ending st frames = is_ending_status st || option_map_or is_end_kind (bottom_kind frames) false

-- ---- thread-specific data

-- the key is on a place
abbrev pub IsOn : List KeyPlace → ℕ → Key → Type 0
IsOn keys place key = key_at keys place ≡ Some key

-- the place is in the current pass of a thread over the destructors
abbrev pub IsInPass : ℕ → Thread → Type 0
IsInPass place t = slice_get t.specific.in_pass place ≡ Some true

-- a thread has no value at a place, and the place is not in its pass
pub record IsEmptyAt (place : ℕ) (t : Thread) : Type 0 where
  pub no_value : value_at place t.specific ≡ 0
  pub not_in_pass : ¬ (IsInPass place t)

-- the destructor of a key was called in a pass of a thread
abbrev pub was_destroyed : ℕ → Key → ThreadSummary → Bool
was_destroyed pass key s = list_any (is_pair pass key.number) s.destroyed

-- ---- threads

-- the index is that of a function of the script
abbrev pub IsFunction : Script → ℕ → Type 0
IsFunction script func = func < length script.funcs

-- the index is that of a plain function of the script: its statements are only `emit`, `set`, `add`, `if`, `else`, `end`, `return`,
-- `pthread_mutex_lock` and `pthread_mutex_unlock`
abbrev pub IsPlainFunction : Script → ℕ → Type 0
IsPlainFunction script func = IsSomeAnd (slice_get script.funcs func) (λ f. is_plain_body f ≡ true)

-- the function, if there is one, is a plain function of the script
abbrev pub IsPlainIfSome : Script → Option ℕ → Type 0
IsPlainIfSome script None = Unit {0}
IsPlainIfSome script (Some func) = IsPlainFunction script func

-- the fork handlers of a registration are plain functions of the script
pub record ArePlainHandlers (script : Script) (handlers : ForkHandlers) : Type 0 where
  pub prepare : IsPlainIfSome script handlers.prepare
  pub parent : IsPlainIfSome script handlers.parent
  pub child : IsPlainIfSome script handlers.child

-- the status, the frames and the kept values of a thread, which may be in fork or in a fork handler
pub record ForkKept (script : Script) (st : Status) (frames : List Frame) (kept : Option ForkAt) : Type 0 where
  -- a frame is that of a fork handler exactly if the thread is in one, and then it is the top one
  pub in_handler : list_any (λ (frame : Frame). is_fork_kind frame.kind) frames ≡ is_in_fork_handler st frames
  pub on_top : list_any (λ (frame : Frame). is_fork_kind frame.kind) (without_first frames) ≡ false
  -- the function of such a frame is plain
  pub functions : All (λ (frame : Frame). is_fork_kind frame.kind ≡ true → IsPlainFunction script frame.func) frames
  -- the thread keeps the values of a fork exactly if it is in a fork handler
  pub keeps : is_some kept ≡ is_in_fork_handler st frames
  -- it has at most MAX_FRAMES frames, or one more in a fork handler
  pub depth : length frames ≤ (if is_in_fork_handler st frames then suc MAX_FRAMES else MAX_FRAMES)

-- a thread of a process with these keys, and what the events so far report of it
pub record ThreadKept (script : Script) (keys : List KeyPlace) (t : Thread) (s : ThreadSummary) : Type 0 where
  -- the open handlers are its handlers
  pub handlers : s.handlers ≡ t.handlers
  -- it has an ending event exactly if it has a reason, and the event is that of the reason
  pub reason : s.reason ≡ t.reason
  -- it has an event of its end exactly if it has ended
  pub ended : is_some s.ended ≡ t.ended
  -- the value of this event is that of its status
  pub value : (v : ℕ) → t.status ≡ status.Ended v → s.ended ≡ Some v
  -- a thread that has ended has such a status, unless it exits its process
  pub ended_status : t.ended ≡ true → s.exiting ≡ false → is_ended_status t.status ≡ true
  -- unless it exits its process, its handlers are those of the pushes that are open at the pcs of its frames, above those that
  -- were open at its ending event and have not run (XSH pthread_cleanup_push, 2.9.5.3)
  pub pushes : s.exiting ≡ false → AreOpen (open_functions script t.frames) t.handlers s.left
  -- the function of each handler is one of the script
  pub functions : All (λ (handler : ℕ × ℕ). IsFunction script handler.0) t.handlers
  -- the pc of each frame is that of a statement of its function
  pub places : All (λ (frame : Frame). frame.pc < length (body_of script frame.func)) t.frames
  -- it has no frame exactly if it is Ending, Exiting or Ended
  pub frames : is_empty t.frames ≡ has_no_frame t.status
  -- its bottom frame is that of `main`, of a start routine, of a handler, a destructor or an exit function, and no other is
  pub bottom : HasOneBottom t.frames
  -- unless it exits its process, it has a reason exactly if it is ending
  pub has_reason : s.exiting ≡ false → has_begun_to_end t.reason ≡ is_ending t.status t.frames
  -- it has begun to exit its process exactly if it is Exiting, or runs an exit function and has no other frame
  pub exiting : s.exiting ≡ is_exiting t.status t.frames
  -- the function of a frame of an exit function is plain
  pub exit_frames : All (λ (frame : Frame). is_exit_kind frame.kind ≡ true → IsPlainFunction script frame.func) t.frames
  -- unless it exits its process, none of its frames is that of an exit function
  pub exit_functions : s.exiting ≡ false → list_any (λ (frame : Frame). is_exit_kind frame.kind) t.frames ≡ false
  -- a thread that has a reason has its cancelability disabled (XSH 2.9.5.3), and so has one that exits its process, by a choice of
  -- this host
  pub disabled : (has_begun_to_end t.reason || s.exiting) ≡ true → t.state ≡ Disable
  -- the next statement of a thread that is suspended in pthread_join is a pthread_join
  pub joining : (id : ℕ) → t.status ≡ status.Joining id → is_join (next_of script t.frames) ≡ true
  -- the next statement of a thread that is suspended at a generic cancellation point is a call of this point, which is a required one
  pub at_point : (index : ℕ) → t.status ≡ status.AtPoint index → is_call_of index (next_of script t.frames) ≡ true
  -- the next statement of a thread that is in sem_wait, waitpid, pthread_cond_wait or fork is this call
  pub suspended : IsSuspendedAt (next_of script t.frames) t.status
  -- a thread that acted upon a request in a condition wait has not begun to end before it owns its mutex
  pub leaving : has_left_wait t.status ≡ true → has_begun_to_end t.reason ≡ false
  -- a thread that is in fork, or in one of its handlers, has not begun to end
  pub forking : is_forking t.status || is_in_fork_handler t.status t.frames ≡ true → has_begun_to_end t.reason ≡ false
  -- below the frame of a fork handler the next statement is fork
  pub fork_below : is_in_fork_handler t.status t.frames ≡ true → is_at_fork (next_of script (without_first t.frames)) ≡ true
  -- before its ending event, no handler is left of those that were open then
  pub none_left : has_begun_to_end t.reason ≡ false → s.left ≡ []
  -- the number of its passes over destructors
  pub passes : s.passes ≡ t.pass
  -- the destructor of a key whose place is in the current pass was not called in it (XSH pthread_key_create)
  pub not_destroyed : (place : ℕ) (key : Key) → IsInPass place t → IsOn keys place key → was_destroyed t.pass key s ≡ false
  -- at a place without a key it has no value, and the place is not in its pass
  pub no_key : (place : ℕ) → key_at keys place ≡ None → IsEmptyAt place t
  -- before the first pass no place is in a pass
  pub no_pass : t.pass ≡ 0 → All (λ in_pass. in_pass ≡ false) t.specific.in_pass

-- ---- keys

-- the key on a place is the last one that was made there: the first one has the number 1 + place, and each other one MAX_KEYS more
-- than the one before
pub record IsLastMade (place : ℕ) (p : KeyPlace) (key : Key) : Type 0 where
  pub was_made : 0 < p.made
  pub number : 1 + place + MAX_KEYS * p.made ≡ key.number + MAX_KEYS

-- the keys of a process
pub record KeysKept (script : Script) (keys : List KeyPlace) : Type 0 where
  -- a process has MAX_KEYS places for keys
  pub places : length keys ≡ MAX_KEYS
  -- the key on a place is the last one that was made there
  pub numbers : (place : ℕ) (p : KeyPlace) (key : Key) → slice_get keys place ≡ Some p → p.key ≡ Some key → IsLastMade place p key
  -- its destructor is a function of the script
  pub destructors : (place : ℕ) (key : Key) (f : ℕ) → IsOn keys place key → key.destructor ≡ Some f → IsFunction script f

-- ---- each process, each thread

-- the fact is true of each process that was made
abbrev pub EachProcess : World → (ℕ → Process → Type 0) → Type 0
EachProcess w Is = (pid : ℕ) (p : Process) → made_process pid w ≡ Some p → Is pid p

-- the fact is true of each thread of a process that was made and is not gone
abbrev pub EachThreadOf : Process → (ℕ → Thread → Type 0) → Type 0
EachThreadOf p Is = (tid : ℕ) (t : Thread) → thread_with tid p ≡ Some t → t.gone ≡ false → Is tid t

-- the fact is true of each such thread of process pid of a state
abbrev pub EachThreadIn : ℕ → World → (ℕ → Thread → Type 0) → Type 0
EachThreadIn pid w Is = (tid : ℕ) (t : Thread) → made_thread pid tid w ≡ Some t → t.gone ≡ false → Is tid t

-- the fact is true of each such thread of each process of a state
abbrev pub EachThread : World → (ℕ → ℕ → Thread → Type 0) → Type 0
EachThread w Is = (pid : ℕ) → EachThreadIn pid w (Is pid)

-- ---- joins

-- thread tid of process pid is suspended in pthread_join for thread id of the process
pub record IsSuspendedInJoin (pid tid id : ℕ) (w : World) (events : List Event) : Type 0 where
  -- its newest event is that of the call
  pub newest : newest_event pid tid events ≡ Some (what.Called join_point)
  -- the thread that it joins was made, is not gone, is another one, and is neither joined nor detached
  pub target : Thread
  pub made : made_thread pid id w ≡ Some target
  pub here : target.gone ≡ false
  pub other : id ≢ tid
  pub not_joined : target.joined ≡ false
  pub joinable : target.detached ≡ false
  -- no other thread of the process is suspended in pthread_join for it
  pub alone : EachThreadIn pid w (λ second u. u.status ≡ status.Joining id → second ≡ tid)

-- ---- once controls

-- the once controls of a process: those of the script, each in the state that the events report; one that is busy is so with a thread that
-- was made, and that the process may not have inherited
pub record OncesKept (script : Script) (pid : ℕ) (p : Process) (events : List Event) : Type 0 where
  pub controls : length p.shared.onces ≡ length script.onces
  pub states : (o : ℕ) → once_at p.shared.onces o ≡ once_of pid o events
  pub made : (o tid : ℕ) → once_at p.shared.onces o ≡ Busy tid → is_some (thread_with tid p) ≡ true

-- the frame is that of the init routine of control o
abbrev pub is_routine_of : ℕ → Frame → Bool
is_routine_of o frame = option_map_or (nat_eq o) (control_of frame.kind) false

-- a thread is in the routine of a control in one frame, if the control is busy with it, and in none otherwise; so no two threads are in it
abbrev pub IsInItsRoutines : List OnceState → Thread → Type 0
IsInItsRoutines onces t = (o : ℕ) → count_by (is_routine_of o) t.frames ≡ (if is_busy_with t.id (once_at onces o) then 1 else 0)

-- ---- mutexes and condition waits

-- the mutexes of a process: those of the script, with the owners that the events report
pub record OwnersKept (script : Script) (pid : ℕ) (p : Process) (events : List Event) : Type 0 where
  pub mutexes : length p.shared.owners ≡ length script.mutexes
  pub owners : (m : ℕ) → slice_index p.shared.owners m ≡ owner_of pid m events

-- a thread leaves its wait on condition variable c with mutex m, which has a time or, without the flag, has none; it may have handed on a
-- signal
abbrev pub is_leaving : Bool → ℕ → ℕ → WaitStage → Bool
is_leaving timed c m (Leaving has_time cond mutex) = beq has_time timed && nat_eq cond c && nat_eq mutex m
is_leaving timed c m (Left has_time cond mutex) = beq has_time timed && nat_eq cond c && nat_eq mutex m
is_leaving timed c m _ = false

-- how far the newest condition wait of a thread with this next statement and this status is: it is unfinished exactly if the thread is Waiting
-- or Reacquire
abbrev pub WaitKept : NextStatement → Status → WaitStage → Type 0
WaitKept next (status.Waiting c m) stage = stage ≡ InWait (is_timed_wait next) m
WaitKept next (status.Reacquire c m cause.Signalled) stage = stage ≡ InWait (is_timed_wait next) m
WaitKept next (status.Reacquire c m cause.Broadcast) stage = stage ≡ InWait (is_timed_wait next) m
WaitKept next (status.Reacquire c m cause.TimedOut) stage = stage ≡ Expired c m
WaitKept next (status.Reacquire c m cause.Canceled) stage = is_leaving (is_timed_wait next) c m stage ≡ true
WaitKept next _ stage = stage ≡ NoWait

-- the event is a call of pthread_cond_wait or pthread_cond_timedwait
abbrev pub is_wait_call : What → Bool
is_wait_call (what.Called index) = nat_eq index cond_wait_point || nat_eq index cond_timedwait_point
is_wait_call _ = false

-- the event is that a mutex is released
abbrev pub is_release : What → Bool
is_release (what.Released m) = true
is_release _ = false

-- ---- states

-- a thread that has ended exits its process: the last thread of a process does so (XSH pthread_exit)
pub record ExitsAfterItsEnd (t : Thread) (s : ThreadSummary) : Type 0 where
  pub ended : t.ended ≡ true
  pub exits : s.exiting ≡ true

-- the status with which the process ended, if it has
abbrev pub status_of_end : Process → Option ℕ
status_of_end p = option_map (λ end. end.status) p.ended

-- each thread of the process has ended
abbrev pub HasOnlyEnded : Process → Type 0
HasOnlyEnded p = EachThreadOf p (λ tid t. t.ended ≡ true)

-- the state after a run, and the events of the run, newest first
pub record Kept (script : Script) (config : Config) (w : World) (events : List Event) : Type 0 where
  -- the numbers of processes and threads, and the threads and forks of the events
  pub numbers : NumbersThreads config.slots w events
  -- the threads that were made and are not gone are the known ones
  pub known : (pid tid : ℕ) → is_known pid tid events ≡ option_map_or (λ t. not t.gone) (made_thread pid tid w) false
  -- each process has the globals of the script, each frame has MAX_LOCALS locals, and each thread has MAX_KEYS values
  pub globals : EachProcess w (λ pid p. length p.shared.globals ≡ length script.globals)
  pub locals : EachThread w (λ pid tid t. All (λ (frame : Frame). length frame.locals ≡ MAX_LOCALS) t.frames)
  pub values : EachThread w (λ pid tid t. length t.specific.values ≡ MAX_KEYS)
  -- the keys of each process
  pub keys : EachProcess w (λ pid p. KeysKept script p.shared.keys)
  -- there is a key with a number in a process exactly if the events report so
  pub reported_keys : EachProcess w (λ pid p. (key : ℕ) → is_some (key_with key p.shared.keys) ≡ has_key pid key events)
  -- the status with which a process ended, if it has, and its exit value are those that the events report
  pub ended : EachProcess w (λ pid p. status_of_end p ≡ end_status pid events)
  pub exits : EachProcess w (λ pid p. p.shared.exit_value ≡ exit_value pid events)
  -- the functions that are registered with atexit are plain functions of the script
  pub exit_functions : EachProcess w (λ pid p. All (IsPlainFunction script) p.shared.exit_functions)
  -- the fork handlers that are registered are plain functions of the script
  pub fork_handlers : EachProcess w (λ pid p. All (ArePlainHandlers script) p.shared.fork_handlers)
  -- the fork of each thread
  pub forks : EachThread w (λ pid tid t. ForkKept script t.status t.frames t.kept)
  -- each thread of each process
  pub threads : EachProcess w (λ pid p. EachThreadOf p (λ tid t. ThreadKept script p.shared.keys t (summary_of pid tid events)))
  -- until a thread begins to end, or to exit its process, the state and the type of its cancelability are those that the events report
  pub state : EachThread w (λ pid tid t. has_not_begun pid tid events ≡ true → t.state ≡ state_if (is_enabled_last pid tid events))
  pub mode : EachThread w (λ pid tid t. has_not_begun pid tid events ≡ true → t.mode ≡ mode_if (is_asynchronous_last pid tid events))
  -- a request is pending for a thread that has not ended exactly if the events report one
  pub pending : EachThread w (λ pid tid t. t.ended ≡ false → t.pending ≡ is_requested pid tid events)
  -- a thread is joined or detached exactly if the events report so
  pub joined : EachThread w (λ pid tid t. t.joined ≡ is_joined pid tid events)
  pub detached : EachThread w (λ pid tid t. t.detached ≡ is_detached pid tid events)
  -- each thread that is suspended in pthread_join
  pub joins : EachThread w (λ pid tid t. (id : ℕ) → t.status ≡ status.Joining id → IsSuspendedInJoin pid tid id w events)
  -- each mutex of the script has an owner or none in each process, and it is the one that the events report
  pub owners : EachProcess w (λ pid p. OwnersKept script pid p events)
  -- each once control of the script has a state in each process, and it is the one that the events report
  pub onces : EachProcess w (λ pid p. OncesKept script pid p events)
  -- a thread that does not exit its process is in the routines of the controls that are busy with it, each once
  pub routines : EachProcess w (λ pid p. EachThreadOf p (λ tid t. (summary_of pid tid events).exiting ≡ false → IsInItsRoutines p.shared.onces t))
  -- the condition wait of each thread is unfinished exactly if the thread is in it
  pub waits : EachThread w (λ pid tid t. WaitKept (next_of script t.frames) t.status (wait_stage pid tid events))
  -- each call of a condition wait is directly followed by a release of the same thread
  pub calls_release : are_followed is_wait_call is_release events ≡ true
  -- if a thread exits its process after its own end, each thread of the process has ended (XSH pthread_exit)
  pub last : EachProcess w (λ pid p. EachThreadOf p (λ tid t. ExitsAfterItsEnd t (summary_of pid tid events) → HasOnlyEnded p))
