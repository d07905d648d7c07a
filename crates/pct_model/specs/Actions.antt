-- What a transition changes: the thread that makes it, a thread that it names, the state that the threads of its process share,
-- the process, the other processes, and the run; and the process that it makes. The thread that makes it and its process are looked up
-- by their ids before the first action. Where a process is made, the thread is looked up once more, after its changes.
use Rattle.std.specs.Prelude.{ℕ, suc, Bool, true, false, not, ◌&&◌, if◌then◌else◌, List, [], ◌∷◌, ◌++◌, map, flat_map, Option, Some, None, is_some, nat_eq, slice_set}
use Rattle.pct_model.specs.declared.frame.Frame.{Frame}
use Rattle.pct_model.specs.declared.state.FrameKind.TheVariants as kind
use Rattle.pct_model.specs.declared.state.Phase.TheVariants.{Child}
use Rattle.pct_model.specs.declared.state.OnceState.{OnceState}
use Rattle.pct_model.specs.declared.state.Reason.TheVariants as reason
use Rattle.pct_model.specs.declared.state.Cause.TheVariants as cause
use Rattle.pct_model.specs.declared.state.Status.{Status}
use Rattle.pct_model.specs.declared.state.Status.TheVariants.{Running, Ending, Forking, Exiting, Ended}
use Rattle.pct_model.specs.declared.statement.Dest.{Dest}
use Rattle.pct_model.specs.declared.statement.Dest.TheVariants as destination
use Rattle.pct_model.specs.declared.stop.Why.{Why}
use Rattle.pct_model.specs.declared.transition.NamedAction.{NamedAction}
use Rattle.pct_model.specs.declared.transition.NamedAction.TheVariants as named_action
use Rattle.pct_model.specs.declared.transition.NewThread.{NewThread}
use Rattle.pct_model.specs.declared.transition.OwnAction.{OwnAction}
use Rattle.pct_model.specs.declared.transition.OwnAction.TheVariants as own_action
use Rattle.pct_model.specs.declared.transition.ProcessAction.{ProcessAction}
use Rattle.pct_model.specs.declared.transition.ProcessAction.TheVariants as process_action
use Rattle.pct_model.specs.declared.transition.SharedAction.{SharedAction}
use Rattle.pct_model.specs.declared.transition.SharedAction.TheVariants as shared_action
use Rattle.pct_model.specs.declared.transition.Transition.{Transition}
use Rattle.pct_model.specs.Cancelability.{ending_state, ending_mode}
use Rattle.pct_model.specs.CondCalls.{is_waiting_on, unblocked}
use Rattle.pct_model.specs.OnceCalls.{abandoned}
use Rattle.pct_model.specs.Keys.{key_place, with_key, without_key, with_value, without_value, with_pass, without_pass}
use Rattle.pct_model.specs.Environment.{is_last}
use Rattle.pct_model.specs.World.{Thread, SharedState, ProcessEnd, Process, World, new_frame, new_thread}
use Rattle.pct_model.specs.ThreadSlots.{has_valid_id}

-- ---- the thread

-- the frames with the top one at a pc
abbrev pub at_pc : ℕ → List Frame → List Frame
at_pc pc [] = []
at_pc pc (frame ∷ below) = record frame { pc = pc } ∷ below

-- the frames with a new value of a local of the top one
abbrev pub set_local : ℕ → ℕ → List Frame → List Frame
set_local i v [] = []
set_local i v (frame ∷ below) = record frame { locals = slice_set frame.locals i v } ∷ below

-- the frames with a value that is written to a destination, if it is a local of the top one
abbrev pub frames_written : Dest → ℕ → List Frame → List Frame
frames_written (destination.Local i) v frames = set_local i v frames
frames_written _ v frames = frames

-- a list without its first item
abbrev pub without_first : {T : Type 0} → List T → List T
without_first [] = []
without_first (first ∷ rest) = rest

-- the thread after it went on at a pc, if it does
unfoldable pub thread_at : Option ℕ → Thread → Thread
thread_at None t = t
thread_at (Some pc) t = record t { status = Running; frames = at_pc pc t.frames }

-- the thread after its own action, if it has one
unfoldable pub own_after : Option OwnAction → Thread → Thread
own_after None t = t
own_after (Some (own_action.Call f a kind)) t = record t { status = Running; frames = new_frame f a kind ∷ t.frames }
own_after (Some (own_action.CallHandler f a)) t = record t { status = Running; frames = new_frame f a kind.PopHandler ∷ t.frames; handlers = without_first t.handlers }
own_after (Some (own_action.RunHandler f a)) t = record t { status = Running; frames = new_frame f a kind.Handler ∷ []; handlers = without_first t.handlers }
own_after (Some (own_action.RunDestructor k f v)) t = record t { status = Running; frames = new_frame f v kind.Destructor ∷ []; specific = without_value (key_place k) t.specific }
own_after (Some (own_action.RunExitFunction f)) t = record t { status = Running; frames = new_frame f 0 kind.ExitFn ∷ [] }
own_after (Some (own_action.CallForkHandler at f)) t = record t { status = Running; frames = new_frame f 0 kind.ForkFn ∷ t.frames; kept = Some at }
own_after (Some (own_action.Leave status)) t = record t { status = status; frames = without_first t.frames; kept = None }
own_after (Some (own_action.SetStatus status)) t = record t { status = status }
own_after (Some (own_action.PushHandler f a)) t = record t { handlers = (f, a) ∷ t.handlers }
own_after (Some own_action.PopHandler) t = record t { handlers = without_first t.handlers }
own_after (Some (own_action.SetState state)) t = record t { state = state }
own_after (Some (own_action.SetMode mode)) t = record t { mode = mode }
own_after (Some (own_action.SetSpecific k v)) t = record t { specific = with_value (key_place k) v t.specific }
own_after (Some own_action.BeginPass) t = record t { pass = suc t.pass; specific = with_pass t.specific }
own_after (Some (own_action.BeginEnd why)) t = record t { status = Ending; frames = []; state = ending_state; mode = ending_mode; reason = why; kept = None }
own_after (Some (own_action.EndThread v)) t = record t { status = Ended v; ended = true }
own_after (Some own_action.BeginExit) t = record t { status = Exiting; frames = []; state = ending_state; mode = ending_mode; kept = None }
own_after (Some own_action.EndLast) t = record t { status = Exiting; ended = true; frames = []; state = ending_state; mode = ending_mode; kept = None }

-- ---- the threads of its process

-- any thread of the process after the action that names threads, if there is one
unfoldable pub named_after : Option NamedAction → Thread → Thread
named_after None t = t
named_after (Some (named_action.EndJoin id)) t = if has_valid_id id t then record t { joined = true } else t
-- a request for a thread that has ended changes nothing, which is a choice of this host
named_after (Some (named_action.Request id)) t = if has_valid_id id t && not t.ended then record t { pending = true } else t
named_after (Some (named_action.Detach id)) t = if has_valid_id id t then record t { detached = true } else t
-- a thread that waits on a condition variable is unblocked: by a signal, or with all others by a broadcast (XSH pthread_cond_signal)
named_after (Some (named_action.Wake id)) t = if has_valid_id id t then record t { status = unblocked cause.Signalled t.status } else t
named_after (Some (named_action.WakeAll c)) t = if is_waiting_on c t.status then record t { status = unblocked cause.Broadcast t.status } else t
-- no thread keeps its value of a key that is deleted
named_after (Some (named_action.ForgetKey k)) t = record t { specific = without_value (key_place k) t.specific }

-- the thread that a transition creates
abbrev pub thread_created : Option NewThread → List Thread
thread_created None = []
thread_created (Some new) = new_thread new.id new.detached (new_frame new.func new.arg kind.Start) ∷ []

-- ---- its process

-- the globals with a value that is written to a destination, if it is one of them
abbrev pub globals_written : Dest → ℕ → List ℕ → List ℕ
globals_written (destination.Global i) v globals = slice_set globals i v
globals_written _ v globals = globals

-- the once controls after the own action of the thread with an id, if it has one. As a thread begins to end, each control whose init
-- routine it runs is as if it had not called pthread_once. XSH pthread_once says so of a routine that is canceled; that pthread_exit in it
-- does the same is a choice of this host. Where an exit begins the controls stay as they are
unfoldable pub onces_after : ℕ → Option OwnAction → List OnceState → List OnceState
onces_after tid (Some (own_action.BeginEnd why)) onces = map (abandoned tid) onces
onces_after tid _ onces = onces

-- the shared state after the action on it, if there is one
unfoldable pub shared_after : Option SharedAction → SharedState → SharedState
shared_after None s = s
shared_after (Some (shared_action.MakeKey k destructor)) s = record s { keys = with_key (key_place k) k destructor s.keys }
shared_after (Some (shared_action.DeleteKey k)) s = record s { keys = without_key (key_place k) s.keys }
shared_after (Some (shared_action.OwnMutex m id)) s = record s { owners = slice_set s.owners m id }
shared_after (Some (shared_action.SetCount sem n)) s = record s { counts = slice_set s.counts sem n }
shared_after (Some (shared_action.SetOnce o state)) s = record s { onces = slice_set s.onces o state }
shared_after (Some (shared_action.AddForkHandlers handlers)) s = record s { fork_handlers = s.fork_handlers ++ handlers ∷ [] }
shared_after (Some (shared_action.AddExit f)) s = record s { exit_functions = f ∷ s.exit_functions }
shared_after (Some shared_action.TakeExit) s = record s { exit_functions = without_first s.exit_functions }
shared_after (Some (shared_action.BeginExit v)) s = record s { exit_value = Some v }

-- the process after an action on the processes: it may end with a status; one without a parent is reaped as it ends, which is this
-- host's choice
unfoldable pub process_after : Option ProcessAction → Process → Process
process_after (Some (process_action.End n)) p = record p { ended = Some (record { status = n; reaped = nat_eq p.parent 0 }) }
process_after _ p = p

-- ---- the other processes

-- the process has ended
abbrev pub has_ended : Process → Bool
has_ended p = is_some p.ended

-- a process with this end, if it has ended, after its parent ended: it gets another parent (XSH _exit). This host's choice: it has
-- none from then on, since no process inherits it; and one that has ended is reaped
abbrev pub orphaned : Option ProcessEnd → Process → Process
orphaned None p = record p { parent = 0 }
orphaned (Some end) p = record p { ended = Some (record end { reaped = true }) }

-- the end of a process after its parent waited for it, if it has ended
abbrev pub as_reaped : Option ProcessEnd → Option ProcessEnd
as_reaped None = None
as_reaped (Some end) = Some (record end { reaped = true })

-- another process after an action of a thread of process pid
unfoldable pub other_process_after : ℕ → Option ProcessAction → Process → Process
other_process_after pid (Some (process_action.Reap child)) p = if nat_eq p.pid child then record p { ended = as_reaped p.ended } else p
other_process_after pid (Some (process_action.End n)) p = if nat_eq p.parent pid then orphaned p.ended p else p
other_process_after pid _ p = p

-- ---- the process that fork makes

-- the status of the replica of a thread with this status, which is in fork
abbrev pub in_child : Status → Status
in_child (Forking at) = Forking (record { phase = Child; next = 0; length = at.length; answer = 0 })
in_child other = other

-- the thread of the child: the replica of the thread that called fork (XSH fork). That it has that thread's id, cancelability, cleanup
-- handlers and thread-specific data, that it is detached if that thread is, and that no request for it is pending, are choices of this
-- host. It has neither ended nor begun to end, and nothing waits for it
abbrev pub replica_of : Thread → Thread
replica_of t = record { id = t.id; detached = t.detached; joined = false; status = in_child t.status; ended = false; frames = t.frames; state = t.state; mode = t.mode; pending = false; handlers = t.handlers; reason = reason.None; pass = 0; specific = without_pass t.specific; kept = None; gone = false }

-- a thread of the process, as the child has it: the thread with this id called fork, and the child inherits no other one
unfoldable pub inherited : ℕ → Thread → Thread
inherited tid t = if has_valid_id tid t then replica_of t else record t { gone = true }

-- the child, with an id. It inherits what the threads of the process share: the globals, which stand for its memory, the mutexes with
-- their owners, the semaphores, the once controls, the keys, and the functions that are registered (XSH fork, pthread_atfork, atexit). Exit
-- has not begun in it. If the process has another thread that has not ended, the child may execute async-signal-safe operations only (XSH
-- fork)
unfoldable pub child_of : ℕ → ℕ → Process → Process
child_of tid pid p = record { pid = pid; parent = p.pid; ended = None; threads = map (inherited tid) p.threads; shared = record p.shared { exit_value = None; restricted = not (is_last tid p.threads) } }

-- the process that an action makes, if it makes one: a child of a process whose thread tid forks
unfoldable pub child_by : ℕ → Process → Option ProcessAction → List Process
child_by tid p (Some (process_action.Make pid)) = child_of tid pid p ∷ []
child_by tid p _ = []

-- ---- the run

-- the reason of the stop after a transition, which may have one
unfoldable pub stop_after : Option Why → Option Why → Option Why
stop_after (Some why) stop = Some why
stop_after None stop = stop

-- ---- transitions

-- what is written, in order
abbrev pub written : {T : Type 0} → (Dest → ℕ → T → T) → List (Dest × ℕ) → T → T
written write [] x = x
written write ((d, v) ∷ writes) x = written write writes (write d v x)

-- the thread after its transition
abbrev pub moved : Transition → Thread → Thread
moved o t = let at : Thread = thread_at o.next t in own_after o.own (record at { frames = written frames_written o.writes at.frames })

-- a thread of the process after a transition of the one with an id
abbrev pub thread_moved : ℕ → Transition → Thread → Thread
thread_moved tid o t = named_after o.named (if has_valid_id tid t then moved o t else t)

-- the threads of the process
abbrev pub threads_moved : ℕ → Transition → List Thread → List Thread
threads_moved tid o threads = map (thread_moved tid o) threads ++ thread_created o.created

-- what they share, after a transition of the thread with an id
abbrev pub shared_moved : ℕ → Transition → SharedState → SharedState
shared_moved tid o s = shared_after o.shared (record s { globals = written globals_written o.writes s.globals; onces = onces_after tid o.own s.onces })

-- the process after a transition of its thread with an id
abbrev pub changed : ℕ → Transition → Process → Process
changed tid o p = process_after o.process (record p { threads = threads_moved tid o p.threads; shared = shared_moved tid o p.shared })

-- the process has this id and has not ended
abbrev pub is_live_process : ℕ → Process → Bool
is_live_process pid p = nat_eq p.pid pid && not (has_ended p)

-- a process after a transition of thread tid of process pid
abbrev pub process_moved : ℕ → ℕ → Transition → Process → Process
process_moved pid tid o p = if is_live_process pid p then changed tid o p else other_process_after pid o.process p

-- the process that the transition makes, if it makes one: a child of the process of the thread, as that is after the transition
abbrev pub process_made : ℕ → ℕ → Transition → Process → List Process
process_made pid tid o p = if is_live_process pid p then child_by tid (changed tid o p) o.process else []

-- the state after a transition of thread tid of process pid
unfoldable pub after_transition : ℕ → ℕ → Transition → World → World
after_transition pid tid o w = record { processes = map (process_moved pid tid o) w.processes ++ flat_map (process_made pid tid o) w.processes; stop = stop_after o.stop w.stop }
