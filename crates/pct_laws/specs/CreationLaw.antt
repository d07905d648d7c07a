-- The law of creation: pthread_create makes one thread, which executes the start routine with its argument; fork makes one process, which has
-- what the threads of its parent share and the replica of the thread that called fork; and no other step makes a thread or a process (XSH
-- pthread_create, fork, pthread_setcancelstate).
--
-- It leaves open the thread-specific data of a new thread and of a replica (ValueLaw.antt), and which id a new thread gets (SlotLaw.antt).
use Rattle.std.specs.Prelude.{◌≡◌, ℕ, ◌-◌, Bool, false, not, ◌&&◌, List, [], ◌∷◌, length, map, take, drop, filter, flat_map, replicate}
use Rattle.std.specs.Prelude.{Option, Some, None, All, nat_eq}
use Rattle.std.specs.List.{list_any}
use Rattle.pct_model.specs.declared.event.What.{What}
use Rattle.pct_model.specs.declared.event.What.TheVariants as what
use Rattle.pct_model.specs.declared.frame.Frame.{Frame}
use Rattle.pct_model.specs.declared.limits.TheConstants.{MAX_LOCALS}
use Rattle.pct_model.specs.declared.schedule.Config.{Config}
use Rattle.pct_model.specs.declared.schedule.Entry.{Entry}
use Rattle.pct_model.specs.declared.script.Script.{Script}
use Rattle.pct_model.specs.declared.state.FrameKind.TheVariants as kind
use Rattle.pct_model.specs.declared.state.Mode.TheVariants.{Deferred}
use Rattle.pct_model.specs.declared.state.Phase.{Phase}
use Rattle.pct_model.specs.declared.state.Phase.TheVariants as phase
use Rattle.pct_model.specs.declared.state.Reason.TheVariants as reason
use Rattle.pct_model.specs.declared.state.State.TheVariants.{Enable}
use Rattle.pct_model.specs.declared.state.Status.{Status}
use Rattle.pct_model.specs.declared.state.Status.TheVariants as status
use Rattle.pct_model.specs.declared.statement.Stmt.TheVariants as statement
use Rattle.pct_model.specs.NextStatement.{NextStatement, StatementIn, next_of}
use Rattle.pct_model.specs.World.{Thread, Process, value_of}
use Rattle.pct_laws.specs.ProcessSteps.{EachStepOfProcesses}
use Rattle.pct_laws.specs.ThreadSteps.{ThreadStep, EachStep}

-- ---- what the events report

-- the thread that an event creates: its id, and whether it is detached
abbrev pub thread_of : What → List (ℕ × Bool)
thread_of (what.Created id detached) = (id, detached) ∷ []
thread_of _ = []

-- the process that an event makes
abbrev pub process_of : What → List ℕ
process_of (what.Forked pid) = pid ∷ []
process_of _ = []

-- ---- new threads

-- a new thread has not begun to end, no request is pending for it, and it was not joined
pub record IsAtItsStart (t : Thread) : Type 0 where
  pub no_request : t.pending ≡ false
  pub not_ending : t.reason ≡ reason.None
  pub no_pass : t.pass ≡ 0
  pub not_ended : t.ended ≡ false
  pub not_joined : t.joined ≡ false

-- the frames of the thread that a statement creates: that of the start routine, before its first statement, with the argument of
-- pthread_create. That the argument is read before the results are stored, and that other locals are 0, are choices of this host
abbrev pub frames_at_start : List ℕ → NextStatement → Option (List Frame)
frames_at_start globals (StatementIn frame (statement.Create result id start argument detached)) =
    Some (record { func = start; pc = 0; locals = value_of globals frame argument ∷ replicate (MAX_LOCALS - 1) 0; kind = kind.Start } ∷ [])
frames_at_start globals _ = None

-- a thread that a step creates (XSH pthread_create), with cancelability enabled and deferred (XSH pthread_setcancelstate)
pub record IsCreated (script : Script) (s : ThreadStep) (t : Thread) : Type 0 where
  pub start : frames_at_start s.process.shared.globals (next_of script s.before.frames) ≡ Some t.frames
  pub runs : t.status ≡ status.Running
  pub enabled : t.state ≡ Enable
  pub deferred : t.mode ≡ Deferred
  pub no_handlers : t.handlers ≡ []
  pub at_start : IsAtItsStart t
  pub is_there : t.gone ≡ false

-- what a step does to the threads of its process, which are listed in the order of their creation
pub record CreatesThreads (script : Script) (s : ThreadStep) : Type 0 where
  -- each one is there after it
  pub kept : map (λ t. t.id) (take (length s.process.threads) s.process_after.threads) ≡ map (λ t. t.id) s.process.threads
  -- the new ones are those of its events, detached as these report
  pub reported : map (λ t. (t.id, t.detached)) (drop (length s.process.threads) s.process_after.threads) ≡ flat_map thread_of s.events
  pub created : All (IsCreated script s) (drop (length s.process.threads) s.process_after.threads)

-- ---- new processes

-- the status of the replica of a thread in this phase of a fork, which was called with this number of registrations: it has the child
-- handlers of the same registrations to call, and returns from fork
abbrev pub status_in_child_by : Phase → ℕ → Option Status
status_in_child_by phase.Prepare count = Some (status.Forking (record { phase = phase.Child; next = 0; length = count; answer = 0 }))
status_in_child_by _ count = None

-- the status of the replica of a thread in fork
abbrev pub status_in_child : Status → Option Status
status_in_child (status.Forking at) = status_in_child_by at.phase at.length
status_in_child _ = None

-- the replica of a thread, in the process that it makes (XSH fork). That it keeps the id, and that no request is pending for it, are choices
-- of this host
pub record IsReplica (t replica : Thread) : Type 0 where
  pub id : replica.id ≡ t.id
  pub frames : replica.frames ≡ t.frames
  pub in_fork : status_in_child t.status ≡ Some replica.status
  pub handlers : replica.handlers ≡ t.handlers
  pub state : replica.state ≡ t.state
  pub mode : replica.mode ≡ t.mode
  pub detached : replica.detached ≡ t.detached
  pub at_start : IsAtItsStart replica

-- a thread is another one than thread tid, and has not ended
abbrev pub is_another : ℕ → Thread → Bool
is_another tid t = not t.gone && not t.ended && not (nat_eq t.id tid)

-- a process that a step makes (XSH fork)
pub record IsChild (s : ThreadStep) (child : Process) : Type 0 where
  pub parent : child.parent ≡ s.pid
  pub runs : child.ended ≡ None
  -- what its threads share is a copy: its memory, the owners of its mutexes, its semaphores, its once controls, its keys, and the functions
  -- that are registered. Exit has not begun in it; and if its parent has another thread, it may execute async-signal-safe operations only
  pub copy : child.shared ≡ record s.process.shared { exit_value = None; restricted = list_any (is_another s.tid) s.process.threads }
  -- it has one thread; those of its parent that it lacks are gone
  pub thread : Thread
  pub alone : filter (λ t. not t.gone) child.threads ≡ thread ∷ []
  pub is_replica : IsReplica s.before thread

-- what a step does to the processes, which are listed in the order of their creation
pub record CreatesProcesses (s : ThreadStep) (before after : List Process) : Type 0 where
  pub kept : map (λ p. p.pid) (take (length before) after) ≡ map (λ p. p.pid) before
  pub reported : map (λ p. p.pid) (drop (length before) after) ≡ flat_map process_of s.events
  pub created : All (IsChild s) (drop (length before) after)

-- ---- the law

-- the law of creation, of the run of a schedule
pub record CreationLaw (script : Script) (config : Config) (entries : List Entry) : Type 0 where
  pub threads : EachStep script config entries (CreatesThreads script)
  pub processes : EachStepOfProcesses script config entries CreatesProcesses
