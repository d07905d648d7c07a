-- The state of the machine: processes, their threads, and the state of each (XSH 2.9, pthread_create, fork). Frames,
-- cleanup handlers and exit functions are listed newest first; processes, threads and fork handlers in the order
-- in which they were created or registered. Entries are never removed from the lists of processes and threads.
use Rattle.std.specs.Prelude.{ℕ, Bool, false, List, [], ◌∷◌, length, map, replicate, Option, Some, None, find, nat_eq, slice_get, slice_index, option_and_then}
use Rattle.std.specs.Option.{option_map_or}
use Rattle.pct_model.specs.declared.script.Script.{Script}
use Rattle.pct_model.specs.declared.statement.Stmt.{Stmt}
use Rattle.pct_model.specs.declared.statement.Operand.{Operand}
use Rattle.pct_model.specs.declared.statement.Operand.TheVariants as operand
use Rattle.pct_model.specs.declared.frame.Frame.{Frame}
use Rattle.pct_model.specs.declared.state.FrameKind.{FrameKind}
use Rattle.pct_model.specs.declared.state.FrameKind.TheVariants as kind
use Rattle.pct_model.specs.declared.state.State.{State}
use Rattle.pct_model.specs.declared.state.State.TheVariants.{Enable}
use Rattle.pct_model.specs.declared.state.Mode.{Mode}
use Rattle.pct_model.specs.declared.state.Mode.TheVariants.{Deferred}
use Rattle.pct_model.specs.declared.state.OnceState.{OnceState}
use Rattle.pct_model.specs.declared.state.OnceState.TheVariants.{Fresh}
use Rattle.pct_model.specs.declared.state.Reason.{Reason}
use Rattle.pct_model.specs.declared.state.Reason.TheVariants as reason
use Rattle.pct_model.specs.declared.state.Status.{Status}
use Rattle.pct_model.specs.declared.state.Status.TheVariants.{Running}
use Rattle.pct_model.specs.declared.process.ForkHandlers.{ForkHandlers}
use Rattle.pct_model.specs.declared.state.ForkAt.{ForkAt}
use Rattle.pct_model.specs.declared.stop.Why.{Why}
use Rattle.pct_model.specs.Keys.{KeyPlace, no_keys, KeyValues, no_values}
use Rattle.pct_model.specs.Names.{names_of, main_of}

-- a thread (XSH 2.9, pthread_create)
pub record Thread : Type 0 where
  pub id : ℕ
  pub detached : Bool
  pub joined : Bool
  pub status : Status
  -- the thread has ended; this stays true where the last thread of a process goes on to exit it
  pub ended : Bool
  pub frames : List Frame
  pub state : State
  pub mode : Mode
  pub pending : Bool
  -- the cleanup handlers: function and argument
  pub handlers : List (ℕ × ℕ)
  pub reason : Reason
  -- the number of the current pass over the destructors, 0 before the first
  pub pass : ℕ
  -- thread-specific data
  pub specific : KeyValues
  -- the values of a fork in progress, while one of its fork handlers runs
  pub kept : Option ForkAt
  -- the thread was not inherited by a child process
  pub gone : Bool

-- the state that the threads of a process share
pub record SharedState : Type 0 where
  pub globals : List ℕ
  -- the thread id of each mutex's owner, 0 if there is none
  pub owners : List ℕ
  -- the count of each semaphore
  pub counts : List ℕ
  -- the state of each once control (XSH pthread_once)
  pub onces : List OnceState
  -- the keys of thread-specific data, by place
  pub keys : List KeyPlace
  -- the registrations of fork handlers, in their order (XSH pthread_atfork)
  pub fork_handlers : List ForkHandlers
  pub exit_functions : List ℕ
  -- the value with which exit began
  pub exit_value : Option ℕ
  -- the process is the child of one that had several threads: it may execute async-signal-safe operations only (XSH fork)
  pub restricted : Bool

-- the end of a process (XSH _exit)
pub record ProcessEnd : Type 0 where
  pub status : ℕ
  -- the status was collected by waitpid, or the process has no parent that could
  pub reaped : Bool

-- a process (XSH fork)
pub record Process : Type 0 where
  pub pid : ℕ
  -- 0 if the process has no parent
  pub parent : ℕ
  -- its end, if it has ended
  pub ended : Option ProcessEnd
  pub threads : List Thread
  pub shared : SharedState

-- the state of the machine: all processes, ended ones included
pub record World : Type 0 where
  pub processes : List Process
  -- the reason of the stop, if the run was stopped
  pub stop : Option Why

-- the process with this end, if it has ended, was reaped
abbrev pub was_reaped : Option ProcessEnd → Bool
was_reaped None = false
was_reaped (Some end) = end.reaped

-- ---- lookup

-- the process with an id, if one was made
abbrev pub made_process : ℕ → World → Option Process
made_process pid w = find (λ p. nat_eq p.pid pid) w.processes

-- the thread of a process with an id, if one was made
abbrev pub thread_with : ℕ → Process → Option Thread
thread_with tid p = find (λ t. nat_eq t.id tid) p.threads

-- thread tid of process pid, if it was made
abbrev pub made_thread : ℕ → ℕ → World → Option Thread
made_thread pid tid w = option_and_then (thread_with tid) (made_process pid w)

-- the body of the function at an index
abbrev pub body_of : Script → ℕ → List Stmt
body_of script func = option_map_or (λ f. f.body) (slice_get script.funcs func) []

-- the statement that a frame executes next
unfoldable pub statement_at : Script → Frame → Option Stmt
statement_at script frame = option_and_then (λ f. slice_get f.body frame.pc) (slice_get script.funcs frame.func)

-- the value of an operand in a frame, with the globals of its process
unfoldable pub value_of : List ℕ → Frame → Operand → ℕ
value_of globals frame (operand.Num n) = n
value_of globals frame (operand.Local i) = slice_index frame.locals i
value_of globals frame (operand.Global i) = slice_index globals i

-- ---- the initial state

-- a new frame of a function, at its first statement: the argument is its first local, all others are 0
abbrev pub new_frame : ℕ → ℕ → FrameKind → Frame
new_frame func arg kind = record { func = func; pc = 0; locals = arg ∷ 0 ∷ 0 ∷ 0 ∷ 0 ∷ 0 ∷ 0 ∷ 0 ∷ []; kind = kind }

-- a new thread: cancelability enabled and deferred (XSH pthread_setcancelstate), no handlers, no thread-specific data
abbrev pub new_thread : ℕ → Bool → Frame → Thread
new_thread id detached frame = record { id = id; detached = detached; joined = false; status = Running; ended = false; frames = frame ∷ []; state = Enable; mode = Deferred; pending = false; handlers = []; reason = reason.None; pass = 0; specific = no_values; kept = None; gone = false }

-- the shared state at the start of a script
abbrev pub new_shared : Script → SharedState
new_shared script = record { globals = replicate (length script.globals) 0; owners = replicate (length script.mutexes) 0; counts = map (λ d. d.count) script.sems; onces = replicate (length script.onces) Fresh; keys = no_keys; fork_handlers = []; exit_functions = []; exit_value = None; restricted = false }

-- process 1, with thread 1 in `main`
abbrev pub first_process : Script → Process
first_process script = record { pid = 1; parent = 0; ended = None; threads = new_thread 1 false (new_frame (main_of (names_of script.funcs)) 0 kind.Main) ∷ []; shared = new_shared script }

-- the initial state of a script
unfoldable pub opening : Script → World
opening script = record { processes = first_process script ∷ []; stop = None }
