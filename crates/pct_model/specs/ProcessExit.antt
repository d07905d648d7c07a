-- Returns from functions, and the end of a process (XSH exit, _exit, atexit, pthread_create). `next` is the pc of the next statement.
use Rattle.std.specs.Prelude.{ℕ, ◌%◌, Bool, true, false, ◌&&◌, List, [], ◌∷◌, length, nat_lt, Option, Some, None, is_none}
use Rattle.pct_model.specs.declared.event.Caller.TheVariants as caller
use Rattle.pct_model.specs.declared.event.What.TheVariants.{Answer, ExitBegun, ExitRun, ProcessEnded}
use Rattle.pct_model.specs.declared.limits.TheConstants.{MAX_EXIT_FUNCTIONS}
use Rattle.pct_model.specs.declared.state.ForkAt.{ForkAt}
use Rattle.pct_model.specs.declared.state.FrameKind.{FrameKind}
use Rattle.pct_model.specs.declared.state.FrameKind.TheVariants as kind
use Rattle.pct_model.specs.declared.state.Status.TheVariants.{Running, Ending, Exiting}
use Rattle.pct_model.specs.declared.statement.Dest.{Dest}
use Rattle.pct_model.specs.declared.transition.OwnAction.TheVariants as own_action
use Rattle.pct_model.specs.declared.transition.ProcessAction.TheVariants as process_action
use Rattle.pct_model.specs.declared.transition.SharedAction.TheVariants as shared_action
use Rattle.pct_model.specs.declared.transition.Transition.{Transition}
use Rattle.pct_model.specs.ForkCalls.{leaves_handler}
use Rattle.pct_model.specs.OnceCalls.{leaves_routine}
use Rattle.pct_model.specs.Transitions.{goes_on, acts, no_change}
use Rattle.pct_model.specs.ThreadEnds.{ends_by_exit}
use Rattle.pct_model.specs.World.{SharedState}

-- a thread begins to exit its process, as if it called exit (XSH exit)
unfoldable pub exits : ℕ → Transition
exits v = record (acts (ExitBegun v ∷ [])) { own = Some own_action.BeginExit; shared = Some (shared_action.BeginExit v) }

-- `return` of a value, by the kind of the top frame: a return from `main` in the initial thread acts as exit, one from the start
-- routine of another thread as pthread_exit (XSH pthread_create). After a fork handler the fork goes on, by the values that the thread
-- kept
unfoldable pub returns_by : Option ForkAt → FrameKind → ℕ → Transition
returns_by kept kind.Main v = exits v
returns_by kept kind.Start v = ends_by_exit v
returns_by kept kind.Call v = record (acts []) { own = Some (own_action.Leave Running) }
returns_by kept kind.PopHandler v = record (acts []) { own = Some (own_action.Leave Running) }
returns_by kept kind.Handler v = record (acts []) { own = Some (own_action.Leave Ending) }
returns_by kept kind.Destructor v = record (acts []) { own = Some (own_action.Leave Ending) }
returns_by kept kind.ExitFn v = record (acts []) { own = Some (own_action.Leave Exiting) }
returns_by kept kind.ForkFn v = leaves_handler kept
returns_by kept (kind.OnceFn o) v = leaves_routine o

-- the process ends with a status of 8 bits, and its threads do nothing more: no cleanup handler and no destructor runs (XSH _exit)
unfoldable pub ends_now : ℕ → Transition
ends_now v = record (acts (ProcessEnded (v % 256) ∷ [])) { process = Some (process_action.End (v % 256)) }

-- a thread that exits its process calls the functions registered with atexit, the newest first, each with 0 and as often as it was
-- registered; then the process ends with the value of exit (XSH exit)
unfoldable pub goes_on_exiting : List ℕ → Option ℕ → Transition
goes_on_exiting (f ∷ functions) value = record (acts (ExitRun f ∷ [])) { own = Some (own_action.RunExitFunction f); shared = Some shared_action.TakeExit }
goes_on_exiting [] (Some v) = ends_now v
goes_on_exiting [] None = no_change

-- a function can be registered: fewer than the limit are, and exit has not begun. XSH exit provides for functions that are registered
-- while it calls others: that atexit fails then is a choice of this host
abbrev pub may_register : SharedState → Bool
may_register shared = nat_lt (length shared.exit_functions) MAX_EXIT_FUNCTIONS && is_none shared.exit_value

-- atexit of a function, if it can be registered: the result is 0, or 1
unfoldable pub registers_if : Bool → ℕ → Dest → ℕ → Transition
registers_if true next result f = record (goes_on next []) { writes = (result, 0) ∷ []; shared = Some (shared_action.AddExit f) }
registers_if false next result f = record (goes_on next (Answer caller.AtExit 1 ∷ [])) { writes = (result, 1) ∷ [] }
