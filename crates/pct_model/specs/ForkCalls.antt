-- Processes: pthread_atfork, fork and waitpid (XSH pthread_atfork, fork, waitpid). `next` is the pc of the next statement.
use Rattle.std.specs.Prelude.{ℕ, suc, ◌-◌, Bool, true, false, if◌then◌else◌, List, [], ◌∷◌, reverse, flat_map, slice_get, Option, Some, None, option_map, option_and_then, option_to_list, nat_eq, nat_lt}
use Rattle.std.specs.List.{range_with_len}
use Rattle.pct_model.specs.declared.event.Caller.TheVariants as caller
use Rattle.pct_model.specs.declared.event.What.{What}
use Rattle.pct_model.specs.declared.event.What.TheVariants as what
use Rattle.pct_model.specs.declared.limits.TheConstants.{MAX_FORK_HANDLERS}
use Rattle.pct_model.specs.declared.numbers.TheConstants.{EAGAIN, ECHILD, ENOMEM}
use Rattle.pct_model.specs.declared.point.TheConstants.{WAITPID_POINT}
use Rattle.pct_model.specs.declared.process.Child.{Child}
use Rattle.pct_model.specs.declared.process.ForkHandlers.{ForkHandlers}
use Rattle.pct_model.specs.declared.process.HandlerCall.{HandlerCall}
use Rattle.pct_model.specs.declared.state.ForkAt.{ForkAt}
use Rattle.pct_model.specs.declared.state.FrameKind.TheVariants as kind
use Rattle.pct_model.specs.declared.state.Phase.{Phase}
use Rattle.pct_model.specs.declared.state.Phase.TheVariants.{Prepare, Parent, Child as ChildPhase}
use Rattle.pct_model.specs.declared.state.Status.{Status}
use Rattle.pct_model.specs.declared.state.Status.TheVariants as status
use Rattle.pct_model.specs.declared.statement.Dest.{Dest}
use Rattle.pct_model.specs.declared.statement.Stmt.{Stmt}
use Rattle.pct_model.specs.declared.statement.Stmt.TheVariants as statement
use Rattle.pct_model.specs.declared.transition.OwnAction.TheVariants as own_action
use Rattle.pct_model.specs.declared.transition.ProcessAction.TheVariants as process_action
use Rattle.pct_model.specs.declared.transition.SharedAction.TheVariants as shared_action
use Rattle.pct_model.specs.declared.transition.Transition.{Transition}
use Rattle.pct_model.specs.NextStatement.{NextStatement, StatementIn}
use Rattle.pct_model.specs.Transitions.{goes_on, acts, no_change}

-- ---- statuses

-- the statement is fork
abbrev pub is_fork : Stmt → Bool
is_fork (statement.Fork result child) = true
is_fork _ = false

-- ---- pthread_atfork

-- the phase is that before the fork
abbrev pub is_prepare : Phase → Bool
is_prepare Prepare = true
is_prepare _ = false

-- the handler of a phase, which may be absent
abbrev pub handler_for : Phase → ForkHandlers → Option ℕ
handler_for Prepare handlers = handlers.prepare
handler_for Parent handlers = handlers.parent
handler_for ChildPhase handlers = handlers.child

-- the handler of a phase in the registration with an index
abbrev pub handler_at : Phase → List ForkHandlers → ℕ → Option ℕ
handler_at phase registered index = option_and_then (handler_for phase) (slice_get registered index)

-- the handlers of a phase in the registrations with these indexes, in this order
abbrev pub handlers_among : Phase → List ForkHandlers → List ℕ → List HandlerCall
handlers_among phase registered indexes = flat_map (λ i. option_to_list (option_map (λ f. record { index = i; func = f }) (handler_at phase registered i))) indexes

-- the indexes of the registrations whose handlers a thread in fork has still to call, in the order of the calls: before the fork the
-- reverse of the order of registration, and after it the order of registration (XSH pthread_atfork)
abbrev pub indexes_left : ForkAt → List ℕ
indexes_left at = if is_prepare at.phase then reverse (range_with_len 0 at.next) else range_with_len at.next (at.length - at.next)

-- the handler that a thread in fork calls next, if one is left
unfoldable pub next_handler : List ForkHandlers → ForkAt → Option HandlerCall
next_handler registered at = slice_get (handlers_among at.phase registered (indexes_left at)) 0

-- the values of a fork while the handler of the registration with an index runs
abbrev pub while_called : ForkAt → ℕ → ForkAt
while_called at index = record at { next = if is_prepare at.phase then index else suc index }

-- the event of the call of a handler
abbrev pub handler_event : Phase → ℕ → What
handler_event Prepare f = what.PrepareRun f
handler_event Parent f = what.ParentRun f
handler_event ChildPhase f = what.ChildRun f

-- a thread in fork calls a handler
unfoldable pub calls_handler : ForkAt → HandlerCall → Transition
calls_handler at call = record (acts (handler_event at.phase call.func ∷ [])) { own = Some (own_action.CallForkHandler (while_called at call.index) call.func) }

-- pthread_atfork, where this many registrations were made: the result is 0, or ENOMEM past the limit of this host
unfoldable pub registers_fork : ℕ → ℕ → Dest → ForkHandlers → Transition
registers_fork count next result handlers =
    if nat_lt count MAX_FORK_HANDLERS then record (goes_on next []) { writes = (result, 0) ∷ []; shared = Some (shared_action.AddForkHandlers handlers) }
    else record (goes_on next (what.Answer caller.AtFork ENOMEM ∷ [])) { writes = (result, ENOMEM) ∷ [] }

-- ---- fork

-- fork is called, in a process with this many registrations. That these are the ones that it uses, and that a fork is at least three
-- transitions, its call, the fork and its return, are choices of this host
unfoldable pub begins_fork : ℕ → Transition
begins_fork count = record (acts []) { own = Some (own_action.SetStatus (status.Forking (record { phase = Prepare; next = count; length = count; answer = 0 }))) }

-- a child process is made, with this id; without an id there is none, and fork fails with EAGAIN. That the parent handlers are called
-- then, too, is a choice of this host
unfoldable pub forks_by : ℕ → Option ℕ → Transition
forks_by length (Some pid) = record (acts (what.Forked pid ∷ [])) { own = Some (own_action.SetStatus (status.Forking (record { phase = Parent; next = 0; length = length; answer = pid }))); process = Some (process_action.Make pid) }
forks_by length None = record (acts (what.Answer caller.Fork EAGAIN ∷ [])) { own = Some (own_action.SetStatus (status.Forking (record { phase = Parent; next = 0; length = length; answer = 0 }))) }

-- fork returns in the process that called it: the result is 0, and the id of the child is written. If no child was made, the result is
-- EAGAIN, and no id is written
unfoldable pub returns_in_parent : ℕ → ℕ → Dest → Dest → Transition
returns_in_parent pid next result child = if nat_eq pid 0 then record (goes_on next []) { writes = (result, EAGAIN) ∷ [] } else record (goes_on next []) { writes = (result, 0) ∷ (child, pid) ∷ [] }

-- fork returns in the child: the result is 0, and so is the id that is written
unfoldable pub returns_in_child : ℕ → Dest → Dest → Transition
returns_in_child next result child = record (goes_on next []) { writes = (result, 0) ∷ (child, 0) ∷ [] }

-- a thread in fork goes on where no handler of the phase is left, by the phase; a new process gets this id
abbrev pub goes_on_after_handlers : Phase → ForkAt → Option ℕ → NextStatement → Transition
goes_on_after_handlers Prepare at new_pid next = forks_by at.length new_pid
goes_on_after_handlers Parent at new_pid (StatementIn frame (statement.Fork result child)) = returns_in_parent at.answer (suc frame.pc) result child
goes_on_after_handlers ChildPhase at new_pid (StatementIn frame (statement.Fork result child)) = returns_in_child (suc frame.pc) result child
goes_on_after_handlers phase at new_pid next = no_change

-- a thread in fork goes on: it calls the next handler, if one is left
abbrev pub goes_on_forking : Option HandlerCall → ForkAt → Option ℕ → NextStatement → Transition
goes_on_forking (Some call) at new_pid next = calls_handler at call
goes_on_forking None at new_pid next = goes_on_after_handlers at.phase at new_pid next

-- a thread returns from a fork handler, with the values of its fork that it kept
unfoldable pub leaves_handler : Option ForkAt → Transition
leaves_handler (Some at) = record (acts []) { own = Some (own_action.Leave (status.Forking at)) }
leaves_handler None = no_change

-- ---- waitpid

-- the index of waitpid in the table of cancellation points
abbrev pub waitpid_point : ℕ
waitpid_point = WAITPID_POINT

-- waitpid fails with ECHILD: there is no such child that is not reaped
unfoldable pub finds_no_child : ℕ → Dest → Transition
finds_no_child next result = record (goes_on next (what.Answer caller.WaitPid ECHILD ∷ [])) { writes = (result, ECHILD) ∷ [] }

-- waitpid for the process with an id, which is this child or none: the thread is suspended until the child has ended. That this is two
-- transitions also for a child that has ended is a choice of this host
abbrev pub begins_waitpid : Option Child → ℕ → ℕ → Dest → Transition
begins_waitpid (Some child) pid next result = record (acts (what.Called waitpid_point ∷ [])) { own = Some (own_action.SetStatus (status.InWaitPid pid)) }
begins_waitpid None pid next result = finds_no_child next result

-- the thread returns from waitpid with the status of a child, which is reaped
unfoldable pub reaps : (status pid next : ℕ) → Dest → Dest → Transition
reaps status pid next result value = record (goes_on next (what.Reaped pid status ∷ [])) { writes = (result, 0) ∷ (value, status) ∷ []; process = Some (process_action.Reap pid) }

-- so it does once the child has ended with a status
abbrev pub reaps_if : Option ℕ → ℕ → ℕ → Dest → Dest → Transition
reaps_if (Some status) pid next result value = reaps status pid next result value
reaps_if None pid next result value = no_change

-- a thread in waitpid for the process with an id, which is this child or none, goes on: there is none if another thread has reaped it
abbrev pub waits_at : Option Child → ℕ → NextStatement → Transition
waits_at (Some child) pid (StatementIn frame (statement.WaitPid result operand value)) = reaps_if child.ended pid (suc frame.pc) result value
waits_at None pid (StatementIn frame (statement.WaitPid result operand value)) = finds_no_child (suc frame.pc) result
waits_at child pid next = no_change
