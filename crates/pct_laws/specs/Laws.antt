-- The laws that every run keeps.
use Rattle.std.specs.Prelude.{◌≡◌, true, List}
use Rattle.pct_model.specs.declared.schedule.Config.{Config}
use Rattle.pct_model.specs.declared.schedule.Entry.{Entry}
use Rattle.pct_model.specs.declared.script.Script.{Script}
use Rattle.pct_laws.specs.AfterEnd as AfterEnd
use Rattle.pct_laws.specs.Calls.{Calls}
use Rattle.pct_laws.specs.CancelLaw.{CancelLaw}
use Rattle.pct_laws.specs.Each.{each}
use Rattle.pct_laws.specs.Once as Once
use Rattle.pct_laws.specs.SlotLaw as SlotLaw
use Rattle.pct_laws.specs.CondLaw as CondLaw
use Rattle.pct_laws.specs.CreationLaw.{CreationLaw}
use Rattle.pct_laws.specs.Ends.{Ends}
use Rattle.pct_laws.specs.FrameLaw.{FrameLaw}
use Rattle.pct_laws.specs.ForkLaw.{ForkLaw}
use Rattle.pct_laws.specs.JoinLaw as JoinLaw
use Rattle.pct_laws.specs.OnceLaw.{OnceLaw}
use Rattle.pct_laws.specs.ProcessLaw as ProcessLaw
use Rattle.pct_laws.specs.RanAll as RanAll
use Rattle.pct_laws.specs.ResultLaw.{ResultLaw}
use Rattle.pct_laws.specs.SharedLaw.{SharedLaw}
use Rattle.pct_laws.specs.StatementLaw.{StatementLaw}
use Rattle.pct_laws.specs.ThreadSteps.{EachHasStep}
use Rattle.pct_laws.specs.ValueLaw.{ValueLaw}
use Rattle.pct_laws.specs.WakeLaw.{WakeLaw}
use Rattle.pct_model.specs.Run.{Run}

-- the laws of the run of a schedule, and of its events, newest first
pub record Laws (script : Script) (config : Config) (entries : List Entry) (r : Run) : Type 0 where
  -- each entry of the schedule makes a step, so the laws of steps below speak of each of them
  pub steps : EachHasStep script config entries
  -- no cleanup handler is removed twice, the newest is removed first, a thread ends once, with none left, and after its handlers no
  -- key has two events of its destructor in a pass
  pub once : each (Once.allows config.passes) r.events ≡ true
  -- as a thread ends, the handlers that ran in it are all those that were open as it began to end, the newest first; after_end says that
  -- none runs later
  pub ran_all : each RanAll.allows r.events ≡ true
  -- a thread that has ended, or exits its process, neither removes a handler nor calls a destructor nor ends again; after its end it
  -- only exits its process, as the last thread
  pub after_end : each AfterEnd.allows r.events ≡ true
  -- destructors get the value of their key, which is not NULL; a key is made and deleted by the calls that the events report, and exit
  -- functions are called the newest first
  pub calls : Calls script config entries r.events
  -- the stages of an end follow each other, and keys with values are left only after the last pass
  pub ends : Ends script config entries r.events
  -- a thread is canceled only by a request, with cancelability enabled, at a cancellation point or with the asynchronous type; and with
  -- a request to act upon it acts at each function that it calls and that shall be a cancellation point; its state and type are those that
  -- it sets, until it begins to end
  pub cancels : CancelLaw script config entries r
  -- a running thread makes the events of its next statement, with the values of the operands, unless it acts upon a request or its
  -- statement is a stop; a call suspends it for what the operands name, and it leaves the call with an event that names the same
  pub statements : StatementLaw script config entries
  -- a call that has a result stores it in the variable that its statement names, as do `set` and `add`; each other global keeps its
  -- value, and so does each other local of a function that goes on
  pub results : ResultLaw script config entries
  -- pthread_setspecific gives its thread the value of the operand; a new thread has NULL for each key, and each thread for a new key; and
  -- a step changes no other value of another thread, and no thread of another process
  pub values : ValueLaw script config entries
  -- a function is called by `do` or pthread_once or as an event reports, at its first statement, on top of its callers, executes its
  -- statements in turn, and goes by a return of its own, or with all others as its thread begins to end or to exit its process. From the
  -- call of a handler as it ends to the next one, a thread is in the handler, unless that has returned or exited the process
  pub frames : FrameLaw script config entries
  -- pthread_create makes one thread, which executes its start routine, and fork one process, with a copy of the state of its parent and the
  -- replica of the thread that called fork; no other step makes a thread or a process
  pub created : CreationLaw script config entries
  -- fork calls the fork handlers that were registered at its call, in their order; it makes a process, and returns, with none left to call; and
  -- it keeps its answer until then
  pub forks : ForkLaw script config entries
  -- each join that returns gets the value of a thread that has ended, no thread is joined twice or while it is detached, and no
  -- request or detach names a thread outside the lifetime of its id
  pub joins : each JoinLaw.allows r.events ≡ true
  -- a mutex is acquired while no thread owns it, and released by its owner; a condition wait ends with its mutex owned again, also if a
  -- request ends it; and a signal is handed on only as a thread leaves its wait by a request
  pub conds : each CondLaw.allows r.events ≡ true
  -- pthread_once calls the init routine of a control only while no call of it is in progress and none has returned, the routine returns
  -- in the thread that called it, and a call that does not call it returns after one return of it
  pub controls : OnceLaw script config entries r.events
  -- a signal unblocks one of the threads that wait and a broadcast all, each with the mutex of its wait; no other thread is unblocked, and
  -- a step changes nothing of another thread but what its events say; a signal is not lost as its thread acts upon a request
  pub wakes : WakeLaw script config entries
  -- owners, counts and once controls change by the events that say so, a semaphore is taken only where its count is above 0, and the time
  -- of a wait for one expires only where it is 0; atexit and pthread_atfork register what they name, unless they fail, and nothing else is
  -- registered
  pub shared : SharedLaw script config entries
  -- a new thread gets an id that no known thread of its process has had, and each known thread on its slot has ended and was joined or is
  -- detached
  pub creations : each (SlotLaw.allows config.slots) r.events ≡ true
  -- a process makes no event after its end and is made by one fork; exit begins at most once, and sets the status if its thread ends
  -- the process; and waitpid gives the status once
  pub processes : each ProcessLaw.allows r.events ≡ true
