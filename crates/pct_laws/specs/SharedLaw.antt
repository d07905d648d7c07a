-- The law of what the threads of a process share, but for the globals (ResultLaw.antt) and the keys (Calls.antt): the owner of a mutex, the
-- count of a semaphore and the state of a once control change by the events that say so alone (XSH pthread_mutex_lock,
-- pthread_mutex_unlock, pthread_cond_wait, sem_wait, sem_post, pthread_once), a semaphore is taken only where its count is above 0 (XSH
-- sem_wait), and the time of a wait for one expires only where its count is 0 (XSH sem_timedwait); atexit and pthread_atfork register what
-- they name, unless they fail, and no other step registers anything; exit begins by its event alone, and takes the newest exit function
-- away as it calls it (XSH atexit, pthread_atfork, exit).
use Rattle.std.specs.Prelude.{◌≡◌, ℕ, suc, ◌-◌, ◌%◌, Bool, true, nat_eq, nat_lt, List, [], ◌∷◌, ◌++◌, map, slice_index, slice_set}
use Rattle.std.specs.List.{list_all}
use Rattle.pct_model.specs.declared.event.Caller.TheVariants as caller
use Rattle.pct_model.specs.declared.event.What.{What}
use Rattle.pct_model.specs.declared.event.What.TheVariants as what
use Rattle.pct_model.specs.declared.process.ForkHandlers.{ForkHandlers}
use Rattle.pct_model.specs.declared.schedule.Config.{Config}
use Rattle.pct_model.specs.declared.schedule.Entry.{Entry}
use Rattle.pct_model.specs.declared.script.Script.{Script}
use Rattle.pct_model.specs.declared.state.OnceState.{OnceState}
use Rattle.pct_model.specs.declared.state.OnceState.TheVariants.{Busy, Done}
use Rattle.pct_model.specs.declared.state.Status.{Status}
use Rattle.pct_model.specs.declared.state.Status.TheVariants as status
use Rattle.pct_model.specs.declared.statement.Stmt.TheVariants as statement
use Rattle.pct_model.specs.NextStatement.{NextStatement, StatementIn, next_of}
use Rattle.pct_model.specs.World.{SharedState}
use Rattle.pct_laws.specs.AfterAll.{after_all}
use Rattle.pct_laws.specs.OnceControls.{given_up}
use Rattle.pct_laws.specs.ProcessEnds.{exit_after}
use Rattle.pct_laws.specs.ThreadSteps.{ThreadStep, EachStep}

-- ---- what an event changes

-- the owners of mutexes after an event of thread tid; 0 is none
abbrev pub owners_after : ℕ → What → List ℕ → List ℕ
owners_after tid (what.Acquired m) owners = slice_set owners m tid
owners_after tid (what.Released m) owners = slice_set owners m 0
owners_after tid _ owners = owners

-- the counts of semaphores. That a count of 2^32 - 1 is followed by 0 is a choice of this host
abbrev pub counts_after : What → List ℕ → List ℕ
counts_after (what.Taken sem) counts = slice_set counts sem (slice_index counts sem - 1)
counts_after (what.Posted sem) counts = slice_set counts sem (suc (slice_index counts sem) % 4294967296)
counts_after _ counts = counts

-- the once controls after an event of thread tid
abbrev pub onces_after : ℕ → What → List OnceState → List OnceState
onces_after tid (what.OnceCalled o) onces = slice_set onces o (Busy tid)
onces_after tid (what.OnceDone o) onces = slice_set onces o Done
onces_after tid (what.EndingExit v) onces = map (given_up tid) onces
onces_after tid what.EndingCanceled onces = map (given_up tid) onces
onces_after tid (what.EndingInWait c m) onces = map (given_up tid) onces
onces_after tid _ onces = onces

-- the functions that were registered with atexit, newest first: the newest is taken away as it is called
abbrev pub exits_after : What → List ℕ → List ℕ
exits_after (what.ExitRun f) (newest ∷ older) = older
exits_after _ functions = functions

-- ---- what a step registers

-- the function that a thread with this status and this next statement registers with atexit, in a step with these events: a call that fails
-- has an event
abbrev pub new_exits : List What → Status → NextStatement → List ℕ
new_exits [] status.Running (StatementIn frame (statement.AtExit result f)) = f ∷ []
new_exits events s next = []

-- the fork handlers that it registers with pthread_atfork
abbrev pub new_fork_handlers : List What → Status → NextStatement → List ForkHandlers
new_fork_handlers [] status.Running (StatementIn frame (statement.AtFork result prepare parent child)) = record { prepare = prepare; parent = parent; child = child } ∷ []
new_fork_handlers events s next = []

-- ---- what a step takes

-- sem_wait takes 1 only from a count that is above 0 (XSH sem_wait): no event says that it took from another of these counts
abbrev pub is_above_0 : List ℕ → What → Bool
is_above_0 counts (what.Taken sem) = nat_lt 0 (slice_index counts sem)
is_above_0 counts _ = true

-- so it is of each event of a step, by the counts before it
abbrev pub takes_above_0 : ThreadStep → Bool
takes_above_0 s = list_all (is_above_0 s.process.shared.counts) s.events

-- sem_timedwait does not fail with a time-out if the semaphore can be locked immediately (XSH sem_timedwait): a thread with this status, by
-- the count of the semaphore for which it waits
abbrev pub is_at_0 : List ℕ → Status → What → Bool
is_at_0 counts (status.InSem sem) (what.Answer caller.SemTimedWait n) = nat_eq (slice_index counts sem) 0
is_at_0 counts s event = true

-- so it is of each event of a step, by the counts before it
abbrev pub times_out_at_0 : ThreadStep → Bool
times_out_at_0 s = list_all (is_at_0 s.process.shared.counts s.before.status) s.events

-- ---- the law

-- what a step with these events, of thread tid with this status and this next statement, makes of the state that its process shares
pub record ChangesShared (tid : ℕ) (events : List What) (s : Status) (next : NextStatement) (before after : SharedState) : Type 0 where
  pub owners : after.owners ≡ after_all (owners_after tid) events before.owners
  pub counts : after.counts ≡ after_all counts_after events before.counts
  pub onces : after.onces ≡ after_all (onces_after tid) events before.onces
  -- a new exit function comes first, and new fork handlers last
  pub exit_functions : after.exit_functions ≡ after_all exits_after events (new_exits events s next ++ before.exit_functions)
  pub fork_handlers : after.fork_handlers ≡ before.fork_handlers ++ new_fork_handlers events s next
  pub exit_value : after.exit_value ≡ after_all exit_after events before.exit_value
  -- a process is restricted as it is made, or never
  pub restricted : after.restricted ≡ before.restricted

-- the law of the shared state, of the run of a schedule
pub record SharedLaw (script : Script) (config : Config) (entries : List Entry) : Type 0 where
  pub changes : EachStep script config entries (λ s. ChangesShared s.tid s.events s.before.status (next_of script s.before.frames) s.process.shared s.process_after.shared)
  pub above_0 : EachStep script config entries (λ s. takes_above_0 s ≡ true)
  pub at_0 : EachStep script config entries (λ s. times_out_at_0 s ≡ true)
