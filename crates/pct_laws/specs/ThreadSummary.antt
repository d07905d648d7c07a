-- What the events of a run report of a thread: its cleanup handlers, the destructors that it called, and its end. A thread is given by
-- the id of its process and its own. The events are listed newest first, as in the trace of a run.
use Rattle.std.specs.Prelude.{ℕ, suc, Bool, true, false, ◌&&◌, ◌||◌, if◌then◌else◌, List, [], ◌∷◌, Option, Some, None, is_some, nat_eq}
use Rattle.std.specs.Option.{option_map_or}
use Rattle.pct_model.specs.declared.event.Event.{Event}
use Rattle.pct_model.specs.declared.event.What.{What}
use Rattle.pct_model.specs.declared.event.What.TheVariants as what
use Rattle.pct_model.specs.declared.state.Reason.{Reason}
use Rattle.pct_model.specs.declared.state.Reason.TheVariants as reason
use Rattle.pct_model.specs.Actions.{without_first}
use Rattle.pct_laws.specs.KnownThreads.{is_own, is_fork_of, is_joined, is_detached}

-- what the events so far report of a thread
pub record ThreadSummary : Type 0 where
  -- the open handlers: those that were pushed and since then neither popped nor run; function and argument, newest first
  pub handlers : List (ℕ × ℕ)
  -- the reason for its end that its ending event gives, or `None` if it has no ending event
  pub reason : Reason
  -- the handlers that were open at its ending event and have not run: each handler that runs is the newest of them
  pub left : List (ℕ × ℕ)
  -- the value with which it ended, if it has
  pub ended : Option ℕ
  -- it has begun to exit its process
  pub exiting : Bool
  -- the number of passes over destructors that it began, and the destructors that it called: pass and key, newest first
  pub passes : ℕ
  pub destroyed : List (ℕ × ℕ)

-- the summary of a thread without events
abbrev pub no_events : ThreadSummary
no_events = record { handlers = []; reason = reason.None; left = []; ended = None; exiting = false; passes = 0; destroyed = [] }

-- the summary after an ending event
abbrev pub with_ending : Reason → ThreadSummary → ThreadSummary
with_ending why s = record s { reason = why; left = s.handlers }

-- the summary after an event of the thread
abbrev pub with_event : What → ThreadSummary → ThreadSummary
with_event (what.Pushed f a) s = record s { handlers = (f, a) ∷ s.handlers }
with_event (what.Popped f a run) s = record s { handlers = without_first s.handlers }
with_event (what.HandlerRun f a) s = record s { handlers = without_first s.handlers; left = without_first s.left }
with_event (what.EndingExit v) s = with_ending (reason.Exit v) s
with_event what.EndingCanceled s = with_ending reason.Canceled s
with_event (what.EndingInWait c m) s = with_ending reason.Canceled s
with_event (what.EndedWith v) s = record s { ended = Some v }
with_event (what.ExitBegun v) s = record s { exiting = true }
with_event (what.PassBegun n) s = record s { passes = suc s.passes }
with_event (what.DtorRun pass key f v) s = record s { destroyed = (pass, key) ∷ s.destroyed }
with_event _ s = s

-- the summary of thread tid of process pid: an event of its own changes it; a fork of which it is the replica gives it the open
-- handlers of the thread that called fork, and nothing else (as the machine does: Actions.antt); no other event changes it
abbrev pub summary_of : ℕ → ℕ → List Event → ThreadSummary
summary_of pid tid [] = no_events
summary_of pid tid (e ∷ earlier) =
    if is_own pid tid e then with_event e.what (summary_of pid tid earlier)
    else if is_fork_of pid tid e then record (summary_of pid tid earlier) { handlers = (summary_of e.pid tid earlier).handlers }
    else summary_of pid tid earlier

-- ---- the end of a thread

-- thread tid of process pid has ended
abbrev pub thread_ended : ℕ → ℕ → List Event → Bool
thread_ended pid tid events = is_some (summary_of pid tid events).ended

-- it has ended with a value
abbrev pub thread_ended_with : (v pid tid : ℕ) → List Event → Bool
thread_ended_with v pid tid events = option_map_or (λ value. nat_eq value v) (summary_of pid tid events).ended false

-- the lifetime of the id of thread tid of process pid is over: the thread has ended, and was joined or is detached (XSH 2.9.2)
abbrev pub is_reclaimed : ℕ → ℕ → List Event → Bool
is_reclaimed pid tid events = thread_ended pid tid events && (is_joined pid tid events || is_detached pid tid events)
