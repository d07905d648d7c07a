-- The law of fork handlers: fork calls those that were registered as it was called: before it makes a process the prepare handlers, the
-- newest first, and after that the parent handlers, and in the child the child handlers, the oldest first. It makes a process, or fails to,
-- and returns only with none of them left to call, by a step without an event; a handler that returns leaves the fork as it was (XSH
-- pthread_atfork, fork). The thread keeps the answer of fork, which the event gives by which a process is made or not, until its fork
-- returns. That the parent handlers are called also where no process is made is a choice of this host.
--
-- It leaves open whether a handler returns, and what it does; and where the answer is stored (ResultLaw.antt).
use Rattle.std.specs.Prelude.{◌≡◌, ◌≢◌, ◌⊎◌, ℕ, Bool, true, false, List, [], ◌∷◌, length, take, drop, reverse, filter_map, is_some}
use Rattle.std.specs.Prelude.{Option, Some, None, All}
use Rattle.std.specs.List.{list_any}
use Rattle.pct_model.specs.declared.event.Caller.TheVariants as caller
use Rattle.pct_model.specs.declared.event.What.{What}
use Rattle.pct_model.specs.declared.event.What.TheVariants as what
use Rattle.pct_model.specs.declared.process.ForkHandlers.{ForkHandlers}
use Rattle.pct_model.specs.declared.schedule.Config.{Config}
use Rattle.pct_model.specs.declared.schedule.Entry.{Entry}
use Rattle.pct_model.specs.declared.script.Script.{Script}
use Rattle.pct_model.specs.declared.state.ForkAt.{ForkAt}
use Rattle.pct_model.specs.declared.state.Phase.{Phase}
use Rattle.pct_model.specs.declared.state.Phase.TheVariants as phase
use Rattle.pct_model.specs.declared.state.Status.{Status}
use Rattle.pct_model.specs.declared.state.Status.TheVariants as status
use Rattle.pct_model.specs.declared.statement.Stmt.TheVariants as statement
use Rattle.pct_model.specs.LineParsing.{is_empty}
use Rattle.pct_model.specs.NextStatement.{NextStatement, StatementIn, next_of}
use Rattle.pct_model.specs.StatusKinds.{is_forking}
use Rattle.pct_model.specs.World.{Thread}
use Rattle.pct_laws.specs.CancelLaw.{acts_or_stops}
use Rattle.pct_laws.specs.RanAll.{leaves_all}
use Rattle.pct_laws.specs.ThreadSteps.{ThreadStep, EachStep}

-- ---- the handlers of a fork

-- the fork of a thread with this status and these kept values: the thread is in fork, or in one of its handlers
abbrev pub fork_by : Status → Option ForkAt → Option ForkAt
fork_by (status.Forking at) kept = Some at
fork_by s kept = kept

-- the fork of a thread
abbrev pub fork_of : Thread → Option ForkAt
fork_of t = fork_by t.status t.kept

-- the handlers of a phase that are left to call, in their order: before the fork those of the first registrations, as many as this number,
-- the newest first; after it those from this number on, of as many registrations as there were at the call
abbrev pub left_in : List ForkHandlers → Phase → ℕ → ℕ → List ℕ
left_in registered phase.Prepare next count = filter_map (λ h. h.prepare) (reverse (take next registered))
left_in registered phase.Parent next count = filter_map (λ h. h.parent) (drop next (take count registered))
left_in registered phase.Child next count = filter_map (λ h. h.child) (drop next (take count registered))

-- the handlers that a fork has left to call
abbrev pub left_to_call : List ForkHandlers → ForkAt → List ℕ
left_to_call registered fork = left_in registered fork.phase fork.next fork.length

-- a fork as it is called, with this number of registrations: each prepare handler is left
abbrev pub begun_with : ℕ → ForkAt
begun_with count = record { phase = phase.Prepare; next = count; length = count; answer = 0 }

-- ---- the law of a step

-- the answer that fork gets in a step with these events: the id of the child, or 0 if none could be made
abbrev pub answer_in : List What → Option ℕ
answer_in (what.Forked pid ∷ []) = Some pid
answer_in (what.Answer caller.Fork n ∷ []) = Some 0
answer_in _ = None

-- a running thread calls fork
abbrev pub calls_fork : NextStatement → Status → Bool
calls_fork (StatementIn frame (statement.Fork result child)) status.Running = true
calls_fork next _ = false

-- the thread is in a phase of a fork, and the handler that it calls is the first that is left: the others are left then
pub record CallsHandler (at : Phase) (f : ℕ) (s : ThreadStep) : Type 0 where
  pub fork : ForkAt
  pub next : ℕ
  pub before : fork_of s.before ≡ Some fork
  pub in_phase : fork.phase ≡ at
  -- the phase, the registrations and the answer stay
  pub after : fork_of s.after ≡ Some (record fork { next = next })
  pub first : left_to_call s.process.shared.fork_handlers fork ≡ f ∷ left_to_call s.process.shared.fork_handlers (record fork { next = next })

-- at the event of a call of a fork handler
abbrev pub EachHandler : What → ThreadStep → Type 0
EachHandler (what.PrepareRun f) s = CallsHandler phase.Prepare f s
EachHandler (what.ParentRun f) s = CallsHandler phase.Parent f s
EachHandler (what.ChildRun f) s = CallsHandler phase.Child f s
EachHandler _ s = Unit {0}

-- the event is that a fork handler is called
abbrev pub is_handler_call : What → Bool
is_handler_call (what.PrepareRun f) = true
is_handler_call (what.ParentRun f) = true
is_handler_call (what.ChildRun f) = true
is_handler_call _ = false

-- a process is made, or cannot be made, which is the answer: no prepare handler is left, and the parent handlers of the same registrations are
-- next
pub record ForksWithNoneLeft (answer : ℕ) (s : ThreadStep) : Type 0 where
  pub fork : ForkAt
  pub before : fork_of s.before ≡ Some fork
  pub prepared : fork.phase ≡ phase.Prepare
  pub none_left : left_to_call s.process.shared.fork_handlers fork ≡ []
  pub after : fork_of s.after ≡ Some (record { phase = phase.Parent; next = 0; length = fork.length; answer = answer })

-- what a step does to the fork of its thread
pub record KeepsFork (script : Script) (s : ThreadStep) : Type 0 where
  -- fork is called, unless the thread acts upon a request or the call is a stop
  pub begun : calls_fork (next_of script s.before.frames) s.before.status ≡ true → acts_or_stops s.events ≡ false
      → fork_of s.after ≡ Some (begun_with (length s.process.shared.fork_handlers))
  pub called : All (λ w. EachHandler w s) s.events
  pub made : (answer : ℕ) → answer_in s.events ≡ Some answer → ForksWithNoneLeft answer s
  -- a thread in fork returns from it after it got its answer, and with none left
  pub returned : (fork : ForkAt) → is_forking s.before.status ≡ true → fork_of s.before ≡ Some fork → fork_of s.after ≡ None
      → (left_to_call s.process.shared.fork_handlers fork ≡ []) × (fork.phase ≢ phase.Prepare)
  -- a step of it without an event is this return, so each fork returns once
  pub ends : is_forking s.before.status ≡ true → is_empty s.events ≡ true → fork_of s.after ≡ None
  -- a thread that is not in fork, and does not call it, keeps its fork, unless it begins to end or to exit its process: so a handler that
  -- returns leaves the fork as it was at its call
  pub resumed : is_forking s.before.status ≡ false → calls_fork (next_of script s.before.frames) s.before.status ≡ false
      → list_any leaves_all s.events ≡ false → fork_of s.after ≡ fork_of s.before
  -- any other step keeps the fork, or ends it
  pub kept : calls_fork (next_of script s.before.frames) s.before.status ≡ false → is_some (answer_in s.events) ≡ false
      → list_any is_handler_call s.events ≡ false → (fork_of s.after ≡ fork_of s.before) ⊎ (fork_of s.after ≡ None)

-- the law of fork handlers, of the run of a schedule
abbrev pub ForkLaw : Script → Config → List Entry → Type 0
ForkLaw script config entries = EachStep script config entries (KeepsFork script)
