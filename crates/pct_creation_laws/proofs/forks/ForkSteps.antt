-- What a transition does to the fork of its thread.
use Rattle.pct_names.proofs.Names.{[], acts_on_request, acts_or, Alt, ap, begins_fork, Bool, calls, calls_handler, cond, Dest, Environment}
use Rattle.pct_names.proofs.Names.{false, false≢true, ForkAt, ForkHandlers, Forking, forks_by, Frame, goes_on_after_handlers}
use Rattle.pct_names.proofs.Names.{goes_on_forking, handler_event, HandlerCall, inl, inr, is_forking, is_some, length, List, list_any}
use Rattle.pct_names.proofs.Names.{moved, next_handler, NextStatement, no_change, None, none-some, NoStatement, Option, own_after}
use Rattle.pct_names.proofs.Names.{OwnAction, Parent, Phase, Prepare, refl, Running, runs, SharedState, Some, StatementIn, Status, Stmt}
use Rattle.pct_names.proofs.Names.{stop_at, stops_or, suc, sym, Thread, thread_at, Transition, transition_at, true, value, What}
use Rattle.pct_names.proofs.Names.{while_called, Why, ℕ, ◌∙◌, ◌∷◌, ◌≡◌, ◌≢◌, ◌⊎◌}
use Rattle.pct_model.specs.declared.schedule.Alt.TheVariants as alt
use Rattle.pct_model.specs.declared.state.Phase.TheVariants as phase
use Rattle.pct_model.specs.declared.state.Status.TheVariants as status
use Rattle.pct_model.specs.declared.statement.Stmt.TheVariants as statement
use Rattle.pct_model.specs.declared.transition.OwnAction.TheVariants as own_action
use Rattle.pct_laws.specs.CancelLaw.{acts_or_stops}
use Rattle.pct_laws.specs.ForkLaw.{answer_in, calls_fork, is_handler_call, fork_by, fork_of}
use Rattle.pct_laws.specs.Kept.{is_in_fork_handler}
use Rattle.pct_transition_cases.proofs.TransitionCases.{TransitionCase, fork_begun, fork_failed, fork_handler_called, fork_handler_left}
use Rattle.pct_transition_cases.proofs.TransitionCases.{fork_returned, process_forked, process_not_forked, rests}
use Rattle.pct_thread_invariants.proofs.lift.HandlerEvents.{of_each_phase}

-- ---- the values that are kept for a fork

-- a thread that is in fork has no values that are kept for one of its handlers
abbrev pub HasNone : Status → Option ForkAt → Type 0
HasNone (status.Forking at) kept = kept ≡ None
HasNone _ kept = Unit {0}

pub has_none : (s : Status) (frames : List Frame) (kept : Option ForkAt) → is_some kept ≡ is_in_fork_handler s frames → HasNone s kept
has_none (status.Forking at) frames None is = refl
has_none (status.Forking at) frames (Some fork) is = absurd (false≢true (sym is))
has_none _ frames kept is = tt

-- after the action, if there is one, the thread is in no fork
abbrev pub leaves_fork : Option OwnAction → Bool
leaves_fork (Some (own_action.Leave status)) = true
leaves_fork (Some (own_action.BeginEnd why)) = true
leaves_fork (Some own_action.BeginExit) = true
leaves_fork (Some own_action.EndLast) = true
leaves_fork _ = false

-- ---- by the next handler

-- a thread in fork that makes no change calls a handler, or has none left, and then makes a process or returns
abbrev GoesOn : List ForkHandlers → Status → Transition → Type 0
GoesOn registered (status.Forking at) o =
    (o ≡ no_change) ⊎ (list_any is_handler_call o.events ≡ true)
    ⊎ ((next_handler registered at ≡ None) × (at.phase ≡ phase.Prepare → is_some (answer_in o.events) ≡ true))
GoesOn registered _ o = Unit {0}

module _ (passes : ℕ) (body : List Stmt) (shared : SharedState) (t : Thread) (environment : Environment) where
  -- a thread with no handler left
  none_goes_on : (at : Phase) (fork : ForkAt) (new_pid : Option ℕ) (next : NextStatement) → at ≡ phase.Prepare → is_some (answer_in (goes_on_after_handlers at fork new_pid next).events) ≡ true
  unfolding forks_by
  none_goes_on phase.Prepare fork None next is = refl
  none_goes_on phase.Prepare fork (Some pid) next is = refl
  none_goes_on phase.Parent fork new_pid next is = absurd (cc)
  none_goes_on phase.Child fork new_pid next is = absurd (cc)

  by_handler : (at : ForkAt) (next : NextStatement) (found : Option HandlerCall) → next_handler shared.fork_handlers at ≡ found
      → GoesOn shared.fork_handlers (status.Forking at) (goes_on_forking found at environment.family.new_pid next)
  unfolding calls_handler
  by_handler at next (Some call) is = inr (inl (of_each_phase (λ (w : What). list_any is_handler_call (w ∷ []) ≡ true) call.func refl refl refl at.phase))
  by_handler at next None is = inr (inr (is, none_goes_on at.phase at environment.family.new_pid next))

  pub goes_on_by : (choice : Alt) (next : NextStatement) (s : Status) → GoesOn shared.fork_handlers s (acts_or choice s (transition_at passes body shared t environment choice next s))
  unfolding transition_at acts_on_request
  goes_on_by (alt.Act n) next (status.Forking at) = inl refl
  goes_on_by choice NoStatement (status.Forking at) = by_handler at NoStatement (next_handler shared.fork_handlers at) refl
  goes_on_by choice (StatementIn frame s) (status.Forking at) = by_handler at (StatementIn frame s) (next_handler shared.fork_handlers at) refl
  goes_on_by choice next _ = tt

  -- ---- a call of fork

  -- fork is called, unless the thread acts upon a request or its statement is a stop
  abbrev Begins : NextStatement → Status → Transition → Type 0
  Begins next s o = calls_fork next s ≡ true → acts_or_stops o.events ≡ false → fork_of (moved o (record t { status = s })) ≡ Some (record { phase = phase.Prepare; next = length shared.fork_handlers; length = length shared.fork_handlers; answer = 0 })

  unless_stopped : (frame : Frame) (result child : Dest) (stop : Option Why) → Begins (StatementIn frame (statement.Fork result child)) status.Running (stops_or stop (begins_fork (length shared.fork_handlers)))
  unfolding begins_fork own_after thread_at
  unless_stopped frame result child None calls goes = refl
  unless_stopped frame result child (Some why) calls goes = absurd (false≢true (sym goes))

  pub begins_by : (choice : Alt) (next : NextStatement) (s : Status) → Begins next s (acts_or choice s (transition_at passes body shared t environment choice next s))
  unfolding transition_at acts_on_request runs
  begins_by (alt.Act n) (StatementIn frame (statement.Fork result child)) status.Running calls goes = absurd (false≢true (sym goes))
  begins_by choice (StatementIn frame (statement.Fork result child)) status.Running calls goes =
      unless_stopped frame result child (stop_at body shared t environment frame (statement.Fork result child)) calls goes
  begins_by choice _ _ calls goes = absurd (false≢true calls)

  -- ---- by case

  -- the fork of a thread with a status before and after a step
  pub data ForkStep (next : NextStatement) (s : Status) (events : List What) (before after : Option ForkAt) : Type 0 where
    fork_begins : calls_fork next s ≡ true → is_forking s ≡ false → events ≡ [] → ForkStep next s events before after
    fork_stays : (ends : Bool) → (is_forking s ≡ true → ends ≡ false) → answer_in events ≡ None → list_any is_handler_call events ≡ false → after ≡ cond ends None before
        → ForkStep next s events before after
    handler_called : (at : ForkAt) (call : HandlerCall) → events ≡ handler_event at.phase call.func ∷ [] → before ≡ Some at → after ≡ Some (while_called at call.index)
        → next_handler shared.fork_handlers at ≡ Some call → ForkStep next s events before after
    fork_made : (at : ForkAt) (answer : ℕ) → answer_in events ≡ Some answer → list_any is_handler_call events ≡ false → before ≡ Some at
        → after ≡ Some (record { phase = phase.Parent; next = 0; length = at.length; answer = answer }) → at.phase ≡ phase.Prepare
        → next_handler shared.fork_handlers at ≡ None → ForkStep next s events before after
    fork_returns : (at : ForkAt) → answer_in events ≡ None → list_any is_handler_call events ≡ false → before ≡ Some at → after ≡ None
        → (at.phase ≢ phase.Prepare) → next_handler shared.fork_handlers at ≡ None → ForkStep next s events before after

  -- where a thread in fork has made a change and has called no handler, none is left
  none_if : (at : ForkAt) (o : Transition) → (o ≡ no_change → ⊥) → list_any is_handler_call o.events ≡ false → GoesOn shared.fork_handlers (status.Forking at) o
      → (next_handler shared.fork_handlers at ≡ None) × (at.phase ≡ phase.Prepare → is_some (answer_in o.events) ≡ true)
  none_if at o changes quiet (inl same) = absurd (changes same)
  none_if at o changes quiet (inr (inl call)) = absurd (false≢true (sym quiet ∙ call))
  none_if at o changes quiet (inr (inr left)) = left

  -- a transition that goes on at a pc, or has an event, changes something
  goes_somewhere : (pc : ℕ) (o : Transition) → o.next ≡ Some pc → o ≡ no_change → ⊥
  goes_somewhere pc o goes same = none-some pc (sym (ap (λ (x : Transition). x.next) same) ∙ goes)

  has_event : (o : Transition) → is_some (answer_in o.events) ≡ true → o ≡ no_change → ⊥
  has_event o answers same = false≢true (sym (ap (λ (x : Transition). is_some (answer_in x.events)) same) ∙ answers)

  pub fork_step : {next : NextStatement} {s : Status} {o : Transition} → TransitionCase passes body shared t environment true next s o → HasNone s t.kept → GoesOn shared.fork_handlers s o
      → ForkStep next s o.events (fork_by s t.kept) (fork_of (moved o (record t { status = s })))
  unfolding own_after thread_at
  fork_step (rests next s alive) none goes = fork_stays false (λ forks. refl) refl refl refl
  fork_step (fork_begun frame result child unbegun) none goes = fork_begins refl refl refl
  fork_step (fork_handler_called next at call is) none goes = handler_called at call refl refl refl is
  fork_step (fork_handler_left frame s v at returned is kept) none goes = fork_stays false (λ forks. refl) refl refl (sym kept)
  fork_step {o = o} (process_forked next at new prepares is) none goes = fork_made at new refl refl refl refl prepares (none_if at o (has_event o refl) refl goes).0
  fork_step {o = o} (process_not_forked next at prepares) none goes = fork_made at 0 refl refl refl refl prepares (none_if at o (has_event o refl) refl goes).0
  fork_step {o = o} (fork_failed frame result child at returns) none goes =
      let left = none_if at o (goes_somewhere (suc frame.pc) o refl) refl goes in
      fork_returns at refl refl refl none (λ is. absurd (false≢true (left.1 is))) left.0
  fork_step {o = o} (fork_returned frame result child at value) none goes =
      let left = none_if at o (goes_somewhere (suc frame.pc) o refl) refl goes in
      fork_returns at refl refl refl none (λ is. absurd (false≢true (left.1 is))) left.0
  fork_step {o = o} _ none goes = fork_stays (leaves_fork o.own) (λ forks. absurd (false≢true forks)) refl refl refl
