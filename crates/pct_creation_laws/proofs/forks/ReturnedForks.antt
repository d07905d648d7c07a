-- A thread in fork that makes a step without an event returns from it: a handler that is called, and the fork, have one.
use Rattle.pct_names.proofs.Names.{[], acts_on_request, acts_or, Alt, calls_handler, choices_at, Environment, false, false≢true, ForkAt}
use Rattle.pct_names.proofs.Names.{forks_by, goes_on, goes_on_after_handlers, goes_on_forking, HandlerCall, is_empty, is_forking, List}
use Rattle.pct_names.proofs.Names.{moved, nat_eq, next_handler, NextStatement, None, NoStatement, offers, Option, own_after, Phase, refl}
use Rattle.pct_names.proofs.Names.{returns_in_child, returns_in_parent, SharedState, Some, StatementIn, Status, Stmt, suc, Thread, thread_at}
use Rattle.pct_names.proofs.Names.{Transition, transition_at, true, ℕ, ◌∙◌, ◌≡◌}
use Rattle.pct_model.specs.declared.schedule.Alt.TheVariants as alt
use Rattle.pct_model.specs.declared.state.Phase.TheVariants as phase
use Rattle.pct_model.specs.declared.state.Status.TheVariants as status
use Rattle.pct_model.specs.declared.statement.Stmt.TheVariants as statement
use Rattle.pct_laws.specs.ForkLaw.{fork_of}
use Rattle.pct_laws.specs.Kept.{is_at_fork, IsSuspendedAt}
use Rattle.pct_thread_invariants.proofs.lift.ChangedThreads.{either_keeps}
use Rattle.pct_creation_laws.proofs.forks.ForkSteps.{HasNone}

module _ (passes : ℕ) (body : List Stmt) (shared : SharedState) (t : Thread) (environment : Environment) where
  -- the fork of the thread, with a status, after a transition
  abbrev fork_after : Status → Transition → Option ForkAt
  fork_after s o = fork_of (moved o (record t { status = s }))

  -- a transition without an event ends the fork of the thread, which has no values that are kept for a handler
  abbrev Ends : Status → Transition → Type 0
  Ends s o = is_empty o.events ≡ true → HasNone s t.kept → fork_after s o ≡ None

  -- no handler of the phase is left
  after_handlers : (at : Phase) (fork : ForkAt) (new_pid : Option ℕ) (next : NextStatement) → is_at_fork next ≡ true → Ends (status.Forking fork) (goes_on_after_handlers at fork new_pid next)
  unfolding forks_by returns_in_parent returns_in_child own_after thread_at
  after_handlers phase.Prepare fork None next in_call quiet none = absurd (false≢true quiet)
  after_handlers phase.Prepare fork (Some pid) next in_call quiet none = absurd (false≢true quiet)
  after_handlers phase.Parent fork new_pid (StatementIn frame (statement.Fork result child)) in_call quiet none =
      either_keeps (fork_after (status.Forking fork)) (nat_eq fork.answer 0) _ _ (goes_on (suc frame.pc) []) refl refl ∙ none
  after_handlers phase.Parent fork new_pid _ in_call quiet none = absurd (false≢true in_call)
  after_handlers phase.Child fork new_pid (StatementIn frame (statement.Fork result child)) in_call quiet none = none
  after_handlers phase.Child fork new_pid _ in_call quiet none = absurd (false≢true in_call)

  by_handler : (fork : ForkAt) (next : NextStatement) (found : Option HandlerCall) → is_at_fork next ≡ true → Ends (status.Forking fork) (goes_on_forking found fork environment.family.new_pid next)
  unfolding calls_handler
  by_handler fork next (Some call) in_call quiet none = absurd (false≢true quiet)
  by_handler fork next None in_call quiet none = after_handlers fork.phase fork environment.family.new_pid next in_call quiet none

  -- by a choice that is offered
  pub fork_ends : (choice : Alt) (next : NextStatement) (s : Status) → is_forking s ≡ true → IsSuspendedAt next s → offers (choices_at body shared t environment next s) choice ≡ true
      → Ends s (acts_or choice s (transition_at passes body shared t environment choice next s))
  unfolding transition_at acts_on_request choices_at
  fork_ends (alt.Act n) next (status.Forking fork) forks in_call offered quiet none = absurd (false≢true offered)
  fork_ends choice NoStatement (status.Forking fork) forks in_call offered quiet none = absurd (false≢true in_call)
  fork_ends choice (StatementIn frame s) (status.Forking fork) forks in_call offered quiet none =
      by_handler fork (StatementIn frame s) (next_handler shared.fork_handlers fork) in_call quiet none
  fork_ends choice next _ forks in_call offered quiet none = absurd (false≢true forks)
