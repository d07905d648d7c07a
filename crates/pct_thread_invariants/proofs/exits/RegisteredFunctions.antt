-- After every run, the functions that are registered with atexit and with pthread_atfork in a process are plain functions of the script.
use Rattle.pct_names.proofs.Names.{◌++◌, [], All, All-nil, All-push, AllByRecursion, ap, body_at, changed, child_of, Config, Entry}
use Rattle.pct_names.proofs.Names.{Environment, environment_of, ForkAt, ForkHandlers, get_or_from_slice_get, handler_at, handler_for}
use Rattle.pct_names.proofs.Names.{HandlerCall, handlers_among, indexes_left, List, next_handler, next_of, NextStatement, None, none-some}
use Rattle.pct_names.proofs.Names.{Option, option_and_then_some, option_map, Parent, Phase, Prepare, Process, refl, same_Some, Script}
use Rattle.pct_names.proofs.Names.{shared_after, shared_moved, SharedState, slice_get, slice_get_within, Some, Status, Stmt, subst, sym}
use Rattle.pct_names.proofs.Names.{Thread, Transition, transition_by, true, without_first, World, ℕ, ◌∷◌, ◌≡◌}
use Rattle.std.specs.Prelude.{option_to_list}
use Rattle.pct_model.specs.declared.state.Phase.TheVariants.{Child}
use Rattle.pct_laws.specs.Kept.{IsPlainFunction, IsPlainIfSome, ArePlainHandlers}
use Rattle.pct_transition_cases.proofs.CaseOfTransition.{case_of}
use Rattle.pct_transition_cases.proofs.PlacedStatements.{IsPlaced, is_placed, statement_placed}
use Rattle.pct_transition_cases.proofs.TransitionCases.{TransitionCase, fork_registered, exit_registered, exit_function_called}
use Rattle.pct_thread_invariants.proofs.exits.PlainFunctions.{registered_plain, handlers_plain}
use Rattle.pct_thread_invariants.proofs.lift.ChangedThreads.{changed_shared, other_shared}
use Rattle.pct_thread_invariants.proofs.lift.EveryProcess.{OfEveryProcess, IsProcessRule, unread, every_process_keeps, moves_of_run}
use Rattle.pct_thread_invariants.proofs.lift.TakenSteps.{AfterEveryRun}
use Rattle.pct_thread_invariants.proofs.lift.ThreadsAfter.{Moves}

module _ (script : Script) where
  -- each of these functions is a plain one of the script
  abbrev pub ArePlain : List ℕ → Type 0
  ArePlain functions = AllByRecursion (IsPlainFunction script) functions

  rest_plain : (functions : List ℕ) → ArePlain functions → ArePlain (without_first functions)
  rest_plain [] plain = tt
  rest_plain (f ∷ functions) plain = plain.1

  -- the functions that are registered in a process with this state
  abbrev pub RegistersPlain : SharedState → Type 0
  RegistersPlain shared = record {
    exit_functions : ArePlain shared.exit_functions;
    fork_handlers : All (ArePlainHandlers script) shared.fork_handlers;
  }

  -- the registered functions after a transition
  case_plain : (passes tid : ℕ) (shared : SharedState) (t : Thread) (environment : Environment) {body : List Stmt} {next : NextStatement} {s : Status} {o : Transition} → IsPlaced script t.frames body next → TransitionCase passes body shared t environment true next s o
      → RegistersPlain shared → RegistersPlain (shared_moved tid o shared)
  unfolding shared_after
  case_plain passes tid shared t environment placed (exit_registered frame result f may) plain = record { exit_functions = (registered_plain script frame result f (statement_placed placed), plain.exit_functions); fork_handlers = plain.fork_handlers }
  case_plain passes tid shared t environment placed (exit_function_called next f functions is) plain = record { exit_functions = rest_plain shared.exit_functions plain.exit_functions; fork_handlers = plain.fork_handlers }
  case_plain passes tid shared t environment placed (fork_registered frame result handlers room) plain =
      record { exit_functions = plain.exit_functions; fork_handlers = All-push (ArePlainHandlers script) shared.fork_handlers handlers plain.fork_handlers (handlers_plain script frame result handlers (statement_placed placed)) }
  case_plain passes tid shared t environment placed _ plain = plain

  -- ---- the handlers of a fork

  -- that of a phase, in a registration
  plain_for : (phase : Phase) (handlers : ForkHandlers) (f : ℕ) → ArePlainHandlers script handlers → handler_for phase handlers ≡ Some f → IsPlainFunction script f
  plain_for Prepare handlers f plain is = subst (IsPlainIfSome script) is plain.prepare
  plain_for Parent handlers f plain is = subst (IsPlainIfSome script) is plain.parent
  plain_for Child handlers f plain is = subst (IsPlainIfSome script) is plain.child

  module _ (phase : Phase) (registered : List ForkHandlers) (plain : All (ArePlainHandlers script) registered) where
    -- in the registration with an index
    plain_at : (index f : ℕ) → handler_at phase registered index ≡ Some f → IsPlainFunction script f
    plain_at index f is =
        option_and_then_some (handler_for phase) (slice_get registered index) f is
        (λ handlers at is_handler. plain_for phase handlers f (subst (ArePlainHandlers script) (get_or_from_slice_get registered index handlers handlers at) (plain index handlers (slice_get_within registered index handlers at))) is_handler)

    -- the first one in the registrations with some indexes
    first_among : (indexes : List ℕ) (call : HandlerCall) → slice_get (handlers_among phase registered indexes) 0 ≡ Some call → IsPlainFunction script call.func
    first_among [] call is = absurd (none-some call is)
    first_among (index ∷ indexes) call is = by_handler (handler_at phase registered index) refl (first_among indexes call) is
      where
        by_handler : (handler : Option ℕ) → handler_at phase registered index ≡ handler → (slice_get (handlers_among phase registered indexes) 0 ≡ Some call → IsPlainFunction script call.func)
            → slice_get (option_to_list (option_map (λ (f : ℕ). record { index = index; func = f }) handler) ++ handlers_among phase registered indexes) 0 ≡ Some call → IsPlainFunction script call.func
        by_handler None none later is = later is
        by_handler (Some f) at later first = subst (IsPlainFunction script) (ap (λ (c : HandlerCall). c.func) (same_Some (record { index = index; func = f }) call first)) (plain_at index f at)

  -- the handler that a fork calls next
  pub next_plain : (registered : List ForkHandlers) → All (ArePlainHandlers script) registered → (at : ForkAt) (call : HandlerCall) → next_handler registered at ≡ Some call → IsPlainFunction script call.func
  unfolding next_handler
  next_plain registered plain at call is = first_among at.phase registered plain (indexes_left at) call is

  -- ---- every run

  module _ (config : Config) where
    plain_after : (w : World) (p : Process) (e : Entry) (t : Thread) → Moves script config w p e t → RegistersPlain p.shared → RegistersPlain (changed e.tid (transition_by script config w p t e.alt) p).shared
    plain_after w p e t moves plain =
        let environment : Environment = environment_of config w p t.id in
        subst RegistersPlain (sym (changed_shared e.tid (transition_by script config w p t e.alt) p))
        (case_plain config.passes e.tid p.shared t environment (is_placed script t.frames) (case_of config.passes (body_at script t.frames) p.shared t environment true e.alt (next_of script t.frames) t.status (λ known. moves.offered)) plain)

    plain_rule : IsProcessRule unread (λ p k. RegistersPlain p.shared) script config (Moves script config)
    unfolding child_of
    plain_rule = record {
      initial = record { exit_functions = tt; fork_handlers = All-nil (ArePlainHandlers script) };
      own = λ w p e t k moves plain. plain_after w p e t moves plain;
      born = λ w p e t k new moves fork plain. plain;
      other = λ pid o p k plain. subst RegistersPlain (sym (other_shared pid o p)) plain;
    }

    -- after every run
    pub registered_of_run : AfterEveryRun script config (OfEveryProcess (λ p. RegistersPlain p.shared))
    registered_of_run = every_process_keeps script config (Moves script config) (λ p. RegistersPlain p.shared) plain_rule (moves_of_run script config)
