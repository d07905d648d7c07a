-- A thread that acted upon a request in a condition wait, and does not own its mutex yet, has the request pending and its cancelability
-- enabled.
use Rattle.pct_names.proofs.Names.{◌&&◌, ap, body_at, Bool, Cause, cond, Config, Environment, environment_of, false, false≢true}
use Rattle.pct_names.proofs.Names.{has_left_wait, has_valid_id, in_child, is_deliverable, is_waiting_on, List, moved, named_after}
use Rattle.pct_names.proofs.Names.{NamedAction, next_of, NextStatement, not, Option, own_after, refl, Script, SharedState, Some, State}
use Rattle.pct_names.proofs.Names.{Status, Stmt, sym, Thread, thread_at, Transition, true, unblocked, ℕ, ◌∙◌, ◌≡◌}
use Rattle.pct_model.specs.declared.state.Cause.TheVariants as cause
use Rattle.pct_model.specs.declared.state.Status.TheVariants as status
use Rattle.pct_model.specs.declared.transition.NamedAction.TheVariants as named_action
use Rattle.pct_laws.specs.Kept.{EachThread}
use Rattle.pct_transition_cases.proofs.CaseOfTransition.{case_of}
use Rattle.pct_transition_cases.proofs.OfferedChoices.{deliverable_enabled}
use Rattle.pct_transition_cases.proofs.TransitionCases.{TransitionCase, rests, canceled_in_wait, canceled_after_wait, signal_handed_on}
use Rattle.pct_thread_invariants.proofs.lift.TakenSteps.{AfterEveryRun}
use Rattle.pct_thread_invariants.proofs.lift.ReportedBy.{ThreadReading}
use Rattle.pct_thread_invariants.proofs.lift.EveryThread.{of_made_thread, IsThreadRule, every_thread}

-- no event reports anything
abbrev nothing : ThreadReading (Unit {0})
nothing = record { start = tt; next = λ w k. tt; inherits = false; replica = λ parent k. tt }

-- a thread that left its wait by a request has the request, and may act upon it
abbrev HasRequest : Thread → Type 0
HasRequest t = has_left_wait t.status ≡ true → is_deliverable t.state t.pending ≡ true

-- ---- an action of another thread

-- one of two threads that each have it
either : (named : Bool) (changed t : Thread) → HasRequest changed → HasRequest t → HasRequest (cond named changed t)
either true changed t first second = first
either false changed t first second = second

-- a thread that is unblocked by a signal or a broadcast has not left its wait
not_left : (why : Cause) → has_left_wait (status.Reacquire 0 0 why) ≡ false → (s : Status) → has_left_wait (unblocked why s) ≡ true → has_left_wait s ≡ true
not_left cause.Signalled stays (status.Waiting c m) left = absurd (false≢true left)
not_left cause.Broadcast stays (status.Waiting c m) left = absurd (false≢true left)
not_left cause.TimedOut stays (status.Waiting c m) left = absurd (false≢true left)
not_left cause.Canceled leaves s left = absurd (false≢true (sym leaves))
not_left why stays s left = left

-- a request that is sent again stays pending
sent_again : (state : State) (pending : Bool) → is_deliverable state pending ≡ true → is_deliverable state true ≡ true
sent_again state pending is = ap (λ (s : State). is_deliverable s true) (deliverable_enabled state pending is)

-- an action that names the thread
named_has : (a : Option NamedAction) (t : Thread) → HasRequest t → HasRequest (named_after a t)
unfolding named_after
named_has (Some (named_action.EndJoin id)) t has = either (has_valid_id id t) (record t { joined = true }) t has has
named_has (Some (named_action.Request id)) t has = either (has_valid_id id t && not t.ended) (record t { pending = true }) t (λ left. sent_again t.state t.pending (has left)) has
named_has (Some (named_action.Detach id)) t has = either (has_valid_id id t) (record t { detached = true }) t has has
named_has (Some (named_action.Wake id)) t has = either (has_valid_id id t) (record t { status = unblocked cause.Signalled t.status }) t (λ left. has (not_left cause.Signalled refl t.status left)) has
named_has (Some (named_action.WakeAll c)) t has = either (is_waiting_on c t.status) (record t { status = unblocked cause.Broadcast t.status }) t (λ left. has (not_left cause.Broadcast refl t.status left)) has
named_has _ t has = has

-- ---- its own transition

module _ (passes : ℕ) (body : List Stmt) (shared : SharedState) (t : Thread) (environment : Environment) where
  -- the thread after a transition
  case_has : {next : NextStatement} {s : Status} {o : Transition} → TransitionCase passes body shared t environment true next s o → HasRequest (record t { status = s }) → HasRequest (moved o (record t { status = s }))
  unfolding thread_at own_after
  case_has (rests next s alive) has = has
  case_has (canceled_in_wait next c m asked) has = λ left. asked refl
  case_has (canceled_after_wait next c m why stays asked) has = λ left. asked refl
  case_has (signal_handed_on next c m u asked among) has = λ left. asked refl
  case_has _ has = λ left. absurd (false≢true left)

-- ---- every run

module _ (script : Script) (config : Config) where
  -- each step keeps it
  left_rule : IsThreadRule nothing (λ t k. HasRequest t) script config (λ p. Unit {0})
  left_rule = record {
    initial = λ left. absurd (false≢true left);
    created = λ w p t k choice new known offered has makes left. absurd (false≢true left);
    named = λ a t k has. named_has a t has;
    kept = λ w p t k choice known offered has.
        let environment : Environment = environment_of config w p t.id in
        case_has config.passes (body_at script t.frames) p.shared t environment (case_of config.passes (body_at script t.frames) p.shared t environment true choice (next_of script t.frames) t.status (λ known. offered)) has;
    replica = λ w p t k at known forks has left. absurd (false≢true (sym (ap (λ (s : Status). has_left_wait (in_child s)) forks) ∙ left));
  }

  -- after every run, a thread that left its wait by a request has the request, and may act upon it
  pub left_waits_of_run : AfterEveryRun script config (λ r. EachThread r.world (λ pid tid t. has_left_wait t.status ≡ true → is_deliverable t.state t.pending ≡ true))
  left_waits_of_run entries r is pid tid t made here =
      of_made_thread nothing (λ t k. HasRequest t) r (every_thread nothing (λ t k. HasRequest t) script config (λ p. Unit {0}) left_rule (λ entries r is pid p made. tt) entries r is) pid tid t made here
