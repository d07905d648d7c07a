-- A transition of a thread, and the condition wait of the thread: its events follow in the wait, and the wait is unfinished after it exactly
-- if the thread is in it then.
use Rattle.pct_names.proofs.Names.{◌&&◌, [], acts, Alt, and_from, and_parts, ap, ap₂, body_at, Bool, Cause, choices_of, cond}
use Rattle.pct_names.proofs.Names.{cond_timedwait_point, Config, Environment, environment_of, false, false≢true, Frame, has_left_wait}
use Rattle.pct_names.proofs.Names.{has_valid_id, is_timed_wait, is_waiting_on, List, moved, named_after, NamedAction, nat_eq, next_of}
use Rattle.pct_names.proofs.Names.{NextStatement, not, offers, Option, own_after, Process, refl, reverse, Script, SharedState, Some, Status}
use Rattle.pct_names.proofs.Names.{Stmt, subst, subst₂, sym, Thread, thread_at, Transition, transition_by, true, unblocked, What}
use Rattle.pct_names.proofs.Names.{while_called, World, ◌||◌, ℕ, ◌∙◌, ◌∷◌, ◌≡◌}
use Rattle.std.specs.Bool.{beq}
use Rattle.std.proofs.Common.{eq-eqb, eqb-true}
use Rattle.pct_model.specs.declared.event.What.TheVariants as what
use Rattle.pct_model.specs.declared.state.Cause.TheVariants as cause
use Rattle.pct_model.specs.declared.state.Status.TheVariants as status
use Rattle.pct_model.specs.declared.transition.NamedAction.TheVariants as named_action
use Rattle.pct_model.specs.declared.transition.OwnAction.TheVariants as own_action
use Rattle.pct_laws.specs.Kept.{WaitKept, is_leaving}
use Rattle.pct_laws.specs.declared.stage.WaitStage.{WaitStage}
use Rattle.pct_laws.specs.declared.stage.WaitStage.TheVariants.{NoWait, AtCall, InWait, Expired, Leaving, Left}
use Rattle.pct_laws.specs.WaitStages.{stage_after, wait_stage, may_follow_stage}
use Rattle.pct_transition_cases.proofs.CaseOfTransition.{case_of}
use Rattle.pct_transition_cases.proofs.PlacedStatements.{IsPlaced, is_placed, statement_placed, next_placed, timed_placed}
use Rattle.pct_transition_cases.proofs.TransitionCases.{TransitionCase, is_wake_up, rests, point_begun, wait_begun, timed_wait_begun}
use Rattle.pct_transition_cases.proofs.TransitionCases.{wait_ended, timed_wait_ended, wait_expired, wait_timed_out, canceled_in_wait}
use Rattle.pct_transition_cases.proofs.TransitionCases.{canceled_after_wait, signal_handed_on, ended_in_wait, fork_handler_called}
use Rattle.pct_thread_invariants.proofs.lift.HandlerEvents.{of_each_phase}
use Rattle.pct_thread_invariants.proofs.lift.EachAllowed.{all_may}
use Rattle.pct_thread_invariants.proofs.lift.ReportedBy.{ThreadReading, after_all, reported_by, of_thread, is_thread_reading}
use Rattle.pct_cancel_laws.proofs.waits.GenericPoints.{is_other_point, is_no_timed_wait}

-- ---- what the events report of a wait

-- the reading of the stage of a wait
abbrev pub stage : ThreadReading WaitStage
stage = record { start = NoWait; next = stage_after; inherits = false; replica = λ parent k. k }

pub stage_reading : (tid pid : ℕ) (events : List _) → wait_stage pid tid events ≡ reported_by (of_thread stage tid) pid events
stage_reading tid = is_thread_reading stage tid (λ pid events. wait_stage pid tid events) (λ pid. refl) (λ pid e earlier. refl)

-- each of some events of a thread, newest first, may follow those before it
abbrev pub all_follow : List What → WaitStage → Bool
all_follow added k = all_may stage (λ w now. may_follow_stage now w) added k

-- the time of the wait of a thread expired only if its next statement is a wait with a time
abbrev pub IsTimed : NextStatement → Status → Type 0
IsTimed next (status.Reacquire c m cause.TimedOut) = is_timed_wait next ≡ true
IsTimed next _ = Unit {0}

-- a thread with this next statement and this status, and the stage of its wait
abbrev pub IsAtStage : NextStatement → Status → WaitStage → Type 0
IsAtStage next s k = WaitKept next s k × IsTimed next s

-- a thread, and the stage of its wait
abbrev pub IsInWait : Script → Thread → WaitStage → Type 0
IsInWait script t k = IsAtStage (next_of script t.frames) t.status k

-- a transition of a thread whose wait is at a stage
pub record KeepsWait (script : Script) (t : Thread) (k : WaitStage) (o : Transition) : Type 0 where
  -- the wait is unfinished after it exactly if the thread is in it then
  pub own : WaitKept (next_of script (moved o t).frames) (moved o t).status (after_all stage (reverse o.events) k)
  -- its events follow in the wait
  pub lawful : all_follow (reverse o.events) k ≡ true

-- ---- stages

-- the wait of a thread that was unblocked by a signal or a broadcast
pub blocked : (next : NextStatement) (c m : ℕ) (why : Cause) (k : WaitStage) → is_wake_up why ≡ true → WaitKept next (status.Reacquire c m why) k → k ≡ InWait (is_timed_wait next) m
blocked next c m cause.Signalled k woken is = is
blocked next c m cause.Broadcast k woken is = is
blocked next c m _ k woken is = absurd (false≢true woken)

same_pair : (c m : ℕ) → nat_eq c c && nat_eq m m ≡ true
same_pair c m = and_from (nat_eq c c) (nat_eq m m) (eq-eqb c c refl) (eq-eqb m m refl)

-- a wait is left by its own thread, whether it has a time or not
leaves_its_own : (timed : Bool) (c m : ℕ) → is_leaving timed c m (Leaving timed c m) ≡ true
leaves_its_own true c m = same_pair c m
leaves_its_own false c m = same_pair c m

-- and so it is after a signal was handed on
left_its_own : (timed : Bool) (c m : ℕ) → is_leaving timed c m (Left timed c m) ≡ true
left_its_own true c m = same_pair c m
left_its_own false c m = same_pair c m

-- a thread that leaves its wait names its condition variable and its mutex
pub same_wait : (has_time timed : Bool) (cond c mutex m : ℕ) → beq has_time timed && nat_eq cond c && nat_eq mutex m ≡ true → (nat_eq cond c ≡ true) × (nat_eq mutex m ≡ true)
same_wait has_time timed cond c mutex m is =
    let parts = and_parts (beq has_time timed && nat_eq cond c) (nat_eq mutex m) is in
    ((and_parts (beq has_time timed) (nat_eq cond c) parts.0).1, parts.1)

-- a wait that is left, and in which a signal may have been handed on, ends as the mutex is owned again
ends_wait : (timed : Bool) (c m : ℕ) (k : WaitStage) → is_leaving timed c m k ≡ true → all_follow (what.EndingInWait c m ∷ what.Acquired m ∷ []) k ≡ true
ends_wait timed c m (Leaving has_time cond mutex) is =
    let parts = same_wait has_time timed cond c mutex m is in
    subst₂ (λ (d n : ℕ). all_follow (what.EndingInWait c m ∷ what.Acquired m ∷ []) (Leaving has_time d n) ≡ true) (sym (eqb-true cond c parts.0)) (sym (eqb-true mutex m parts.1))
    (ap₂ (λ (pair mutex_is : Bool). pair && ((mutex_is || false) && true)) (same_pair c m) (eq-eqb m m refl))
ends_wait timed c m (Left has_time cond mutex) is =
    let parts = same_wait has_time timed cond c mutex m is in
    subst₂ (λ (d n : ℕ). all_follow (what.EndingInWait c m ∷ what.Acquired m ∷ []) (Left has_time d n) ≡ true) (sym (eqb-true cond c parts.0)) (sym (eqb-true mutex m parts.1))
    (ap₂ (λ (pair mutex_is : Bool). pair && (mutex_is && true)) (same_pair c m) (eq-eqb m m refl))
ends_wait timed c m _ is = absurd (false≢true is)

-- and the thread is in no wait then
wait_is_over : (timed : Bool) (c m : ℕ) (k : WaitStage) → is_leaving timed c m k ≡ true → after_all stage (what.EndingInWait c m ∷ what.Acquired m ∷ []) k ≡ NoWait
wait_is_over timed c m (Leaving has_time cond mutex) is = refl
wait_is_over timed c m (Left has_time cond mutex) is = refl
wait_is_over timed c m _ is = absurd (false≢true is)

-- ---- a transition

module _ (script : Script) (passes : ℕ) (shared : SharedState) (t : Thread) (environment : Environment) where
  -- the thread, with a status and frames
  abbrev own : Status → List Frame → Thread
  own s frames = record t { status = s; frames = frames }

  -- a transition where the wait is at a known stage
  at_stage : (u : Thread) (o : Transition) {k : WaitStage} (known : WaitStage) → k ≡ known → KeepsWait script u known o → KeepsWait script u k o
  at_stage u o known is keeps = subst (λ (k : WaitStage). KeepsWait script u k o) (sym is) keeps

  -- the call of a condition wait
  begins : (frames : List Frame) (m : ℕ) (next : NextStatement) → next_of script frames ≡ next → InWait (is_timed_wait next) m ≡ InWait (is_timed_wait (next_of script frames)) m
  begins frames m next is = ap (λ (n : NextStatement). InWait (is_timed_wait n) m) (sym is)

  -- a thread that was unblocked, and returns from its wait, at a statement
  returns : (frames : List Frame) (c m : ℕ) (why : Cause) (next : NextStatement) (k : WaitStage) → is_wake_up why ≡ true → next_of script frames ≡ next → WaitKept (next_of script frames) (status.Reacquire c m why) k → k ≡ InWait (is_timed_wait next) m
  returns frames c m why next k woken next_is is = blocked (next_of script frames) c m why k woken is ∙ ap (λ (n : NextStatement). InWait (is_timed_wait n) m) next_is

  -- one that acts upon a request in its wait
  leaves : (frames : List Frame) (c m : ℕ) (why : Cause) (k : WaitStage) → has_left_wait (status.Reacquire c m why) ≡ false → IsAtStage (next_of script frames) (status.Reacquire c m why) k
      → KeepsWait script (own (status.Reacquire c m why) frames) k (record (acts (what.WaitCanceled c ∷ [])) { own = Some (own_action.SetStatus (status.Reacquire c m cause.Canceled)) })
  unfolding thread_at own_after
  leaves frames c m cause.Signalled k stays is = at_stage (own (status.Reacquire c m cause.Signalled) frames) _ (InWait (is_timed_wait (next_of script frames)) m) is.0 (record { own = leaves_its_own (is_timed_wait (next_of script frames)) c m; lawful = refl })
  leaves frames c m cause.Broadcast k stays is = at_stage (own (status.Reacquire c m cause.Broadcast) frames) _ (InWait (is_timed_wait (next_of script frames)) m) is.0 (record { own = leaves_its_own (is_timed_wait (next_of script frames)) c m; lawful = refl })
  leaves frames c m cause.TimedOut k stays is =
      at_stage (own (status.Reacquire c m cause.TimedOut) frames) _ (Expired c m) is.0
      (record { own = ap (λ (timed : Bool). is_leaving timed c m (Left true c m)) is.1 ∙ left_its_own true c m; lawful = ap (λ (same : Bool). same && true) (eq-eqb c c refl) })
  leaves frames c m cause.Canceled k stays is = absurd (false≢true (sym stays))

  case_keeps : {frames : List Frame} {body : List Stmt} {next : NextStatement} {s : Status} {o : Transition} (k : WaitStage) → IsPlaced script frames body next
      → TransitionCase passes body shared t environment true next s o → IsAtStage (next_of script frames) s k → KeepsWait script (own s frames) k o
  unfolding thread_at own_after
  case_keeps k place (rests next s alive) is = record { own = is.0; lawful = refl }
  case_keeps {frames} k place (point_begun frame index required unasked) is =
      at_stage (own status.Running frames) _ NoWait is.0
      (record { own = ap (λ (same : Bool). cond same (AtCall false) (cond (nat_eq index cond_timedwait_point) (AtCall true) NoWait)) (is_other_point script frame index (statement_placed place)) ∙ ap (λ (same : Bool). cond same (AtCall true) NoWait) (is_no_timed_wait script frame index (statement_placed place)); lawful = refl })
  case_keeps {frames} k place (wait_begun frame c m owned one unasked) is = at_stage (own status.Running frames) _ NoWait is.0 (record { own = begins frames m _ (next_placed place); lawful = refl })
  case_keeps {frames} k place (timed_wait_begun frame result c m owned one unasked) is = at_stage (own status.Running frames) _ NoWait is.0 (record { own = begins frames m _ (next_placed place); lawful = refl })
  case_keeps {frames} k place (wait_ended frame cond mutex c m why woken free) is =
      at_stage (own (status.Reacquire c m why) frames) _ (InWait false m) (returns frames c m why _ k woken (next_placed place) is.0) (record { own = refl; lawful = ap (λ (same : Bool). (same || false || false) && true) (eq-eqb m m refl) })
  case_keeps {frames} k place (timed_wait_ended frame result cond mutex c m why woken free) is =
      at_stage (own (status.Reacquire c m why) frames) _ (InWait true m) (returns frames c m why _ k woken (next_placed place) is.0) (record { own = refl; lawful = ap (λ (same : Bool). (same || false || false) && true) (eq-eqb m m refl) })
  case_keeps {frames} k place (wait_expired next c m timed) is =
      at_stage (own (status.Waiting c m) frames) _ (InWait true m) (is.0 ∙ ap (λ (has_time : Bool). InWait has_time m) (timed_placed place (timed refl))) (record { own = refl; lawful = refl })
  case_keeps {frames} k place (wait_timed_out frame result cond mutex c m free) is =
      at_stage (own (status.Reacquire c m cause.TimedOut) frames) _ (Expired c m) is.0 (record { own = refl; lawful = ap (λ (same : Bool). (same || false) && true) (eq-eqb m m refl) })
  case_keeps {frames} k place (canceled_in_wait next c m delivered) is =
      at_stage (own (status.Waiting c m) frames) _ (InWait (is_timed_wait (next_of script frames)) m) is.0 (record { own = leaves_its_own (is_timed_wait (next_of script frames)) c m; lawful = refl })
  case_keeps {frames} k place (canceled_after_wait next c m why stays delivered) is = leaves frames c m why k stays is
  case_keeps {frames} k place (signal_handed_on next c m u delivered among) is =
      let timed : Bool = is_timed_wait (next_of script frames) in
      at_stage (own (status.Reacquire c m cause.Signalled) frames) _ (InWait timed m) is.0
      (record { own = ap (λ (same : Bool). is_leaving timed c m (cond same (Left timed c m) NoWait)) (eq-eqb c c refl) ∙ left_its_own timed c m; lawful = ap (λ (same : Bool). same && true) (eq-eqb c c refl) })
  case_keeps {frames} k place (ended_in_wait next c m free) is =
      let timed : Bool = is_timed_wait (next_of script frames) in
      record { own = wait_is_over timed c m k is.0; lawful = ends_wait timed c m k is.0 }
  case_keeps {frames} k place (fork_handler_called next at call handler) is =
      let keeps : (w : What) → Type 0 = λ w. KeepsWait script (own (status.Forking at) frames) NoWait (record (acts (w ∷ [])) { own = Some (own_action.CallForkHandler (while_called at call.index) call.func) }) in
      at_stage (own (status.Forking at) frames) _ NoWait is.0 (of_each_phase keeps call.func (record { own = refl; lawful = refl }) (record { own = refl; lawful = refl }) (record { own = refl; lawful = refl }) at.phase)
  case_keeps {frames} {s = s} {o = o} k place _ is = at_stage (own s frames) o NoWait is.0 (record { own = refl; lawful = refl })

  -- the time of a wait expires only in a wait with a time
  case_timed : {frames : List Frame} {body : List Stmt} {next : NextStatement} {s : Status} {o : Transition} → IsPlaced script frames body next
      → TransitionCase passes body shared t environment true next s o → IsTimed (next_of script frames) s → IsTimed (next_of script (moved o (own s frames)).frames) (moved o (own s frames)).status
  unfolding thread_at own_after
  case_timed place (rests next s alive) is = is
  case_timed place (wait_expired next c m timed) is = timed_placed place (timed refl)
  case_timed place _ is = tt

-- a transition of a thread, by a choice that it is offered
pub transition_keeps : (script : Script) (config : Config) (w : World) (p : Process) (t : Thread) (k : WaitStage) (choice : Alt) → offers (choices_of script config w p t) choice ≡ true → IsInWait script t k → KeepsWait script t k (transition_by script config w p t choice)
transition_keeps script config w p t k choice offered is =
    let environment : Environment = environment_of config w p t.id in
    case_keeps script config.passes p.shared t environment k (is_placed script t.frames) (case_of config.passes (body_at script t.frames) p.shared t environment true choice (next_of script t.frames) t.status (λ known. offered)) is

-- and the thread after it is in the wait that its events report
pub transition_stays : (script : Script) (config : Config) (w : World) (p : Process) (t : Thread) (k : WaitStage) (choice : Alt) → offers (choices_of script config w p t) choice ≡ true → IsInWait script t k
    → IsInWait script (moved (transition_by script config w p t choice) t) (after_all stage (reverse (transition_by script config w p t choice).events) k)
transition_stays script config w p t k choice offered is =
    let environment : Environment = environment_of config w p t.id in (
      (transition_keeps script config w p t k choice offered is).own,
      case_timed script config.passes p.shared t environment (is_placed script t.frames) (case_of config.passes (body_at script t.frames) p.shared t environment true choice (next_of script t.frames) t.status (λ known. offered)) is.1,
    )

-- ---- a thread that another one unblocks

unblocked_stays : (next : NextStatement) (why : Cause) → is_wake_up why ≡ true → (s : Status) (k : WaitStage) → IsAtStage next s k → IsAtStage next (unblocked why s) k
unblocked_stays next cause.Signalled woken (status.Waiting c m) k is = is
unblocked_stays next cause.Broadcast woken (status.Waiting c m) k is = is
unblocked_stays next _ woken (status.Waiting c m) k is = absurd (false≢true woken)
unblocked_stays next why woken s k is = is

module _ (script : Script) where
  either : (named : Bool) (changed t : Thread) (k : WaitStage) → IsInWait script changed k → IsInWait script t k → IsInWait script (cond named changed t) k
  either true changed t k first second = first
  either false changed t k first second = second

  -- an action of another thread
  pub named_keeps_wait : (a : Option NamedAction) (t : Thread) (k : WaitStage) → IsInWait script t k → IsInWait script (named_after a t) k
  unfolding named_after
  named_keeps_wait (Some (named_action.EndJoin id)) t k is = either (has_valid_id id t) (record t { joined = true }) t k is is
  named_keeps_wait (Some (named_action.Request id)) t k is = either (has_valid_id id t && not t.ended) (record t { pending = true }) t k is is
  named_keeps_wait (Some (named_action.Detach id)) t k is = either (has_valid_id id t) (record t { detached = true }) t k is is
  named_keeps_wait (Some (named_action.Wake id)) t k is = either (has_valid_id id t) (record t { status = unblocked cause.Signalled t.status }) t k (unblocked_stays (next_of script t.frames) cause.Signalled refl t.status k is) is
  named_keeps_wait (Some (named_action.WakeAll c)) t k is = either (is_waiting_on c t.status) (record t { status = unblocked cause.Broadcast t.status }) t k (unblocked_stays (next_of script t.frames) cause.Broadcast refl t.status k is) is
  named_keeps_wait _ t k is = is
