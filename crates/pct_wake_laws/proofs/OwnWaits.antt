-- What a thread does in a condition wait: it waits by pthread_cond_wait or pthread_cond_timedwait alone, makes no step there but that it acts
-- upon a request, that its time expires, or that it acquires its mutex, and does not unblock itself otherwise.
use Rattle.pct_names.proofs.Names.{◌&&◌, ◌++◌, [], acts_on_request, acts_or, Alt, and_from, and_parts, body_at, Bool, Cause, choices_at}
use Rattle.pct_names.proofs.Names.{cond, Config, Entry, Environment, environment_of, ETIMEDOUT, expires, false, false≢true, go_if, hands_on}
use Rattle.pct_names.proofs.Names.{has_valid_id, is_deliverable, is_free_mutex, is_none, is_timed_wait, leaves_wait, List, list_any, moved}
use Rattle.pct_names.proofs.Names.{named_after, NamedAction, nat_eq, next_of, NextStatement, None, NoStatement, not, offers, Option}
use Rattle.pct_names.proofs.Names.{or_left, own_after, Process, reacquires, refl, Run, run, Script, SharedState, Some, StatementIn, Status}
use Rattle.pct_names.proofs.Names.{Stmt, subst, sym, Thread, thread_at, Transition, transition_at, transition_by, true, What, ◌||◌, ℕ, ◌∷◌}
use Rattle.pct_names.proofs.Names.{◌≡◌}
use Rattle.std.proofs.Common.{eq-eqb, true≢false}
use Rattle.pct_model.specs.CondCalls as machine
use Rattle.pct_model.specs.declared.event.Caller.TheVariants as caller
use Rattle.pct_model.specs.declared.event.What.TheVariants as what
use Rattle.pct_model.specs.declared.schedule.Alt.TheVariants as alt
use Rattle.pct_model.specs.declared.state.Cause.TheVariants as cause
use Rattle.pct_model.specs.declared.state.Status.TheVariants as status
use Rattle.pct_model.specs.declared.statement.Stmt.TheVariants as statement
use Rattle.pct_model.specs.declared.transition.NamedAction.TheVariants as named_action
use Rattle.pct_model.specs.LineParsing.{is_empty}
use Rattle.pct_laws.specs.Kept.{IsSuspendedAt}
use Rattle.pct_laws.specs.WaitStages.{acquires, cancels_wait_on}
use Rattle.pct_laws.specs.WakeLaw.{is_in_wait, may_become}
use Rattle.pct_transition_cases.proofs.TransitionCases.{TransitionCase, rests, wait_begun, timed_wait_begun, wait_ended}
use Rattle.pct_transition_cases.proofs.TransitionCases.{timed_wait_ended, wait_expired, wait_timed_out, canceled_in_wait}
use Rattle.pct_transition_cases.proofs.TransitionCases.{canceled_after_wait, signal_handed_on, ended_in_wait}
use Rattle.pct_thread_invariants.proofs.ThreadsOfRun.{threads_kept}
use Rattle.pct_thread_invariants.proofs.lift.ChangedThreads.{either_keeps}
use Rattle.pct_thread_invariants.proofs.lift.EveryProcess.{moves_of_run, process_taken}
use Rattle.pct_thread_invariants.proofs.lift.MadeThreads.{HasValidId}
use Rattle.pct_thread_invariants.proofs.lift.MovedThreads.{EveryStep, step_of, case_of_step, every_step}
use Rattle.pct_thread_invariants.proofs.lift.TakenSteps.{IsTaken}
use Rattle.pct_thread_invariants.proofs.lift.ThreadsAfter.{Moves, mover}

-- ---- a thread in a wait makes an event

-- a thread with this status is in a condition wait
abbrev in_a_wait : Status → Bool
in_a_wait (status.Waiting c m) = true
in_a_wait (status.Reacquire c m why) = true
in_a_wait _ = false

abbrev HasEvent : Transition → Type 0
HasEvent o = is_empty o.events ≡ false

goes_on_with_event : (id c m : ℕ) (why : Cause) (next : NextStatement) → IsSuspendedAt next (status.Reacquire c m why) → HasEvent (reacquires id c m why next)
unfolding reacquires
goes_on_with_event id c m cause.Canceled next at = refl
goes_on_with_event id c m cause.Signalled (StatementIn frame (statement.CondWait cond mutex)) at = refl
goes_on_with_event id c m cause.Signalled (StatementIn frame (statement.CondTimedWait result cond mutex)) at = refl
goes_on_with_event id c m cause.Signalled _ at = absurd (false≢true at)
goes_on_with_event id c m cause.Broadcast (StatementIn frame (statement.CondWait cond mutex)) at = refl
goes_on_with_event id c m cause.Broadcast (StatementIn frame (statement.CondTimedWait result cond mutex)) at = refl
goes_on_with_event id c m cause.Broadcast _ at = absurd (false≢true at)
goes_on_with_event id c m cause.TimedOut (StatementIn frame (statement.CondTimedWait result cond mutex)) at = refl
goes_on_with_event id c m cause.TimedOut (StatementIn frame (statement.CondWait cond mutex)) at = absurd (false≢true (and_parts (nat_eq cond c && nat_eq mutex m) false at).1)
goes_on_with_event id c m cause.TimedOut _ at = absurd (false≢true at)

acts_with_event : (u c m : ℕ) → HasEvent (hands_on u c m)
unfolding hands_on leaves_wait
acts_with_event u c m = either_keeps (λ (o : Transition). is_empty o.events) (nat_eq u 0) _ _ (leaves_wait c m) refl refl

-- one that acted upon a request in its wait does so once
acts_once : (free delivered : Bool) (n : ℕ) → offers (go_if free ++ cond delivered [] []) (alt.Act n) ≡ true → ⊥
acts_once true true n offered = false≢true offered
acts_once true false n offered = false≢true offered
acts_once false true n offered = false≢true offered
acts_once false false n offered = false≢true offered

module _ (passes : ℕ) (body : List Stmt) (shared : SharedState) (t : Thread) (environment : Environment) where
  makes_event : (choice : Alt) (next : NextStatement) (s : Status) → IsSuspendedAt next s → offers (choices_at body shared t environment next s) choice ≡ true → in_a_wait s ≡ true
      → HasEvent (acts_or choice s (transition_at passes body shared t environment choice next s))
  unfolding choices_at transition_at acts_on_request leaves_wait expires
  makes_event (alt.Act n) next (status.Waiting c m) at offered waits = refl
  makes_event (alt.Act n) next (status.Reacquire c m cause.Signalled) at offered waits = acts_with_event n c m
  makes_event (alt.Act n) next (status.Reacquire c m cause.Broadcast) at offered waits = refl
  makes_event (alt.Act n) next (status.Reacquire c m cause.TimedOut) at offered waits = refl
  makes_event (alt.Act n) next (status.Reacquire c m cause.Canceled) at offered waits = absurd (acts_once (is_free_mutex m shared) (is_deliverable t.state t.pending) n offered)
  makes_event choice NoStatement (status.Reacquire c m why) at offered waits = goes_on_with_event t.id c m why NoStatement at
  makes_event choice (StatementIn frame s) (status.Reacquire c m why) at offered waits = goes_on_with_event t.id c m why (StatementIn frame s) at
  makes_event choice NoStatement (status.Waiting c m) at offered waits = refl
  makes_event choice (StatementIn frame s) (status.Waiting c m) at offered waits = refl
  makes_event choice next _ at offered waits = absurd (false≢true waits)

-- ---- the status after a step of its own

same : (n : ℕ) → nat_eq n n ≡ true
same n = eq-eqb n n refl

both_same : (m n : ℕ) → nat_eq m m && nat_eq n n ≡ true
both_same m n = and_from (nat_eq m m) (nat_eq n n) (same m) (same n)

acquires_it : (m : ℕ) (w : What) → list_any (acquires m) (what.Acquired m ∷ w ∷ []) ≡ true
acquires_it m w = or_left (nat_eq m m) _ (same m)

leaves_it : (c m : ℕ) (s : Status) (events : List What) → is_in_wait c m s ≡ true → is_in_wait c m s && list_any (cancels_wait_on c) (what.WaitCanceled c ∷ events) ≡ true
leaves_it c m s events waits = and_from (is_in_wait c m s) _ waits (or_left (nat_eq c c) _ (same c))

unchanged : (next : NextStatement) (s : Status) → (in_a_wait s ≡ true → ⊥) → may_become next [] s s ≡ true
unchanged next (status.Waiting c m) elsewhere = absurd (elsewhere refl)
unchanged next (status.Reacquire c m why) elsewhere = absurd (elsewhere refl)
unchanged next _ elsewhere = refl

-- the status is that of a thread that waits
abbrev is_waiting : Status → Bool
is_waiting (status.Waiting c m) = true
is_waiting _ = false

stays_unblocked : (why : Cause) (s : Status) → not (is_waiting s) ≡ true → machine.unblocked why s ≡ s
stays_unblocked why (status.Waiting c m) is = absurd (false≢true is)
stays_unblocked why _ is = refl

-- an action that names threads changes no status but that of a thread that waits
not_woken : (a : Option NamedAction) (t : Thread) → (is_none a || not (is_waiting t.status)) ≡ true → (named_after a t).status ≡ t.status
unfolding named_after
not_woken None t is = refl
not_woken (Some (named_action.EndJoin id)) t is = either_keeps (λ (u : Thread). u.status) (has_valid_id id t) (record t { joined = true }) t t refl refl
not_woken (Some (named_action.Request id)) t is = either_keeps (λ (u : Thread). u.status) (has_valid_id id t && not t.ended) (record t { pending = true }) t t refl refl
not_woken (Some (named_action.Detach id)) t is = either_keeps (λ (u : Thread). u.status) (has_valid_id id t) (record t { detached = true }) t t refl refl
not_woken (Some (named_action.Wake id)) t is =
    either_keeps (λ (u : Thread). u.status) (has_valid_id id t) (record t { status = machine.unblocked cause.Signalled t.status }) t t (stays_unblocked cause.Signalled t.status is) refl
not_woken (Some (named_action.WakeAll c)) t is =
    either_keeps (λ (u : Thread). u.status) (machine.is_waiting_on c t.status) (record t { status = machine.unblocked cause.Broadcast t.status }) t t (stays_unblocked cause.Broadcast t.status is) refl
not_woken (Some (named_action.ForgetKey k)) t is = refl

-- the status of a thread after a transition of its own, if it was s
abbrev own_status : Thread → Status → Transition → Status
own_status t s o = (moved o (record t { status = s })).status

module _ {passes : ℕ} {body : List Stmt} {shared : SharedState} {t : Thread} {environment : Environment} where
  case_becomes : {next : NextStatement} {s : Status} {o : Transition} → TransitionCase passes body shared t environment true next s o → (in_a_wait s ≡ true → HasEvent o) → may_become next o.events s (own_status t s o) ≡ true
  unfolding thread_at own_after
  case_becomes (rests next s alive) makes = unchanged next s (λ waits. true≢false (makes waits))
  case_becomes (wait_begun frame c m owns one unasked) makes = both_same c m
  case_becomes (timed_wait_begun frame result c m owns one unasked) makes = both_same c m
  case_becomes (wait_ended frame cond mutex c m why woken free) makes = acquires_it m (what.Done machine.cond_wait_point)
  case_becomes (timed_wait_ended frame result cond mutex c m why woken free) makes = acquires_it m (what.Done machine.cond_timedwait_point)
  case_becomes (wait_expired next c m timed) makes = and_from (nat_eq c c && nat_eq m m && is_timed_wait next) _ (and_from (nat_eq c c && nat_eq m m) _ (both_same c m) (timed refl)) (or_left (nat_eq c c) false (same c))
  case_becomes (wait_timed_out frame result cond mutex c m free) makes = acquires_it m (what.Answer caller.CondTimedWait ETIMEDOUT)
  case_becomes (canceled_in_wait next c m asked) makes = leaves_it c m (status.Waiting c m) [] (both_same c m)
  case_becomes (canceled_after_wait next c m cause.Signalled stays asked) makes = leaves_it c m (status.Reacquire c m cause.Signalled) [] (both_same c m)
  case_becomes (canceled_after_wait next c m cause.Broadcast stays asked) makes = leaves_it c m (status.Reacquire c m cause.Broadcast) [] (both_same c m)
  case_becomes (canceled_after_wait next c m cause.TimedOut stays asked) makes = leaves_it c m (status.Reacquire c m cause.TimedOut) [] (both_same c m)
  case_becomes (canceled_after_wait next c m cause.Canceled stays asked) makes = absurd (true≢false stays)
  case_becomes (signal_handed_on next c m u asked among) makes = leaves_it c m (status.Reacquire c m cause.Signalled) (what.HandedOn c u ∷ []) (both_same c m)
  case_becomes (ended_in_wait next c m free) makes = acquires_it m (what.EndingInWait c m)
  case_becomes _ makes = refl

  -- a transition that makes its thread wait has no action that names threads
  case_unwoken : {next : NextStatement} {s : Status} {o : Transition} → TransitionCase passes body shared t environment true next s o → (is_none o.named || not (is_waiting (own_status t s o))) ≡ true
  unfolding thread_at own_after
  case_unwoken (rests next s alive) = refl
  case_unwoken _ = refl

-- ---- each step of a run

module _ (script : Script) (config : Config) where
  abbrev Becomes : Transition → Thread → Status → Type 0
  Becomes o t s = may_become (next_of script t.frames) o.events t.status s ≡ true

  own_of_step : (before : List Entry) (r : Run) → run script config before ≡ Some r → (e : Entry) (p : Process) (t : Thread) → IsTaken script config r.world e p t
      → Becomes (transition_by script config r.world p t e.alt) t (step_of script config r p e t).after.status
  own_of_step before r is e p t taken =
      let o : Transition = transition_by script config r.world p t e.alt in
      let moves : Moves script config r.world p e t = moves_of_run script config before r is e p t taken in
      let it : HasValidId p e.tid t = mover script config r.world p e t moves in
      let at : IsSuspendedAt (next_of script t.frames) t.status = (threads_kept script config before r is e.pid e.tid p t (process_taken script config before r is e p t taken) it.found it.here).suspended in
      let case = case_of_step script config r.world p e t moves in
      let makes : in_a_wait t.status ≡ true → HasEvent o = makes_event config.passes (body_at script t.frames) p.shared t (environment_of config r.world p t.id) e.alt (next_of script t.frames) t.status at taken.offered in
      subst (λ (b : Bool). Becomes o t (named_after o.named (cond b (moved o t) t)).status) (sym it.valid)
      (subst (Becomes o t) (sym (not_woken o.named (moved o t) (case_unwoken case))) (case_becomes case makes))

  -- each thread of a run is in a condition wait as the law says
  pub own_of_run : EveryStep script config (λ s. may_become (next_of script s.before.frames) s.events s.before.status s.after.status ≡ true)
  own_of_run = every_step script config (λ s. may_become (next_of script s.before.frames) s.events s.before.status s.after.status ≡ true) own_of_step
