-- A signal is handed on exactly by a thread that it unblocked, as this thread acts upon a request, if another one waits.
use Rattle.pct_names.proofs.Names.{◌&&◌, ◌++◌, ◌<◌, [], acts, acts_on_request, acts_or, Alt, ap, body_at, Bool, by_slot, choices_at, cond}
use Rattle.pct_names.proofs.Names.{Config, Entry, Environment, environment_of, false, false≢true, go_if, hand_on_or_act}
use Rattle.pct_names.proofs.Names.{hands_on as machine_hands_on, is_deliverable, is_free_mutex, leaves_wait, List, list_any, map, nat_eq}
use Rattle.pct_names.proofs.Names.{next_of, NextStatement, NoStatement, not, offers, Process, reacquires, refl, Run, run, Script}
use Rattle.pct_names.proofs.Names.{SharedState, Some, StatementIn, Status, Stmt, subst, sym, Thread, Transition, transition_at, true}
use Rattle.pct_names.proofs.Names.{Waiter, waiters_among, What, World, ◌||◌, ℕ, ◌∙◌, ◌∷◌, ◌≡◌}
use Rattle.std.proofs.Math.Bool.{or-false}
use Rattle.pct_model.specs.declared.schedule.Alt.TheVariants as alt
use Rattle.pct_model.specs.declared.event.What.TheVariants as what
use Rattle.pct_model.specs.declared.transition.NamedAction.TheVariants as named_action
use Rattle.pct_model.specs.declared.transition.OwnAction.TheVariants as own_action
use Rattle.pct_model.specs.declared.state.Cause.TheVariants as cause
use Rattle.pct_model.specs.declared.state.Status.TheVariants as status
use Rattle.pct_model.specs.declared.statement.Stmt.TheVariants as statement
use Rattle.pct_laws.specs.StatementLaw.{agree}
use Rattle.pct_laws.specs.WaitStages.{cancels_wait}
use Rattle.pct_laws.specs.WakeLaw.{hands_on, hands_its_signal_on, owes_signal, waits_with_id}
use Rattle.pct_transition_cases.proofs.TransitionCases.{TransitionCase, canceled_after_wait, signal_handed_on, fork_handler_called}
use Rattle.pct_thread_invariants.proofs.lift.EveryProcess.{moves_of_run}
use Rattle.pct_thread_invariants.proofs.lift.HandlerEvents.{of_each_phase}
use Rattle.pct_thread_invariants.proofs.lift.MovedThreads.{EveryStep, step_of, case_of_step, every_step}
use Rattle.pct_thread_invariants.proofs.lift.TakenSteps.{IsTaken}
use Rattle.pct_thread_invariants.proofs.lift.ThreadIds.{HaveIds}
use Rattle.pct_thread_invariants.proofs.lift.ThreadsAfter.{Moves}
use Rattle.pct_wake_laws.proofs.SeenWaiters.{none_seen, some_waits, waiter_numbered, waits_seen}

module _ (threads : List Thread) where
  -- what the law asks of the events of a thread with a status
  abbrev Hands : Status → List What → Type 0
  Hands s events = agree (list_any hands_on events) (list_any cancels_wait events && owes_signal threads s) ≡ true

  -- a thread that a signal did not unblock hands none on
  case_hands : {passes : ℕ} {body : List Stmt} {shared : SharedState} {t : Thread} {environment : Environment} {next : NextStatement} {s : Status} {o : Transition} → TransitionCase passes body shared t environment true next s o
      → ((c m : ℕ) → s ≡ status.Reacquire c m cause.Signalled → Hands (status.Reacquire c m cause.Signalled) o.events) → Hands s o.events
  case_hands (canceled_after_wait next c m cause.Signalled stays asked) owes = owes c m refl
  case_hands (canceled_after_wait next c m cause.Broadcast stays asked) owes = refl
  case_hands (canceled_after_wait next c m cause.TimedOut stays asked) owes = refl
  case_hands (canceled_after_wait next c m cause.Canceled stays asked) owes = refl
  case_hands (signal_handed_on next c m u asked among) owes = owes c m refl
  case_hands {s = s} (fork_handler_called next at call is) owes = of_each_phase (λ (w : What). Hands s (w ∷ [])) call.func refl refl refl at.phase
  case_hands _ owes = refl

  -- one that goes on hands none on
  going_on : (id c m : ℕ) (next : NextStatement) → Hands (status.Reacquire c m cause.Signalled) (reacquires id c m cause.Signalled next).events
  unfolding reacquires
  going_on id c m (StatementIn frame (statement.CondWait cond mutex)) = refl
  going_on id c m _ = refl

-- ---- the choice to act

-- the events of a thread that acts, by whether it names another
events_by : (u c m : ℕ) (none : Bool) → nat_eq u 0 ≡ none → (machine_hands_on u c m).events ≡ cond none (what.WaitCanceled c ∷ []) (what.WaitCanceled c ∷ what.HandedOn c u ∷ [])
unfolding machine_hands_on leaves_wait
events_by u c m none is = apart (nat_eq u 0) ∙ ap (λ (b : Bool). cond b (what.WaitCanceled c ∷ []) (what.WaitCanceled c ∷ what.HandedOn c u ∷ [])) is
  where
    apart : (b : Bool) → (cond b (leaves_wait c m) (record (acts (what.WaitCanceled c ∷ what.HandedOn c u ∷ [])) { own = Some (own_action.SetStatus (status.Reacquire c m cause.Canceled)); named = Some (named_action.Wake u) })).events
        ≡ cond b (what.WaitCanceled c ∷ []) (what.WaitCanceled c ∷ what.HandedOn c u ∷ [])
    apart true = refl
    apart false = refl

-- where a thread may act, it does so by the numbers of those that it sees wait
act_among : (free delivered : Bool) (acting : List Alt) (u : ℕ) → offers (go_if free ++ cond delivered acting []) (alt.Act u) ≡ true → offers acting (alt.Act u) ≡ true
act_among true true acting u offered = offered
act_among true false acting u offered = absurd (false≢true offered)
act_among false true acting u offered = offered
act_among false false acting u offered = absurd (false≢true offered)

names_one : (u : ℕ) (waiters : List Waiter) → offers (map (λ (w : Waiter). alt.Act w.id) waiters) (alt.Act u) ≡ list_any (λ (w : Waiter). nat_eq u w.id) waiters
names_one u [] = refl
names_one u (w ∷ waiters) = ap (λ (b : Bool). nat_eq u w.id || b) (names_one u waiters)

module _ (slots passes : ℕ) (body : List Stmt) (shared : SharedState) (threads : List Thread) (t : Thread) (environment : Environment)
    (some : 0 < slots) (have : HaveIds slots threads) (waiting : (c : ℕ) → environment.waiters c ≡ waiters_among c (by_slot slots threads)) where
  -- a thread that acts, by those that it sees wait
  acting : (c m u : ℕ) (waiters : List Waiter) → environment.waiters c ≡ waiters → offers (hand_on_or_act waiters) (alt.Act u) ≡ true → Hands threads (status.Reacquire c m cause.Signalled) (machine_hands_on u c m).events
  acting c m u [] none offered =
      subst (Hands threads (status.Reacquire c m cause.Signalled)) (sym (events_by u c m true (sym (or-false (nat_eq u 0)) ∙ offered))) (ap not (none_seen slots c threads some (sym (waiting c) ∙ none)))
  acting c m u (w ∷ waiters) are offered =
      let among : list_any (λ (x : Waiter). nat_eq u x.id) (environment.waiters c) ≡ true = ap (list_any (λ (x : Waiter). nat_eq u x.id)) are ∙ sym (names_one u (w ∷ waiters)) ∙ offered in
      let waits : waits_with_id c u threads ≡ true = waits_seen slots c threads some u (ap (list_any (λ (x : Waiter). nat_eq u x.id)) (sym (waiting c)) ∙ among) in
      subst (Hands threads (status.Reacquire c m cause.Signalled)) (sym (events_by u c m false (waiter_numbered slots c u threads have some waits))) (some_waits c u threads waits)

  -- a thread that a signal unblocked
  unblocked_hands : (choice : Alt) (next : NextStatement) (c m : ℕ) → offers (choices_at body shared t environment next (status.Reacquire c m cause.Signalled)) choice ≡ true
      → Hands threads (status.Reacquire c m cause.Signalled) (acts_or choice (status.Reacquire c m cause.Signalled) (transition_at passes body shared t environment choice next (status.Reacquire c m cause.Signalled))).events
  unfolding choices_at transition_at acts_on_request
  unblocked_hands (alt.Act u) next c m offered = acting c m u (environment.waiters c) refl (act_among (is_free_mutex m shared) (is_deliverable t.state t.pending) (hand_on_or_act (environment.waiters c)) u offered)
  unblocked_hands choice NoStatement c m offered = going_on threads t.id c m NoStatement
  unblocked_hands choice (StatementIn frame s) c m offered = going_on threads t.id c m (StatementIn frame s)

-- ---- each step of a run

-- what a thread sees of those that wait
pub sees : (config : Config) (w : World) (p : Process) (id c : ℕ) → (environment_of config w p id).waiters c ≡ waiters_among c (by_slot config.slots p.threads)
unfolding environment_of
sees config w p id c = refl

module _ (script : Script) (config : Config) where
  handed_on_of_step : (before : List Entry) (r : Run) → run script config before ≡ Some r → (e : Entry) (p : Process) (t : Thread) → IsTaken script config r.world e p t → hands_its_signal_on (step_of script config r p e t) ≡ true
  handed_on_of_step before r is e p t taken =
      let moves : Moves script config r.world p e t = moves_of_run script config before r is e p t taken in
      let body : List Stmt = body_at script t.frames in
      let environment : Environment = environment_of config r.world p t.id in
      let next : NextStatement = next_of script t.frames in
      case_hands p.threads (case_of_step script config r.world p e t moves) (λ c m was.
      subst (λ (s : Status). offers (choices_at body p.shared t environment next s) e.alt ≡ true → Hands p.threads (status.Reacquire c m cause.Signalled) (acts_or e.alt s (transition_at config.passes body p.shared t environment e.alt next s)).events) (sym was)
      (unblocked_hands config.slots config.passes body p.shared p.threads t environment moves.some moves.ids (sees config r.world p t.id) e.alt next c m) taken.offered)

  -- each thread of a run hands its signal on as the law says
  pub handed_on_of_run : EveryStep script config (λ s. hands_its_signal_on s ≡ true)
  handed_on_of_run = every_step script config (λ s. hands_its_signal_on s ≡ true) handed_on_of_step
