-- A thread that is suspended in a cancellation point, and has to act upon a request, has a choice to do so.
use Rattle.pct_names.proofs.Names.{◌++◌, [], act_if, Alt, ap, body_at, Bool, choices_at, cond, Config, Environment, environment_of}
use Rattle.pct_names.proofs.Names.{expire_if, false, false≢true, go_if, hand_on_or_act, is_deliverable, is_ended_status, List, list_any}
use Rattle.pct_names.proofs.Names.{next_of, NextStatement, refl, Script, SharedState, Status, Stmt, sym, Thread, true, Waiter, ◌∙◌, ◌∷◌}
use Rattle.pct_names.proofs.Names.{◌≡◌}
use Rattle.pct_model.specs.declared.schedule.Alt.TheVariants as alt
use Rattle.pct_model.specs.declared.state.Cause.TheVariants as cause
use Rattle.pct_model.specs.declared.state.Status.TheVariants as status
use Rattle.pct_laws.specs.CancelLaw.{is_suspended, is_to_act, Awakened}
use Rattle.pct_thread_invariants.proofs.lift.TakenSteps.{AfterEveryRun}
use Rattle.pct_cancel_laws.proofs.requests.ActingThreads.{acts_by_events}

-- a choice to act is one, also where the thread may go on
acts_too : (goes : Bool) (acting : List Alt) → list_any is_to_act acting ≡ true → list_any is_to_act (go_if goes ++ acting) ≡ true
acts_too true acting acts = acts
acts_too false acting acts = acts

-- or where its time may expire
acts_in_time : (expires : Bool) (acting : List Alt) → list_any is_to_act acting ≡ true → list_any is_to_act (expire_if expires ++ acting) ≡ true
acts_in_time true acting acts = acts
acts_in_time false acting acts = acts

acts_in_time_too : (goes expires : Bool) (acting : List Alt) → list_any is_to_act acting ≡ true → list_any is_to_act (go_if goes ++ expire_if expires ++ acting) ≡ true
acts_in_time_too true expires acting acts = acts_in_time expires acting acts
acts_in_time_too false expires acting acts = acts_in_time expires acting acts

-- a thread with a request may act upon it
requested : (asked : Bool) → asked ≡ true → list_any is_to_act (act_if asked) ≡ true
requested true is = refl
requested false is = absurd (false≢true is)

-- one that was unblocked by a signal may hand the signal on, or act
hands_on : (waiters : List Waiter) → list_any is_to_act (hand_on_or_act waiters) ≡ true
hands_on [] = refl
hands_on (waiter ∷ waiters) = refl

module _ (body : List Stmt) (shared : SharedState) (t : Thread) (environment : Environment) (asked : is_deliverable t.state t.pending ≡ true) where
  -- a thread that is suspended, by its status
  awake : (next : NextStatement) (s : Status) → is_suspended s ≡ true → list_any is_to_act (choices_at body shared t environment next s) ≡ true
  unfolding choices_at
  awake next (status.AtPoint index) suspended = acts_too _ (act_if (is_deliverable t.state t.pending)) (requested (is_deliverable t.state t.pending) asked)
  awake next (status.Joining id) suspended = acts_too _ (act_if (is_deliverable t.state t.pending)) (requested (is_deliverable t.state t.pending) asked)
  awake next (status.InSem sem) suspended = acts_in_time_too _ _ (act_if (is_deliverable t.state t.pending)) (requested (is_deliverable t.state t.pending) asked)
  awake next (status.InWaitPid pid) suspended = acts_too _ (act_if (is_deliverable t.state t.pending)) (requested (is_deliverable t.state t.pending) asked)
  awake next (status.Waiting c m) suspended = acts_in_time _ (act_if (is_deliverable t.state t.pending)) (requested (is_deliverable t.state t.pending) asked)
  awake next (status.Reacquire c m cause.Signalled) suspended =
      acts_too _ (cond (is_deliverable t.state t.pending) (hand_on_or_act (environment.waiters c)) []) (ap (λ (b : Bool). list_any is_to_act (cond b (hand_on_or_act (environment.waiters c)) [])) asked ∙ hands_on (environment.waiters c))
  awake next (status.Reacquire c m cause.Broadcast) suspended =
      acts_too _ (cond (is_deliverable t.state t.pending) (alt.Act 0 ∷ []) []) (ap (λ (b : Bool). list_any is_to_act (cond b (alt.Act 0 ∷ []) [])) asked)
  awake next (status.Reacquire c m cause.TimedOut) suspended =
      acts_too _ (cond (is_deliverable t.state t.pending) (alt.Act 0 ∷ []) []) (ap (λ (b : Bool). list_any is_to_act (cond b (alt.Act 0 ∷ []) [])) asked)
  awake next _ suspended = absurd (false≢true suspended)

-- a suspended thread has not ended
suspended_alive : (s : Status) → is_suspended s ≡ true → is_ended_status s ≡ false
suspended_alive (status.Ended v) suspended = absurd (false≢true suspended)
suspended_alive _ suspended = refl

-- after every run, a thread that is suspended in a cancellation point, and has to act upon a request, has a choice to do so
pub awakened_of_run : (script : Script) (config : Config) → AfterEveryRun script config (λ r. Awakened script config r.world r.events)
awakened_of_run script config entries r is pid p made tid t found here suspended has =
    awake (body_at script t.frames) p.shared t (environment_of config r.world p t.id)
    (sym (acts_by_events script config entries r is pid tid p t made found here (suspended_alive t.status suspended)) ∙ has) (next_of script t.frames) t.status suspended
