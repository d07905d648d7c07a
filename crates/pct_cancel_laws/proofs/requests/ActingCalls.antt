-- A thread that is to call a function that shall be a cancellation point, with a request to act upon, acts upon it, or the call is a stop.
use Rattle.pct_names.proofs.Names.{◌&&◌, acts_on_request, acts_or, Alt, body_at, Bool, called_kind, choices_at, Config, Entry, Environment}
use Rattle.pct_names.proofs.Names.{environment_of, false, false≢true, Frame, is_allowed_asynchronously, is_deliverable, is_required, List}
use Rattle.pct_names.proofs.Names.{next_of, NextStatement, None, NoStatement, not, offers, Option, Process, refl, Run, run, runs, Script}
use Rattle.pct_names.proofs.Names.{SharedState, Some, StatementIn, Status, Stmt, stop_at, stops_or, subst, sym, Thread, transition_at, true}
use Rattle.pct_names.proofs.Names.{Why, ◌||◌, ℕ, ◌∙◌, ◌≡◌}
use Rattle.std.proofs.lemmas.Bool.{true≢false}
use Rattle.pct_model.specs.declared.schedule.Alt.TheVariants as alt
use Rattle.pct_model.specs.declared.state.Status.TheVariants as status
use Rattle.pct_model.specs.declared.statement.Stmt.TheVariants as statement
use Rattle.pct_laws.specs.CancelEvents.{has_to_act}
use Rattle.pct_laws.specs.CancelLaw.{is_running, calls_required_point, acts_or_stops, acts_at_calls}
use Rattle.pct_transition_cases.proofs.CaseOfTransition.{no_stops}
use Rattle.pct_transition_cases.proofs.OfferedChoices.{is_acting, gone_on_at_required}
use Rattle.pct_thread_invariants.proofs.lift.TakenSteps.{IsTaken}
use Rattle.pct_cancel_laws.proofs.requests.ActingThreads.{mover_acts}
use Rattle.pct_thread_invariants.proofs.lift.MovedThreads.{EveryStep, step_of, every_step}

-- a function that shall be a cancellation point is not async-cancel-safe
required_unsafe : (s : Stmt) → is_required (called_kind s) ≡ true → is_allowed_asynchronously s ≡ false
unfolding called_kind
required_unsafe (statement.Emit v) required = absurd (false≢true required)
required_unsafe (statement.Set d v) required = absurd (false≢true required)
required_unsafe (statement.Add d v) required = absurd (false≢true required)
required_unsafe statement.Nop required = absurd (false≢true required)
required_unsafe (statement.If v) required = absurd (false≢true required)
required_unsafe statement.Else required = absurd (false≢true required)
required_unsafe (statement.While v) required = absurd (false≢true required)
required_unsafe statement.End required = absurd (false≢true required)
required_unsafe (statement.Do f v) required = absurd (false≢true required)
required_unsafe (statement.Return v) required = absurd (false≢true required)
required_unsafe (statement.CancelThread id) required = absurd (false≢true required)
required_unsafe (statement.SetState enable old) required = absurd (false≢true required)
required_unsafe (statement.SetMode asynchronous old) required = absurd (false≢true required)
required_unsafe _ required = refl

module _ (passes : ℕ) (body : List Stmt) (shared : SharedState) (t : Thread) (environment : Environment) where
  -- a call that goes on is a stop, as without one the thread would have no request to act upon
  goes_stopped : (choice : Alt) (frame : Frame) (s : Stmt) (stop : Option Why) → (stop ≡ None → ⊥) → acts_or_stops (stops_or stop (runs passes body shared t environment choice frame s)).events ≡ true
  goes_stopped choice frame s (Some why) stopped = refl
  goes_stopped choice frame s None stopped = absurd (stopped refl)

  -- a thread that goes on at such a call
  goes_on_at_call : (choice : Alt) (frame : Frame) (s : Stmt) → is_required (called_kind s) ≡ true → is_deliverable t.state t.pending ≡ true → offers (choices_at body shared t environment (StatementIn frame s) status.Running) choice ≡ true → is_acting choice ≡ false
      → acts_or_stops (transition_at passes body shared t environment choice (StatementIn frame s) status.Running).events ≡ true
  unfolding transition_at
  goes_on_at_call choice frame s required asked offered goes =
      goes_stopped choice frame s (stop_at body shared t environment frame s)
      (λ none.
      let allowed = no_stops body shared t environment frame s none in
      true≢false (sym asked ∙ gone_on_at_required body shared t environment choice frame s required (required_unsafe s required) allowed.0 allowed.1.0 offered goes))

  -- the transition of a thread at such a call
  at_call : (choice : Alt) (next : NextStatement) → calls_required_point next ≡ true → is_deliverable t.state t.pending ≡ true → offers (choices_at body shared t environment next status.Running) choice ≡ true
      → acts_or_stops (acts_or choice status.Running (transition_at passes body shared t environment choice next status.Running)).events ≡ true
  unfolding acts_on_request
  at_call choice NoStatement required asked offered = absurd (false≢true required)
  at_call (alt.Act n) next required asked offered = refl
  at_call choice (StatementIn frame s) required asked offered = goes_on_at_call choice frame s required asked offered refl

-- ---- steps

-- what follows from three tests
implied : (a b c d : Bool) → (a ≡ true → b ≡ true → c ≡ true → d ≡ true) → (not (a && b && c) || d) ≡ true
implied true true true d then = then refl refl refl
implied true true false d then = refl
implied true false c d then = refl
implied false b c d then = refl

-- a thread that runs
pub its_status : (s : Status) → is_running s ≡ true → s ≡ status.Running
its_status status.Running is = refl
its_status _ is = absurd (false≢true is)

module _ (script : Script) (config : Config) where
  -- so it is of the step of an entry that moves a thread
  acts_at_call : (before : List Entry) (r : Run) → run script config before ≡ Some r → (e : Entry) (p : Process) (t : Thread) → IsTaken script config r.world e p t → acts_at_calls script (step_of script config r p e t) ≡ true
  acts_at_call before r is e p t taken = implied (is_running t.status) (calls_required_point (next_of script t.frames)) (has_to_act e.pid e.tid r.events) _ (λ running required acts.
      let body : List Stmt = body_at script t.frames in
      let environment : Environment = environment_of config r.world p t.id in
      let next : NextStatement = next_of script t.frames in
      subst (λ (s : Status). offers (choices_at body p.shared t environment next s) e.alt ≡ true → acts_or_stops (acts_or e.alt s (transition_at config.passes body p.shared t environment e.alt next s)).events ≡ true) (sym (its_status t.status running))
      (at_call config.passes body p.shared t environment e.alt next required (sym (mover_acts script config before r is e p t taken) ∙ acts)) taken.offered)

  -- each step of every run acts at such a call, or is a stop
  pub acts_at_calls_of_run : EveryStep script config (λ s. acts_at_calls script s ≡ true)
  acts_at_calls_of_run = every_step script config (λ s. acts_at_calls script s ≡ true) acts_at_call
