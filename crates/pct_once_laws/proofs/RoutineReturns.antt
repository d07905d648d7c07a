-- The law of pthread_once: a call that does not call the init routine of its control returns after one return of it. By the choice table a
-- thread has no choice at a control that is busy.
use Rattle.pct_names.proofs.Names.{◌&&◌, ◌||◌, [], act_if, acts_on_request, acts_or, Alt, and_parts, ap, body_at, Bool, Busy, calls_once}
use Rattle.pct_names.proofs.Names.{choices_at, cond, cond_both, Config, Entry, Environment, environment_of, Event, false, false≢true}
use Rattle.pct_names.proofs.Names.{first_row, Frame, Fresh, called_kind, is_asynchronous, is_busy, is_deliverable, is_empty}
use Rattle.pct_names.proofs.Names.{is_forbidden_in_child, List, nat_eq, next_of, NextStatement, None, not, offers, once_at, OnceState}
use Rattle.pct_names.proofs.Names.{Option, option_map_or, or-true, Process, refl, Run, run, running_choices, running_rows, runs, Script}
use Rattle.pct_names.proofs.Names.{SharedState, Some, StatementIn, Status, Stmt, stop_at, stops_or, subst, suc, sym, Thread, transition_at}
use Rattle.pct_names.proofs.Names.{true, What, Why, ℕ, ◌∙◌, ◌∷◌, ◌≡◌}
use Rattle.std.proofs.Common.{eq-eqb, eqb-true}
use Rattle.std.proofs.lemmas.Bool.{true≢false}
use Rattle.pct_model.specs.declared.event.What.TheVariants as what
use Rattle.pct_model.specs.declared.schedule.Alt.TheVariants as alt
use Rattle.pct_model.specs.declared.state.OnceState.TheVariants.{Done}
use Rattle.pct_model.specs.declared.state.Status.TheVariants as status
use Rattle.pct_model.specs.declared.statement.Stmt.TheVariants as statement
use Rattle.pct_laws.specs.CancelLaw.{is_running}
use Rattle.pct_laws.specs.Each.{each}
use Rattle.pct_laws.specs.KnownThreads.{is_in, makes_process}
use Rattle.pct_laws.specs.OnceControls.{given_up, once_after, once_of, returns_after, routine_returns}
use Rattle.pct_laws.specs.OnceLaw.{allows, may_call, may_come, may_return, next_control, OnceLaw, returns_after_routine}
use Rattle.pct_laws.specs.ThreadSteps.{ThreadStep}
use Rattle.pct_transition_cases.proofs.CaseOfTransition.{no_stops}
use Rattle.pct_thread_invariants.proofs.lift.EveryProcess.{process_taken}
use Rattle.pct_thread_invariants.proofs.lift.MovedThreads.{each_step, every_step, step_of}
use Rattle.pct_thread_invariants.proofs.lift.TakenSteps.{IsTaken}
use Rattle.pct_once_laws.proofs.OncesOfRun.{called_of_run, onces_kept}

-- ---- events

-- the number of returns of the routine of a control in this state
abbrev returns_in : OnceState → ℕ
returns_in Done = 1
returns_in _ = 0

given_up_same : (tid : ℕ) (s : OnceState) → returns_in (given_up tid s) ≡ returns_in s
given_up_same tid (Busy id) = cond_both (nat_eq id tid) Fresh (Busy id) (λ (s : OnceState). returns_in s ≡ 0) (λ same. refl) (λ differs. refl)
given_up_same tid _ = refl

called_same : (s : OnceState) → may_call s ≡ true → returns_in s ≡ 0
called_same Fresh may = refl
called_same _ may = absurd (false≢true may)

returned_same : (tid : ℕ) (s : OnceState) → may_return tid s ≡ true → returns_in s ≡ 0
returned_same tid (Busy id) may = refl
returned_same tid _ may = absurd (false≢true may)

-- an event that may come, of the process
own_returns : (o tid : ℕ) (w : What) (state : ℕ → OnceState) (n : ℕ) → may_come w tid state ≡ true → n ≡ returns_in (state o) → returns_after o w n ≡ returns_in (once_after o tid w (state o))
own_returns o tid (what.OnceCalled c) state n may is =
    cond_both (nat_eq c o) (Busy tid) (state o) (λ (s : OnceState). n ≡ returns_in s) (λ same. is ∙ called_same (state o) (subst (λ (i : ℕ). may_call (state i) ≡ true) (eqb-true c o same) may)) (λ differs. is)
own_returns o tid (what.OnceDone c) state n may is = by (nat_eq c o) refl
  where
    by : (same : Bool) → nat_eq c o ≡ same → cond same (suc n) n ≡ returns_in (cond same Done (state o))
    by true same = ap suc (is ∙ returned_same tid (state o) (subst (λ (i : ℕ). may_return tid (state i) ≡ true) (eqb-true c o same) may))
    by false differs = is
own_returns o tid (what.EndingExit v) state n may is = is ∙ sym (given_up_same tid (state o))
own_returns o tid what.EndingCanceled state n may is = is ∙ sym (given_up_same tid (state o))
own_returns o tid (what.EndingInWait c m) state n may is = is ∙ sym (given_up_same tid (state o))
own_returns o tid _ state n may is = is

-- where each event may come after those before it, the routine of a control that is done has returned once, and no other one has
returns_of : (events : List Event) → each allows events ≡ true → (pid o : ℕ) → routine_returns pid o events ≡ returns_in (once_of pid o events)
returns_of [] law pid o = refl
returns_of (e ∷ earlier) law pid o = by (is_in pid e) (makes_process pid e.what) refl (λ id. returns_of earlier (and_parts (allows e earlier) (each allows earlier) law).1 id o)
  where
    by : (own makes : Bool) → is_in pid e ≡ own → ((id : ℕ) → routine_returns id o earlier ≡ returns_in (once_of id o earlier))
        → cond own (returns_after o e.what (routine_returns pid o earlier)) (cond makes (routine_returns e.pid o earlier) (routine_returns pid o earlier))
        ≡ returns_in (cond own (once_after o e.tid e.what (once_of pid o earlier)) (cond makes (once_of e.pid o earlier) (once_of pid o earlier)))
    by true makes own before =
        own_returns o e.tid e.what (λ n. once_of pid n earlier) (routine_returns pid o earlier)
        (subst (λ (id : ℕ). may_come e.what e.tid (λ n. once_of id n earlier) ≡ true) (eqb-true e.pid pid own) (and_parts (allows e earlier) (each allows earlier) law).0) (before pid)
    by false true other before = before e.pid
    by false false other before = before pid

-- ---- the tables

module _ (passes : ℕ) (body : List Stmt) (shared : SharedState) (t : Thread) (environment : Environment) (choice : Alt) where
  -- a thread has no choice at a control that is busy, unless the call is a stop
  none_if_busy : (frame : Frame) (c f : ℕ) → is_busy (once_at shared.onces c) ≡ true → is_forbidden_in_child body shared frame (statement.CallOnce c f) ≡ false → is_asynchronous t.state t.mode && true ≡ false
      → offers (choices_at body shared t environment (StatementIn frame (statement.CallOnce c f)) status.Running) choice ≡ false
  unfolding choices_at running_choices running_rows called_kind
  none_if_busy frame c f = by (is_forbidden_in_child body shared frame (statement.CallOnce c f)) (is_asynchronous t.state t.mode) (is_deliverable t.state t.pending) (is_busy (once_at shared.onces c))
    where
      by : (forbidden asynchronous deliverable busy : Bool) → busy ≡ true → forbidden ≡ false → asynchronous && true ≡ false
          → offers (first_row ((forbidden, alt.Go ∷ []) ∷ (asynchronous, alt.Go ∷ act_if t.pending) ∷ (deliverable && false, alt.Act 0 ∷ []) ∷ (deliverable && false, alt.Go ∷ alt.Act 0 ∷ []) ∷ (busy, []) ∷ []) (alt.Go ∷ [])) choice ≡ false
      by true _ _ _ is allowed deferred = absurd (true≢false allowed)
      by false true _ _ is allowed deferred = absurd (true≢false deferred)
      by false false true true is allowed deferred = refl
      by false false false true is allowed deferred = refl
      by false false deliverable false is allowed deferred = absurd (false≢true is)

  module _ (returned : ℕ → Bool) (once : (c : ℕ) → once_at shared.onces c ≡ Done → returned c ≡ true) where
    -- a call of pthread_once that is no stop
    call_returns : (frame : Frame) (c f : ℕ) → offers (choices_at body shared t environment (StatementIn frame (statement.CallOnce c f)) status.Running) choice ≡ true
        → (stop : Option Why) → stop_at body shared t environment frame (statement.CallOnce c f) ≡ stop → (state : OnceState) → once_at shared.onces c ≡ state
        → (not (is_empty (stops_or stop (calls_once (suc frame.pc) c f t.id state)).events) || returned c) ≡ true
    unfolding calls_once
    call_returns frame c f offered (Some why) stops state is = refl
    call_returns frame c f offered None goes Fresh is = refl
    call_returns frame c f offered None goes Done is = once c is
    call_returns frame c f offered None goes (Busy id) is =
        let parts = no_stops body shared t environment frame (statement.CallOnce c f) goes in
        absurd (true≢false (sym offered ∙ none_if_busy frame c f (ap is_busy is) parts.0 parts.1.0))

    -- a running thread that goes on from pthread_once without an event does so at a control that is done
    returns : (next : NextStatement) (s : Status) → offers (choices_at body shared t environment next s) choice ≡ true
        → (not (is_running s) || not (is_empty (acts_or choice s (transition_at passes body shared t environment choice next s)).events) || option_map_or returned (next_control next) true) ≡ true
    unfolding transition_at acts_on_request runs
    returns (StatementIn frame (statement.CallOnce c f)) status.Running offered = by choice
      where
        by : (a : Alt) → (not (is_empty (acts_or a status.Running (stops_or (stop_at body shared t environment frame (statement.CallOnce c f)) (calls_once (suc frame.pc) c f t.id (once_at shared.onces c)))).events) || returned c) ≡ true
        by (alt.Act n) = refl
        by _ = call_returns frame c f offered (stop_at body shared t environment frame (statement.CallOnce c f)) refl (once_at shared.onces c) refl
    returns next status.Running offered = or-true _
    returns next s offered = refl

-- ---- each step of a run

module _ (script : Script) (config : Config) where
  returns_of_step : (before : List Entry) (r : Run) → run script config before ≡ Some r → (e : Entry) (p : Process) (t : Thread) → IsTaken script config r.world e p t → returns_after_routine script (step_of script config r p e t) ≡ true
  returns_of_step before r is e p t taken =
      let kept = onces_kept script config before r is e.pid p (process_taken script config before r is e p t taken) in
      returns config.passes (body_at script t.frames) p.shared t (environment_of config r.world p t.id) e.alt (λ c. nat_eq (routine_returns e.pid c r.events) 1)
      (λ c done. eq-eqb (routine_returns e.pid c r.events) 1 (returns_of r.events (called_of_run script config before r is) e.pid c ∙ ap returns_in (sym (kept.states c) ∙ done)))
      (next_of script t.frames) t.status taken.offered

  -- every run keeps the law of pthread_once
  pub once_law : (entries : List Entry) (r : Run) → run script config entries ≡ Some r → OnceLaw script config entries r.events
  once_law entries r is =
      let IsLawful : ThreadStep → Type 0 = λ s. returns_after_routine script s ≡ true in
      record { called = called_of_run script config entries r is; returned = each_step script config IsLawful (every_step script config IsLawful returns_of_step) entries }
