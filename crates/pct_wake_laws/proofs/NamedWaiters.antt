-- A signal, one that is handed on, and a broadcast name those that wait.
use Rattle.pct_names.proofs.Names.{◌<◌, [], acts_on_request, acts_or, Alt, and_from, ap, body_at, Bool, by_slot, called_kind, choices_at}
use Rattle.pct_names.proofs.Names.{cond, Config, count_by, Entry, Environment, environment_of, Frame, length, List, list_all, list_any}
use Rattle.pct_names.proofs.Names.{nat_eq, NextStatement, None, offers, Option, pick_or_go, Process, refl, Run, run, runs, Script}
use Rattle.pct_names.proofs.Names.{SharedState, signals_by, Some, StatementIn, Status, Stmt, stop_at, stops_or, subst₂, suc, sym, Thread}
use Rattle.pct_names.proofs.Names.{Transition, transition_at, true, Waiter, waiters_among, What, Why, ℕ, ◌∙◌, ◌∷◌, ◌≡◌}
use Rattle.std.proofs.Common.{eq-eqb}
use Rattle.pct_model.specs.declared.event.What.TheVariants as what
use Rattle.pct_model.specs.declared.schedule.Alt.TheVariants as alt
use Rattle.pct_model.specs.declared.state.Status.TheVariants as status
use Rattle.pct_model.specs.declared.statement.Stmt.TheVariants as statement
use Rattle.pct_laws.specs.ThreadSteps.{ThreadStep}
use Rattle.pct_laws.specs.WakeLaw.{is_waiter, names_waiters, waits_with_id}
use Rattle.pct_transition_cases.proofs.TransitionCases.{TransitionCase, signal_handed_on, signal_sent, signal_lost, broadcast_sent}
use Rattle.pct_transition_cases.proofs.TransitionCases.{fork_handler_called}
use Rattle.pct_thread_invariants.proofs.lift.EveryProcess.{moves_of_run}
use Rattle.pct_thread_invariants.proofs.lift.HandlerEvents.{of_each_phase}
use Rattle.pct_thread_invariants.proofs.lift.MovedThreads.{EveryStep, step_of, case_of_step, every_step}
use Rattle.pct_thread_invariants.proofs.lift.TakenSteps.{IsTaken}
use Rattle.pct_thread_invariants.proofs.lift.ThreadsAfter.{Moves}
use Rattle.pct_wake_laws.proofs.HandedOnSignals.{sees}
use Rattle.pct_wake_laws.proofs.OwnChoices.{none_picked, own_choices, picked}
use Rattle.pct_wake_laws.proofs.SeenWaiters.{none_seen, same_waiter, some_waits, waits_seen}
use Rattle.pct_wake_laws.proofs.WaitingThreads.{count_waiting}

module _ (slots passes : ℕ) (body : List Stmt) (shared : SharedState) (threads : List Thread) (t : Thread) (environment : Environment)
    (some : 0 < slots) (waiting : (c : ℕ) → environment.waiters c ≡ waiters_among c (by_slot slots threads)) where
  -- the events name those of the threads that wait
  abbrev Named : List What → Type 0
  Named events = list_all (names_waiters threads) events ≡ true

  waits : (c id : ℕ) → list_any (λ (w : Waiter). nat_eq id w.id) (environment.waiters c) ≡ true → waits_with_id c id threads ≡ true
  waits c id among = waits_seen slots c threads some id (ap (list_any (λ (w : Waiter). nat_eq id w.id)) (sym (waiting c)) ∙ among)

  -- ---- pthread_cond_signal

  one_named : (c u : ℕ) → waits_with_id c u threads ≡ true → Named (what.Signalled c u ∷ [])
  one_named c u is = and_from (names_waiters threads (what.Signalled c u)) true (ap (λ (any : Bool). cond any (waits_with_id c u threads) (nat_eq u 0)) (some_waits c u threads is) ∙ is) refl

  none_named : (c : ℕ) → environment.waiters c ≡ [] → Named (what.Signalled c 0 ∷ [])
  none_named c none = and_from (names_waiters threads (what.Signalled c 0)) true (ap (λ (any : Bool). cond any (waits_with_id c 0 threads) (nat_eq 0 0)) (none_seen slots c threads some (sym (waiting c) ∙ none))) refl

  by_choice : (choice : Alt) (frame : Frame) (c : ℕ) → offers (pick_or_go (environment.waiters c)) choice ≡ true → Named (signals_by choice (suc frame.pc) c).events
  unfolding signals_by
  by_choice (alt.Pick u) frame c offered = one_named c u (waits c u (picked u (environment.waiters c) offered))
  by_choice alt.Go frame c offered = none_named c (none_picked (environment.waiters c) offered)
  by_choice _ frame c offered = refl

  unless_stopped : (choice : Alt) (frame : Frame) (c : ℕ) → offers (choices_at body shared t environment (StatementIn frame (statement.Signal c)) status.Running) choice ≡ true
      → (stop : Option Why) → stop_at body shared t environment frame (statement.Signal c) ≡ stop → Named (stops_or stop (signals_by choice (suc frame.pc) c)).events
  unfolding called_kind
  unless_stopped choice frame c offered (Some why) is = refl
  unless_stopped choice frame c offered None is = by_choice choice frame c (own_choices body shared t environment choice frame (statement.Signal c) refl refl is offered)

  at_signal : (choice : Alt) (frame : Frame) (c : ℕ) → offers (choices_at body shared t environment (StatementIn frame (statement.Signal c)) status.Running) choice ≡ true
      → Named (acts_or choice status.Running (transition_at passes body shared t environment choice (StatementIn frame (statement.Signal c)) status.Running)).events
  unfolding transition_at acts_on_request runs
  at_signal (alt.Act n) frame c offered = refl
  at_signal choice frame c offered = unless_stopped choice frame c offered (stop_at body shared t environment frame (statement.Signal c)) refl

  -- ---- any transition

  case_named : {next : NextStatement} {s : Status} {o : Transition} → TransitionCase passes body shared t environment true next s o
      → ((frame : Frame) (c : ℕ) → next ≡ StatementIn frame (statement.Signal c) → s ≡ status.Running → Named o.events) → Named o.events
  case_named (signal_handed_on next c m u asked among) signals = and_from (waits_with_id c u threads) true (waits c u (among refl)) refl
  case_named (signal_sent frame c u among) signals = signals frame c refl refl
  case_named (signal_lost frame c) signals = signals frame c refl refl
  case_named (broadcast_sent frame c) signals =
      let n : ℕ = length (environment.waiters c) in
      and_from (names_waiters threads (what.BroadcastTo c n)) true
      (eq-eqb n (count_by (is_waiter c) threads) (ap (λ (waiters : List Waiter). length waiters) (waiting c) ∙ count_waiting slots c threads some ∙ ap (λ (is : Thread → Bool). count_by is threads) (same_waiter c))) refl
  case_named (fork_handler_called next at call is) signals = of_each_phase (λ (w : What). Named (w ∷ [])) call.func refl refl refl at.phase
  case_named _ signals = refl

-- ---- each step of a run

module _ (script : Script) (config : Config) where
  -- the events of the step name those that wait
  abbrev NamesWaiters : ThreadStep → Type 0
  NamesWaiters s = list_all (names_waiters s.process.threads) s.events ≡ true

  named_of_step : (before : List Entry) (r : Run) → run script config before ≡ Some r → (e : Entry) (p : Process) (t : Thread) → IsTaken script config r.world e p t → NamesWaiters (step_of script config r p e t)
  named_of_step before r is e p t taken =
      let body : List Stmt = body_at script t.frames in
      let environment : Environment = environment_of config r.world p t.id in
      let moves : Moves script config r.world p e t = moves_of_run script config before r is e p t taken in
      case_named config.slots config.passes body p.shared p.threads t environment moves.some (sees config r.world p t.id) (case_of_step script config r.world p e t moves) (λ frame c at running.
      subst₂ (λ (next : NextStatement) (s : Status). offers (choices_at body p.shared t environment next s) e.alt ≡ true → list_all (names_waiters p.threads) (acts_or e.alt s (transition_at config.passes body p.shared t environment e.alt next s)).events ≡ true) (sym at) (sym running)
      (at_signal config.slots config.passes body p.shared p.threads t environment moves.some (sees config r.world p t.id) e.alt frame c) taken.offered)

  -- each step of a run
  pub named_of_run : EveryStep script config NamesWaiters
  named_of_run = every_step script config NamesWaiters named_of_step
