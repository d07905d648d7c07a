-- The law of processes holds of the events of every run.
use Rattle.pct_names.proofs.Names.{◌%◌, ◌++◌, [], and_from, and_parts, ap, arith, body_at, Bool, cond, Config, encode, Entry, Environment}
use Rattle.pct_names.proofs.Names.{environment_of, Event, event_of, false, false_from_ne_true, false≢true, is_none, is_some, List, list_any}
use Rattle.pct_names.proofs.Names.{map, mod_below, nat_eq, nat_lt, next_of, NextStatement, None, not, Option, or_from, or_left, or_parts}
use Rattle.pct_names.proofs.Names.{or_right, Process, refl, reverse, Run, run, Script, SharedState, Some, Status, Stmt, sym, syntax_of}
use Rattle.pct_names.proofs.Names.{Thread, Transition, transition_by, true, value_of, What, without_first, ℕ, ◌∙◌, ◌∷◌, ◌≡◌}
use Rattle.std.proofs.Common.{eq-eqb}
use Rattle.std.proofs.lemmas.Bool.{lt-ltb}
use Rattle.pct_model.specs.declared.event.What.TheVariants as what
use Rattle.pct_model.specs.declared.process.Child.{Child}
use Rattle.pct_model.specs.declared.state.Status.TheVariants as status
use Rattle.pct_laws.specs.ProcessEnds.{exit_value, status_after, end_status}
use Rattle.pct_laws.specs.ThreadSummary.{summary_of}
use Rattle.pct_laws.specs.KnownThreads.{is_in}
use Rattle.pct_laws.specs.ProcessLaw.{is_stop}
use Rattle.pct_laws.specs.Each.{each}
use Rattle.pct_laws.specs.ProcessLaw.{is_status_of, may_change, changes_allow, allows}
use Rattle.pct_transition_cases.proofs.CaseOfTransition.{case_of}
use Rattle.pct_transition_cases.proofs.TransitionCases.{TransitionCase, main_returned, join_ended, fork_handler_called, process_forked}
use Rattle.pct_transition_cases.proofs.TransitionCases.{child_reaped, last_ended, last_ended_with_keys, process_exited, process_ended_now}
use Rattle.pct_transition_cases.proofs.TransitionCases.{process_ended}
use Rattle.pct_thread_invariants.proofs.exits.PlainFunctions.{is_plain_next}
use Rattle.pct_thread_invariants.proofs.lift.CreatedThreads.{gives_next}
use Rattle.pct_thread_invariants.proofs.lift.EveryProcess.{process_taken}
use Rattle.pct_thread_invariants.proofs.lift.HandlerEvents.{of_each_phase}
use Rattle.pct_thread_invariants.proofs.lift.TakenSteps.{IsTaken, with_step, AfterEveryRun, every_run}
use Rattle.pct_process_laws.proofs.processes.ProcessEnds.{live_of_run}
use Rattle.pct_process_laws.proofs.processes.ProcessEnds.{exit_value_of_run}
use Rattle.pct_process_laws.proofs.processes.MovingThreads.{joins_known, exits_plain, last_has_none}
use Rattle.pct_process_laws.proofs.processes.MadeProcesses.{next_unmade, known_by}
use Rattle.pct_process_laws.proofs.processes.ReapedChildren.{reaps_child}
use Rattle.pct_process_laws.proofs.processes.StoppedRuns.{none_later, ends_process, is_closing, closes_last, running_of_run}

-- ---- what the law asks of an event by its kind

-- each event of a run may change what it changes, by those before it
abbrev pub ChangesLaw : List Event → Type 0
ChangesLaw events = each changes_allow events ≡ true

-- a process without an exit value has none after an event of another kind
kept_value : (here : Bool) (k : Option ℕ) → cond here k k ≡ k
kept_value true k = refl
kept_value false k = refl

none_is : (k : Option ℕ) → is_some k ≡ false → is_none k ≡ true
none_is None none = refl
none_is (Some v) none = absurd (false≢true (sym none))

module _ (passes : ℕ) (body : List Stmt) (shared : SharedState) (t : Thread) (environment : Environment) (e : Entry) (earlier : List Event) where
  -- what is known of a thread with a status, at a statement, and of the events before its transition
  record IsReady (next : NextStatement) (s : Status) : Type 0 where
    -- the next process was not made, and has no event
    forks : (new : ℕ) → environment.family.new_pid ≡ Some new → may_change (what.Forked new) e.pid e.tid earlier ≡ true
    -- a thread that is joined is known, and another one
    joins : (id v : ℕ) (target : Thread) → s ≡ status.Joining id → environment.named id ≡ Some target → may_change (what.Joined id v) e.pid e.tid earlier ≡ true
    -- a child that has ended may be reaped
    reaps : (pid n : ℕ) (child : Child) → environment.family.child pid ≡ Some child → child.ended ≡ Some n → may_change (what.Reaped pid n) e.pid e.tid earlier ≡ true
    -- the exit value of the process is the reported one; it has none as its last thread ends
    value : exit_value e.pid earlier ≡ shared.exit_value
    last : environment.is_last ≡ true → s ≡ status.Ending → is_some shared.exit_value ≡ false
    -- a thread that exits runs plain functions alone
    plain : s ≡ status.Running → (summary_of e.pid e.tid earlier).exiting ≡ true → is_plain_next next ≡ true

  -- a status has eight bits
  below_256 : (n : ℕ) → nat_lt (n % 256) 256 ≡ true
  below_256 n = lt-ltb _ _ (mod_below n 256 (omega arith))

  -- exit has not begun, where the process has no exit value
  not_exited : {next : NextStatement} {s : Status} → IsReady next s → is_some shared.exit_value ≡ false → is_none (exit_value e.pid earlier) ≡ true
  not_exited ready none = none_is (exit_value e.pid earlier) (ap (λ (k : Option ℕ). is_some k) ready.value ∙ none)

  -- the events of a transition
  case_changes : {next : NextStatement} {s : Status} {o : Transition} → TransitionCase passes body shared t environment true next s o → IsReady next s → ChangesLaw earlier → ChangesLaw (map (event_of e) (reverse o.events) ++ earlier)
  unfolding encode syntax_of
  case_changes (main_returned frame s v returns is none) ready law = and_from _ _ (not_exited ready none) law
  case_changes (process_exited frame v none) ready law = and_from _ _ (not_exited ready none) law
  case_changes (last_ended next no_handlers is_last no_keys left) ready law =
      and_from _ _ (ap (λ (k : Option ℕ). is_none k) (kept_value (nat_eq e.pid e.pid) (exit_value e.pid earlier)) ∙ not_exited ready (ready.last is_last refl)) law
  case_changes (last_ended_with_keys next n no_handlers is_last some limit due left) ready law =
      let k : Option ℕ = exit_value e.pid earlier in
      and_from _ _ (ap (λ (k : Option ℕ). is_none k) (kept_value (nat_eq e.pid e.pid) (cond (nat_eq e.pid e.pid) k k) ∙ kept_value (nat_eq e.pid e.pid) k) ∙ not_exited ready (ready.last is_last refl)) law
  case_changes (process_forked next at new prepares is) ready law = and_from _ _ (ready.forks new is) law
  case_changes (join_ended frame operand d id v target is ended) ready law = and_from _ _ (ready.joins id v target refl is) law
  case_changes (child_reaped frame result d operand pid n child is ended) ready law = and_from _ _ (ready.reaps pid n child is ended) law
  case_changes (process_ended_now frame v) ready law =
      let alive : (summary_of e.pid e.tid earlier).exiting ≡ false = false_from_ne_true (summary_of e.pid e.tid earlier).exiting (λ exits. false≢true (ready.plain refl exits)) in
      and_from _ _ (and_from _ _ (below_256 (value_of shared.globals frame v)) (or_left (not (summary_of e.pid e.tid earlier).exiting) _ (ap not alive))) law
  case_changes (process_ended next v is none) ready law =
      and_from _ _ (and_from _ _ (below_256 v) (or_right (not (summary_of e.pid e.tid earlier).exiting) _ (ap (is_status_of (v % 256)) (ready.value ∙ is) ∙ eq-eqb (v % 256) (v % 256) refl))) law
  case_changes (fork_handler_called next at call is) ready law = of_each_phase (λ (w : What). ChangesLaw (event_of e w ∷ earlier)) call.func law law law at.phase
  case_changes _ ready law = assumption

-- ---- the events of a step

-- events of which none closes have neither a stop nor the end of the process
none_stops : (added : List What) → list_any is_closing added ≡ false → list_any is_stop added ≡ false
none_stops [] none = refl
none_stops (w ∷ added) none =
    let parts = or_parts (is_closing w) (list_any is_closing added) none in
    or_from (is_stop w) (list_any is_stop added) (or_parts (is_stop w) (ends_process w) parts.0).0 (none_stops added parts.1)

-- and they leave the status of the process as it was
kept_status : (here : Bool) (w : What) (k : Option ℕ) → ends_process w ≡ false → cond here (status_after w k) k ≡ k
kept_status true (what.ProcessEnded n) k none = absurd (false≢true (sym none))
kept_status true _ k none = refl
kept_status false w k none = refl

same_status : (e : Entry) (earlier : List Event) (added : List What) → list_any is_closing added ≡ false → end_status e.pid (map (event_of e) added ++ earlier) ≡ end_status e.pid earlier
same_status e earlier [] none = refl
same_status e earlier (w ∷ added) none =
    let parts = or_parts (is_closing w) (list_any is_closing added) none in
    kept_status (is_in e.pid (event_of e w)) w (end_status e.pid (map (event_of e) added ++ earlier)) (or_parts (is_stop w) (ends_process w) parts.0).1 ∙ same_status e earlier added parts.1

-- nor has all but the newest of them
but_newest : (added : List What) → list_any is_closing added ≡ false → list_any is_closing (without_first added) ≡ false
but_newest [] none = refl
but_newest (w ∷ added) none = (or_parts (is_closing w) (list_any is_closing added) none).1

module _ (script : Script) (config : Config) where
  module _ (before : List Entry) (r : Run) (is : run script config before ≡ Some r) (e : Entry) (p : Process) (t : Thread) (taken : IsTaken script config r.world e p t) where
    abbrev o : Transition
    o = transition_by script config r.world p t e.alt

    -- all this is known of the thread of an entry
    is_ready : IsReady config.passes (body_at script t.frames) p.shared t (environment_of config r.world p t.id) e r.events (next_of script t.frames) t.status
    unfolding environment_of
    is_ready = record {
      forks = λ new next. let made = next_unmade script config before r is e p t taken new (gives_next script config r.world p t e.alt taken.offered new next) in and_from _ _ (ap not made.0) (ap not made.1);
      joins = λ id v target s named. joins_known script config before r is e p t taken id target s named v;
      reaps = reaps_child script config before r is e p t taken;
      value = sym (exit_value_of_run script config before r is e.pid p (process_taken script config before r is e p t taken));
      last = last_has_none script config before r is e p t taken;
      plain = λ runs exits. exits_plain script config before r is e p t taken runs exits;
    }

    -- each event of a step may change what it changes
    changes_later : ChangesLaw r.events → ChangesLaw (with_step e o r).events
    changes_later law =
        let environment : Environment = environment_of config r.world p t.id in
        case_changes config.passes (body_at script t.frames) p.shared t environment e r.events
        (case_of config.passes (body_at script t.frames) p.shared t environment true e.alt (next_of script t.frames) t.status (λ known. taken.offered))
        is_ready law

    -- the law after the events of a step
    law_later : (added : List What) → list_any is_closing (without_first added) ≡ false → ChangesLaw (map (event_of e) added ++ r.events) → each allows r.events ≡ true → each allows (map (event_of e) added ++ r.events) ≡ true
    law_later [] none changes law = law
    law_later (w ∷ added) none changes law =
        let parts = and_parts (may_change w e.pid e.tid (map (event_of e) added ++ r.events)) _ changes in
        and_from _ _ (and_from _ _ (and_from _ _ (and_from _ _ (ap not (none_later is_stop e added r.events (none_stops added none) (running_of_run script config before r is taken.running)))
        (ap (λ (status : Option ℕ). is_none status) (same_status e r.events added none) ∙ live_of_run script config before r is e p t taken)) (known_by script config before r is e p t taken added)) parts.0)
        (law_later added (but_newest added none) parts.1 law)

  -- ---- every run

  -- each event may change what it changes
  pub changes_of_run : AfterEveryRun script config (λ r. ChangesLaw r.events)
  changes_of_run = every_run script config (λ r. ChangesLaw r.events) (λ before r is e p t taken law. changes_later before r is e p t taken law) (λ some. refl)

  -- the law of processes
  pub processes_of_run : AfterEveryRun script config (λ r. each allows r.events ≡ true)
  processes_of_run = every_run script config (λ r. each allows r.events ≡ true) (λ before r is e p t taken law.
      law_later before r is e p t taken (reverse (transition_by script config r.world p t e.alt).events) (closes_last script config r.world p t e.alt) (changes_later before r is e p t taken (changes_of_run before r is)) law) (λ some. refl)
