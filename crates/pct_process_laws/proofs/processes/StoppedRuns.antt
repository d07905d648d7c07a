-- A run that was not stopped has no event of a stop; and of the events of a step only the last one stops the run or ends the process.
use Rattle.pct_names.proofs.Names.{◌++◌, [], after_transition, Alt, ap, body_at, Bool, Config, Entry, Environment, environment_of, Event}
use Rattle.pct_names.proofs.Names.{event_of, false, false≢true, List, list_any, list_any-append, map, next_of, NextStatement, None}
use Rattle.pct_names.proofs.Names.{none-some, Option, or_from, Process, refl, reverse, Run, Script, SharedState, Status, Stmt, stop_after}
use Rattle.pct_names.proofs.Names.{sym, Thread, Transition, transition_by, true, What, Why, without_first, World, ◌||◌, ℕ, ◌∙◌, ◌∷◌, ◌≡◌}
use Rattle.pct_model.specs.declared.event.What.TheVariants as what
use Rattle.pct_laws.specs.ProcessLaw.{is_stop}
use Rattle.pct_transition_cases.proofs.CaseOfTransition.{case_of}
use Rattle.pct_transition_cases.proofs.TransitionCases.{TransitionCase, stopped, fork_handler_called}
use Rattle.pct_thread_invariants.proofs.lift.HandlerEvents.{of_each_phase}
use Rattle.pct_thread_invariants.proofs.lift.TakenSteps.{AfterEveryRun, every_run}

-- ---- the events of a step

-- a test of events, for the events that a step adds
pub any_added : (test : What → Bool) (e : Entry) (added : List What) → list_any (λ x. test x.what) (map (event_of e) added) ≡ list_any test added
any_added test e [] = refl
any_added test e (w ∷ added) = ap (λ (b : Bool). test w || b) (any_added test e added)

-- no event before those of a step passes a test, and none of them does
pub none_later : (test : What → Bool) (e : Entry) (added : List What) (earlier : List Event) → list_any test added ≡ false → list_any (λ x. test x.what) earlier ≡ false → list_any (λ x. test x.what) (map (event_of e) added ++ earlier) ≡ false
none_later test e added earlier none before =
    list_any-append (λ (x : Event). test x.what) (map (event_of e) added) earlier
    ∙ or_from (list_any (λ x. test x.what) (map (event_of e) added)) (list_any (λ x. test x.what) earlier) (any_added test e added ∙ none) before

-- the event is the end of a process
abbrev pub ends_process : What → Bool
ends_process (what.ProcessEnded n) = true
ends_process _ = false

-- the event stops the run, or ends its process
abbrev pub is_closing : What → Bool
is_closing w = is_stop w || ends_process w

-- ---- the table

module _ (passes : ℕ) (body : List Stmt) (shared : SharedState) (t : Thread) (environment : Environment) (offered : Bool) where
  -- a transition that leads to no stop has no event of one
  case_stops : {next : NextStatement} {s : Status} {o : Transition} → TransitionCase passes body shared t environment offered next s o → stop_after o.stop None ≡ None → list_any is_stop (reverse o.events) ≡ false
  unfolding stop_after
  case_stops (stopped frame s why) none = absurd (none-some why (sym none))
  case_stops (fork_handler_called next at call is) none = of_each_phase (λ (w : What). list_any is_stop (w ∷ []) ≡ false) call.func refl refl refl at.phase
  case_stops _ none = refl

  -- only its last event stops the run or ends the process
  case_closes : {next : NextStatement} {s : Status} {o : Transition} → TransitionCase passes body shared t environment offered next s o → list_any is_closing (without_first (reverse o.events)) ≡ false
  case_closes (fork_handler_called next at call is) = refl
  case_closes _ = refl

module _ (script : Script) (config : Config) (w : World) (p : Process) (t : Thread) (choice : Alt) where
  abbrev o : Transition
  o = transition_by script config w p t choice

  -- the transition of a thread, by case
  its_case : TransitionCase config.passes (body_at script t.frames) p.shared t (environment_of config w p t.id) false (next_of script t.frames) t.status o
  its_case = case_of config.passes (body_at script t.frames) p.shared t (environment_of config w p t.id) false choice (next_of script t.frames) t.status (λ known. absurd (false≢true known))

  -- it has no event of a stop, if it leads to none
  stops : stop_after o.stop None ≡ None → list_any is_stop (reverse o.events) ≡ false
  stops = case_stops config.passes (body_at script t.frames) p.shared t (environment_of config w p t.id) false its_case

  -- only the last event of a step stops the run or ends the process
  pub closes_last : list_any is_closing (without_first (reverse o.events)) ≡ false
  closes_last = case_closes config.passes (body_at script t.frames) p.shared t (environment_of config w p t.id) false its_case

-- ---- every run

-- no event of a stop, where the run was not stopped
abbrev NoStop : Run → Type 0
NoStop r = r.world.stop ≡ None → list_any (λ e. is_stop e.what) r.events ≡ false

-- after every run that was not stopped
pub running_of_run : (script : Script) (config : Config) → AfterEveryRun script config NoStop
unfolding after_transition
running_of_run script config =
    every_run script config NoStop (λ before r is e p t taken none later.
    let o : Transition = transition_by script config r.world p t e.alt in
    none_later is_stop e (reverse o.events) r.events (stops script config r.world p t e.alt (ap (λ (stop : Option Why). stop_after o.stop stop) (sym taken.running) ∙ later)) (none taken.running)) (λ some none. refl)
