-- The law of calls, of a step: what a destructor and an exit function find as they are called, a key as it is deleted, and an exit as it ends the
-- process.
use Rattle.pct_names.proofs.Names.{All-from_recursion, AllByRecursion, ap, Bool, changed, cond, Config, Entry, Environment, environment_of}
use Rattle.pct_names.proofs.Names.{Event, false, false≢true, has_no_frame, has_valid_id, if_number, is_none, Key, key_at, key_place}
use Rattle.pct_names.proofs.Names.{key_with, List, moved, named_after, nat_eq, NextStatement, None, none-some, Option, option_map}
use Rattle.pct_names.proofs.Names.{own_after, Process, process_after, refl, Run, run, same_Some, Script, shared_after, Some, Status, Stmt}
use Rattle.pct_names.proofs.Names.{subst, sym, take, Thread, thread_at, Transition, transition_by, true, value_of, What, ℕ, ◌∙◌, ◌≡◌}
use Rattle.std.proofs.Common.{ap₂, eqb-true}
use Rattle.pct_model.specs.declared.event.What.TheVariants as what
use Rattle.pct_laws.specs.Calls.{IsCalled, EachIsCalled}
use Rattle.pct_laws.specs.Kept.{KeysKept}
use Rattle.pct_laws.specs.ThreadSteps.{ThreadStep}
use Rattle.pct_transition_cases.proofs.TransitionCases.{TransitionCase, fork_handler_called, destructor_called, key_made, key_deleted}
use Rattle.pct_transition_cases.proofs.TransitionCases.{process_ended_now, exit_function_called, process_ended}
use Rattle.pct_thread_invariants.proofs.lift.EveryProcess.{moves_of_run, process_taken}
use Rattle.pct_thread_invariants.proofs.lift.HandlerEvents.{of_each_phase}
use Rattle.pct_thread_invariants.proofs.lift.TakenSteps.{IsTaken}
use Rattle.pct_thread_invariants.proofs.lift.ThreadsAfter.{Moves, mover}
use Rattle.pct_ending_laws.proofs.KeyEvents.{found_on, new_place_free}
use Rattle.pct_thread_invariants.proofs.keys.KeyPlaces.{default_set}
use Rattle.pct_thread_invariants.proofs.keys.KeysOfProcesses.{keys_of_run}
use Rattle.pct_thread_invariants.proofs.lift.MovedThreads.{each_passing, EveryStep, step_of, case_of_step, every_step}

-- ---- keys

-- a key that is found by its number, and its destructor
named_key : (n f : ℕ) (found : Option Key) (key : Key) → if_number n found ≡ Some key → key.destructor ≡ Some f → found ≡ Some (record { number = n; destructor = Some f })
named_key n f None key is named = absurd (none-some key is)
named_key n f (Some k) key is named = by_test (nat_eq k.number n) refl is
  where
    by_test : (same : Bool) → nat_eq k.number n ≡ same → cond same (Some k) None ≡ Some key → Some k ≡ Some (record { number = n; destructor = Some f })
    by_test true same it = ap₂ (λ (number : ℕ) (destructor : Option ℕ). Some (record { number = number; destructor = destructor })) (eqb-true k.number n same) (ap (λ (x : Key). x.destructor) (same_Some k key it) ∙ named)
    by_test false same it = absurd (none-some key it)

-- a place without a key
no_key : (found : Option Key) → is_none found ≡ true → found ≡ None
no_key None none = refl
no_key (Some key) none = absurd (false≢true none)

-- ---- events of which the law asks nothing

-- whether the law asks nothing at the event
abbrev asks_nothing : What → Bool
asks_nothing (what.DtorRun pass key f v) = false
asks_nothing (what.KeyMade number) = false
asks_nothing (what.KeyGone number) = false
asks_nothing (what.ExitRun f) = false
asks_nothing (what.ProcessEnded n) = false
asks_nothing _ = true

-- then it comes with nothing
quiet_called : (s : ThreadStep) (w : What) → asks_nothing w ≡ true → IsCalled w s
quiet_called s (what.DtorRun pass key f v) quiet = absurd (false≢true quiet)
quiet_called s (what.KeyMade number) quiet = absurd (false≢true quiet)
quiet_called s (what.KeyGone number) quiet = absurd (false≢true quiet)
quiet_called s (what.ExitRun f) quiet = absurd (false≢true quiet)
quiet_called s (what.ProcessEnded n) quiet = absurd (false≢true quiet)
quiet_called s _ quiet = tt

-- ---- a transition

module _ (script : Script) (passes pid tid : ℕ) (earlier : List Event) (p : Process) (t : Thread) (environment : Environment) (kept : KeysKept script p.shared.keys) where
  -- the step of a transition of the thread
  abbrev step_by : Transition → ThreadStep
  step_by o = record { pid = pid; tid = tid; earlier = earlier; process = p; before = t; process_after = changed tid o p; after = named_after o.named (moved o t); events = o.events }

  -- so it is of each event of a transition
  case_called : {body : List Stmt} {next : NextStatement} {s : Status} {o : Transition} → t.status ≡ s → TransitionCase passes body p.shared t environment true next s o → AllByRecursion (λ w. IsCalled w (step_by o)) o.events
  unfolding thread_at own_after named_after shared_after process_after key_with
  case_called status_is (destructor_called next k f key none is named among) =
      (record { key = named_key k f (key_at p.shared.keys (key_place k)) key is named; value = refl; null = default_set t.specific.values (key_place k) 0 }, tt)
  case_called status_is (key_made frame result key destructor k among) = (no_key (key_at p.shared.keys (key_place k)) (new_place_free script p.shared.keys kept k (among refl)), tt)
  case_called status_is (key_deleted frame key some) =
      let k : ℕ = value_of p.shared.globals frame key in
      let on = found_on k (key_at p.shared.keys (key_place k)) some in
      (ap (option_map (λ (x : Key). x.number)) on.1 ∙ ap (λ (n : ℕ). Some n) on.2, tt)
  case_called status_is (exit_function_called next f functions is) = ((ap (take 1) is, refl), tt)
  case_called {o = o} status_is (fork_handler_called next at call is) = (of_each_phase (λ (w : What). IsCalled w (step_by o)) call.func tt tt tt at.phase, tt)
  case_called status_is (process_ended next v value_is no_functions) = (λ exiting. no_functions, tt)
  case_called status_is (process_ended_now frame v) = (λ exiting. absurd (false≢true (ap has_no_frame (sym status_is ∙ exiting))), tt)
  case_called {o = o} status_is _ = each_passing (λ w. IsCalled w (step_by o)) asks_nothing (quiet_called (step_by o)) o.events refl

-- ---- each step of a run

module _ (script : Script) (config : Config) where
  -- so it is of the step of an entry that moves a thread
  called_of_step : (before : List Entry) (r : Run) → run script config before ≡ Some r → (e : Entry) (p : Process) (t : Thread) → IsTaken script config r.world e p t → EachIsCalled (step_of script config r p e t)
  called_of_step before r is e p t taken =
      let o : Transition = transition_by script config r.world p t e.alt in
      let moves : Moves script config r.world p e t = moves_of_run script config before r is e p t taken in
      let live : has_valid_id e.tid t ≡ true = (mover script config r.world p e t moves).valid in
      let kept : KeysKept script p.shared.keys = (keys_of_run script config before r is e.pid p (process_taken script config before r is e p t taken)).keys in
      let called = case_called script config.passes e.pid e.tid r.events p t (environment_of config r.world p t.id) kept refl (case_of_step script config r.world p e t moves) in
      All-from_recursion (λ w. IsCalled w (step_of script config r p e t)) o.events
      (subst (λ (b : Bool). AllByRecursion (λ w. IsCalled w (record (step_of script config r p e t) { after = named_after o.named (cond b (moved o t) t) })) o.events) (sym live) called)

  -- what each event of a step finds and leaves
  pub each_is_called_of_run : EveryStep script config EachIsCalled
  each_is_called_of_run = every_step script config EachIsCalled called_of_step
