-- What a step makes of the state that its process shares; that it takes a semaphore only where its count is above 0, and that the time of a
-- wait for one expires only where it is 0.
use Rattle.pct_names.proofs.Names.{◌++◌, [], abandoned, acts_on_request, acts_or, Alt, and_from, ap, arith, body_at, Bool, Busy, cond}
use Rattle.pct_names.proofs.Names.{Config, Dest, Entry, Environment, environment_of, false, ForkHandlers, Frame, goes_on, length, List}
use Rattle.pct_names.proofs.Names.{list_all, map, MAX_FORK_HANDLERS, may_register, nat_eq, nat_lt, next_of, NextStatement, None}
use Rattle.pct_names.proofs.Names.{NoStatement, onces_after, OnceState, Option, Process, refl, registers_fork, registers_if, Run, run, runs}
use Rattle.pct_names.proofs.Names.{Script, shared_after, shared_moved, SharedState, slice_index, Some, StatementIn, Status, Stmt, stop_at}
use Rattle.pct_names.proofs.Names.{stops_or, subst, sym, Thread, Transition, transition_at, transition_by, true, What, Why, ℕ, ◌∙◌, ◌∷◌}
use Rattle.pct_names.proofs.Names.{◌≡◌, ◌≤◌}
use Rattle.std.proofs.Common.{append-nil, eq-eqb, true≢false}
use Rattle.std.proofs.lemmas.Bool.{ltb-false}
use Rattle.pct_model.specs.declared.event.Caller.TheVariants as caller
use Rattle.pct_model.specs.declared.event.What.TheVariants as what
use Rattle.pct_model.specs.declared.schedule.Alt.TheVariants as alt
use Rattle.pct_model.specs.declared.state.Status.TheVariants as status
use Rattle.pct_model.specs.declared.statement.Stmt.TheVariants as statement
use Rattle.pct_model.specs.declared.transition.SharedAction.{SharedAction}
use Rattle.pct_model.specs.declared.transition.SharedAction.TheVariants as shared_action
use Rattle.pct_model.specs.Actions.{without_first}
use Rattle.pct_laws.specs.ThreadSteps.{ThreadStep}
use Rattle.pct_laws.specs.AfterAll.{after_all}
use Rattle.pct_laws.specs.CancelLaw.{is_running}
use Rattle.pct_laws.specs.SharedLaw.{exits_after, new_exits, new_fork_handlers, is_above_0, takes_above_0, is_at_0, times_out_at_0}
use Rattle.pct_laws.specs.SharedLaw.{onces_after as reported_onces, ChangesShared, SharedLaw}
use Rattle.pct_laws.specs.OnceControls.{given_up}
use Rattle.pct_transition_cases.proofs.TransitionCases.{TransitionCase, exit_registered, exit_function_called, fork_registered, sem_taken}
use Rattle.pct_transition_cases.proofs.TransitionCases.{timed_sem_taken, sem_wait_timed_out, fork_handler_called, start_returned, canceled}
use Rattle.pct_transition_cases.proofs.TransitionCases.{canceled_at_point, canceled_in_join, canceled_in_sem_wait, canceled_in_waitpid}
use Rattle.pct_transition_cases.proofs.TransitionCases.{ended_in_wait, exit_called}
use Rattle.pct_thread_invariants.proofs.lift.ChangedThreads.{changed_shared}
use Rattle.pct_thread_invariants.proofs.lift.EveryProcess.{moves_of_run}
use Rattle.pct_thread_invariants.proofs.lift.HandlerEvents.{of_each_phase}
use Rattle.pct_thread_invariants.proofs.lift.MovedThreads.{EveryStep, each_step, step_of, case_of_step, every_step}
use Rattle.pct_thread_invariants.proofs.lift.TakenSteps.{IsTaken}
use Rattle.pct_thread_invariants.proofs.lift.ThreadsAfter.{Moves, mover}

-- ---- counts

-- a count that is not above 0 is 0
is_0 : (n : ℕ) → nat_lt 0 n ≡ false → nat_eq n 0 ≡ true
is_0 n none = let most : n ≤ 0 = ltb-false 0 n none in eq-eqb n 0 (omega (arith, most))

-- ---- registrations

-- the action registers a function or fork handlers
abbrev registers : Option SharedAction → Bool
registers (Some (shared_action.AddExit f)) = true
registers (Some (shared_action.AddForkHandlers handlers)) = true
registers _ = false

-- by the law a step with these events registers nothing
record RegistersNone (events : List What) (s : Status) (next : NextStatement) : Type 0 where
  exits : new_exits events s next ≡ []
  forks : new_fork_handlers events s next ≡ []

-- a transition that registers nothing is one that by the law registers nothing
abbrev Agrees : NextStatement → Status → Transition → Type 0
Agrees next s o = registers o.shared ≡ false → RegistersNone o.events s next

-- the statement registers a function or fork handlers
abbrev is_registration : Stmt → Bool
is_registration (statement.AtExit result f) = true
is_registration (statement.AtFork result prepare parent child) = true
is_registration _ = false

none_by_other : (frame : Frame) (st : Stmt) → is_registration st ≡ false → (events : List What) → RegistersNone events status.Running (StatementIn frame st)
none_by_other frame st is (w ∷ events) = record { exits = refl; forks = refl }
none_by_other frame (statement.AtExit result f) is [] = absurd (true≢false is)
none_by_other frame (statement.AtFork result prepare parent child) is [] = absurd (true≢false is)
none_by_other frame _ is [] = record { exits = refl; forks = refl }

none_elsewhere : (events : List What) (s : Status) (next : NextStatement) → is_running s ≡ false → RegistersNone events s next
none_elsewhere (w ∷ events) s next is = record { exits = refl; forks = refl }
none_elsewhere [] status.Running next is = absurd (true≢false is)
none_elsewhere [] _ next is = record { exits = refl; forks = refl }

module _ (passes : ℕ) (body : List Stmt) (shared : SharedState) (t : Thread) (environment : Environment) where
  at_exit_agrees : (frame : Frame) (result : Dest) (f pc : ℕ) (stop : Option Why) (may : Bool) → Agrees (StatementIn frame (statement.AtExit result f)) status.Running (stops_or stop (registers_if may pc result f))
  unfolding registers_if
  at_exit_agrees frame result f pc (Some why) may none = record { exits = refl; forks = refl }
  at_exit_agrees frame result f pc None true none = absurd (true≢false none)
  at_exit_agrees frame result f pc None false none = record { exits = refl; forks = refl }

  at_fork_agrees : (frame : Frame) (result : Dest) (prepare parent child : Option ℕ) (pc count : ℕ) (stop : Option Why)
      → Agrees (StatementIn frame (statement.AtFork result prepare parent child)) status.Running (stops_or stop (registers_fork count pc result (record { prepare = prepare; parent = parent; child = child })))
  unfolding registers_fork
  at_fork_agrees frame result prepare parent child pc count (Some why) none = record { exits = refl; forks = refl }
  at_fork_agrees frame result prepare parent child pc count None none = by (nat_lt count MAX_FORK_HANDLERS) none
    where
      by : (room : Bool) → Agrees (StatementIn frame (statement.AtFork result prepare parent child)) status.Running
          (cond room (record (goes_on pc []) { writes = (result, 0) ∷ []; shared = Some (shared_action.AddForkHandlers (record { prepare = prepare; parent = parent; child = child })) }) (record (goes_on pc (what.Answer caller.AtFork 2 ∷ [])) { writes = (result, 2) ∷ [] }))
      by true none = absurd (true≢false none)
      by false none = record { exits = refl; forks = refl }

  running_agrees : (choice : Alt) (next : NextStatement) → Agrees next status.Running (acts_or choice status.Running (transition_at passes body shared t environment choice next status.Running))
  unfolding transition_at acts_on_request runs
  running_agrees (alt.Act n) next none = record { exits = refl; forks = refl }
  running_agrees choice NoStatement none = record { exits = refl; forks = refl }
  running_agrees choice (StatementIn frame (statement.AtExit result f)) none = at_exit_agrees frame result f _ (stop_at body shared t environment frame (statement.AtExit result f)) (may_register shared) none
  running_agrees choice (StatementIn frame (statement.AtFork result prepare parent child)) none =
      at_fork_agrees frame result prepare parent child _ (length shared.fork_handlers) (stop_at body shared t environment frame (statement.AtFork result prepare parent child)) none
  running_agrees choice (StatementIn frame st) none = none_by_other frame st refl _

  agrees : (choice : Alt) (next : NextStatement) (s : Status) → Agrees next s (acts_or choice s (transition_at passes body shared t environment choice next s))
  agrees choice next status.Running none = running_agrees choice next none
  agrees choice next s none = none_elsewhere _ s next refl

-- ---- a transition

newest_taken : (f : ℕ) (functions : List ℕ) → without_first functions ≡ exits_after (what.ExitRun f) functions
newest_taken f [] = refl
newest_taken f (g ∷ functions) = refl

-- the once controls as their thread begins to end
all_given_up : (tid : ℕ) (onces : List OnceState) → map (abandoned tid) onces ≡ map (given_up tid) onces
all_given_up tid onces = λ i. map (λ (state : OnceState). one state i) onces
  where
    one : (state : OnceState) → abandoned tid state ≡ given_up tid state
    one (Busy id) = refl
    one _ = refl

module _ {passes : ℕ} {body : List Stmt} {shared : SharedState} {t : Thread} {environment : Environment} where
  -- the once controls change by the events that say so
  case_onces : {next : NextStatement} {s : Status} {o : Transition} → TransitionCase passes body shared t environment true next s o
      → (shared_moved t.id o shared).onces ≡ after_all (reported_onces t.id) o.events shared.onces
  unfolding shared_after onces_after
  case_onces (start_returned frame s v returns is) = all_given_up t.id shared.onces
  case_onces (canceled next delivered may) = all_given_up t.id shared.onces
  case_onces (canceled_at_point next index delivered) = all_given_up t.id shared.onces
  case_onces (canceled_in_join next id delivered) = all_given_up t.id shared.onces
  case_onces (canceled_in_sem_wait next sem delivered) = all_given_up t.id shared.onces
  case_onces (canceled_in_waitpid next pid delivered) = all_given_up t.id shared.onces
  case_onces (ended_in_wait next c m free) = all_given_up t.id shared.onces
  case_onces (exit_called frame v begun) = all_given_up t.id shared.onces
  case_onces (fork_handler_called next at call is) =
      of_each_phase (λ (w : What). shared.onces ≡ after_all (reported_onces t.id) (w ∷ []) shared.onces) call.func refl refl refl at.phase
  case_onces _ = refl

  -- and so does all that the threads share
  case_changes : {next : NextStatement} {s : Status} {o : Transition} → TransitionCase passes body shared t environment true next s o → Agrees next s o → ChangesShared t.id o.events s next shared (shared_moved t.id o shared)
  unfolding shared_after onces_after
  case_changes (exit_registered frame result f may) agree = record { owners = refl; counts = refl; onces = refl; exit_functions = refl; fork_handlers = sym (append-nil shared.fork_handlers); exit_value = refl; restricted = refl }
  case_changes (fork_registered frame result handlers room) agree = record { owners = refl; counts = refl; onces = refl; exit_functions = refl; fork_handlers = refl; exit_value = refl; restricted = refl }
  case_changes (exit_function_called next f functions is) agree = record {
    owners = refl;
    counts = refl;
    onces = refl;
    exit_functions = newest_taken f shared.exit_functions;
    fork_handlers = sym (append-nil shared.fork_handlers);
    exit_value = refl;
    restricted = refl;
  }
  case_changes {s = s} {o = o} (fork_handler_called next at call is) agree =
      of_each_phase (λ (w : What). ChangesShared t.id (w ∷ []) s next shared (shared_moved t.id o shared)) call.func
      (record { owners = refl; counts = refl; onces = refl; exit_functions = refl; fork_handlers = sym (append-nil shared.fork_handlers); exit_value = refl; restricted = refl })
      (record { owners = refl; counts = refl; onces = refl; exit_functions = refl; fork_handlers = sym (append-nil shared.fork_handlers); exit_value = refl; restricted = refl })
      (record { owners = refl; counts = refl; onces = refl; exit_functions = refl; fork_handlers = sym (append-nil shared.fork_handlers); exit_value = refl; restricted = refl }) at.phase
  case_changes {o = o} c agree = record {
    owners = refl;
    counts = refl;
    onces = case_onces c;
    exit_value = refl;
    restricted = refl;
    exit_functions = ap (λ (new : List ℕ). after_all exits_after o.events (new ++ shared.exit_functions)) (sym (agree refl).exits);
    fork_handlers = sym (append-nil shared.fork_handlers) ∙ ap (λ (new : List ForkHandlers). shared.fork_handlers ++ new) (sym (agree refl).forks);
  }

  -- it takes a semaphore only where its count is above 0
  case_above : {next : NextStatement} {s : Status} {o : Transition} → TransitionCase passes body shared t environment true next s o → list_all (is_above_0 shared.counts) o.events ≡ true
  case_above (sem_taken frame n sem above) = and_from (nat_lt 0 (slice_index shared.counts sem)) true (above refl) refl
  case_above (timed_sem_taken frame result n sem above) = and_from (nat_lt 0 (slice_index shared.counts sem)) true (above refl) refl
  case_above (fork_handler_called next at call is) = of_each_phase (λ (w : What). list_all (is_above_0 shared.counts) (w ∷ []) ≡ true) call.func refl refl refl at.phase
  case_above _ = refl

  -- the time of a wait for a semaphore expires only where the count is 0
  case_at_0 : {next : NextStatement} {s : Status} {o : Transition} → TransitionCase passes body shared t environment true next s o → list_all (is_at_0 shared.counts s) o.events ≡ true
  case_at_0 (sem_wait_timed_out frame result n sem none) = and_from (nat_eq (slice_index shared.counts sem) 0) true (is_0 (slice_index shared.counts sem) (none refl)) refl
  case_at_0 {s = s} (fork_handler_called next at call is) = of_each_phase (λ (w : What). list_all (is_at_0 shared.counts s) (w ∷ []) ≡ true) call.func refl refl refl at.phase
  case_at_0 _ = refl

-- ---- each step of a run

module _ (script : Script) (config : Config) where
  -- the law of a step
  abbrev IsLawful : ThreadStep → Type 0
  IsLawful s = ChangesShared s.tid s.events s.before.status (next_of script s.before.frames) s.process.shared s.process_after.shared

  changes_of_step : (before : List Entry) (r : Run) → run script config before ≡ Some r → (e : Entry) (p : Process) (t : Thread) → IsTaken script config r.world e p t → IsLawful (step_of script config r p e t)
  changes_of_step before r is e p t taken =
      let o : Transition = transition_by script config r.world p t e.alt in
      let moves : Moves script config r.world p e t = moves_of_run script config before r is e p t taken in
      let next : NextStatement = next_of script t.frames in
      subst (λ (after : SharedState). ChangesShared e.tid o.events t.status next p.shared after) (sym (changed_shared e.tid o p))
      (subst (λ (tid : ℕ). ChangesShared tid o.events t.status next p.shared (shared_moved tid o p.shared)) (mover script config r.world p e t moves).number
      (case_changes (case_of_step script config r.world p e t moves) (agrees config.passes (body_at script t.frames) p.shared t (environment_of config r.world p t.id) e.alt next t.status)))

  changes_of_run : EveryStep script config IsLawful
  changes_of_run = every_step script config IsLawful changes_of_step

  above_0_of_step : (before : List Entry) (r : Run) → run script config before ≡ Some r → (e : Entry) (p : Process) (t : Thread) → IsTaken script config r.world e p t → takes_above_0 (step_of script config r p e t) ≡ true
  above_0_of_step before r is e p t taken = case_above (case_of_step script config r.world p e t (moves_of_run script config before r is e p t taken))

  above_0_of_run : EveryStep script config (λ s. takes_above_0 s ≡ true)
  above_0_of_run = every_step script config (λ s. takes_above_0 s ≡ true) above_0_of_step

  at_0_of_step : (before : List Entry) (r : Run) → run script config before ≡ Some r → (e : Entry) (p : Process) (t : Thread) → IsTaken script config r.world e p t → times_out_at_0 (step_of script config r p e t) ≡ true
  at_0_of_step before r is e p t taken = case_at_0 (case_of_step script config r.world p e t (moves_of_run script config before r is e p t taken))

  at_0_of_run : EveryStep script config (λ s. times_out_at_0 s ≡ true)
  at_0_of_run = every_step script config (λ s. times_out_at_0 s ≡ true) at_0_of_step

  -- every run keeps the law of the shared state
  pub shared_law : (entries : List Entry) → SharedLaw script config entries
  shared_law entries = record {
    changes = each_step script config IsLawful changes_of_run entries;
    above_0 = each_step script config (λ s. takes_above_0 s ≡ true) above_0_of_run entries;
    at_0 = each_step script config (λ s. times_out_at_0 s ≡ true) at_0_of_run entries;
  }
