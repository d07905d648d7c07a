-- The law of thread-specific data: pthread_setspecific gives its thread the value of its operand.
use Rattle.pct_names.proofs.Names.{◌-◌, ◌<◌, acts_on_request, acts_or, Alt, ap, arith, body_at, Bool, cond, Config, Entry, Environment}
use Rattle.pct_names.proofs.Names.{environment_of, false, Frame, key_place, KeyValues, length, List, MAX_KEYS, next_of, NextStatement, None}
use Rattle.pct_names.proofs.Names.{NoStatement, not, Option, or_right, Process, refl, Run, run, runs, Script, sets_specific, SharedState}
use Rattle.pct_names.proofs.Names.{Some, StatementIn, Status, Stmt, stop_at, stops_or, subst, sym, Thread, thread_moved, Transition}
use Rattle.pct_names.proofs.Names.{transition_at, transition_by, true, value_of, Why, ◌||◌, ℕ, ◌∙◌, ◌≡◌}
use Rattle.std.proofs.Common.{eq-eqb}
use Rattle.std.proofs.lemmas.List.{get_or-set_same}
use Rattle.std.proofs.lemmas.Nat.{mod_below}
use Rattle.pct_model.specs.declared.schedule.Alt.TheVariants as alt
use Rattle.pct_model.specs.declared.state.Status.TheVariants as status
use Rattle.pct_model.specs.declared.statement.Stmt.TheVariants as statement
use Rattle.pct_laws.specs.CancelLaw.{is_running, acts_or_stops}
use Rattle.pct_laws.specs.ValueLaw.{has_value_set, sets_its_value}
use Rattle.pct_thread_invariants.proofs.keys.KeptKeys.{own_data, named_data}
use Rattle.pct_thread_invariants.proofs.keys.KeysOfProcesses.{data_moved}
use Rattle.pct_thread_invariants.proofs.lift.EveryProcess.{moves_of_run, process_taken}
use Rattle.pct_thread_invariants.proofs.lift.TakenSteps.{IsTaken}
use Rattle.pct_thread_invariants.proofs.lift.ThreadsAfter.{Moves, mover}
use Rattle.pct_cancel_laws.proofs.requests.ActingCalls.{its_status}
use Rattle.pct_ending_laws.proofs.results.KeptVariables.{variables_of_run}
use Rattle.pct_thread_invariants.proofs.lift.MovedThreads.{EveryStep, step_of, every_step}

module _ (passes : ℕ) (body : List Stmt) (shared : SharedState) (t : Thread) (environment : Environment) (values : length t.specific.values ≡ MAX_KEYS) where
  -- the data of the thread after a transition
  abbrev pub data_after : Transition → KeyValues
  data_after o = named_data o.named (own_data o.own t.specific)

  -- the thread has the value of a statement, in these data
  abbrev IsSet : NextStatement → KeyValues → Bool
  IsSet next own = has_value_set shared.globals next (record t { specific = own })

  -- the law speaks of the data alone
  same_data : (next : NextStatement) (u : Thread) (own : KeyValues) → u.specific ≡ own → IsSet next own ≡ true
      → has_value_set shared.globals next u ≡ true
  same_data NoStatement u own is set = refl
  same_data (StatementIn frame (statement.SetSpecific key v)) u own is set =
      ap (λ (x : KeyValues). has_value_set shared.globals (StatementIn frame (statement.SetSpecific key v)) (record t { specific = x })) is ∙ set
  same_data (StatementIn frame _) u own is set = refl

  -- the value is that of the operand
  value_set : (choice : Alt) (frame : Frame) (s : Stmt)
      → IsSet (StatementIn frame s) (data_after (runs passes body shared t environment choice frame s)) ≡ true
  unfolding runs sets_specific
  value_set choice frame (statement.SetSpecific key v) =
      let place : ℕ = key_place (value_of shared.globals frame key) in
      eq-eqb _ _ (get_or-set_same t.specific.values place (value_of shared.globals frame v) 0 (subst (λ (n : ℕ). place < n) (sym values) (mod_below (value_of shared.globals frame key - 1) MAX_KEYS (omega arith))))
  value_set choice frame _ = refl

  unless_stopped : (frame : Frame) (s : Stmt) (stop : Option Why) (other : Transition)
      → IsSet (StatementIn frame s) (data_after other) ≡ true
      → (acts_or_stops (stops_or stop other).events || IsSet (StatementIn frame s) (data_after (stops_or stop other))) ≡ true
  unless_stopped frame s (Some why) other set = refl
  unless_stopped frame s None other set = or_right (acts_or_stops other.events) (IsSet (StatementIn frame s) (data_after other)) set

  -- a running thread, by a choice
  abbrev Sets : Alt → NextStatement → Status → Type 0
  Sets choice next s =
      (acts_or_stops (acts_or choice s (transition_at passes body shared t environment choice next s)).events || IsSet next (data_after (acts_or choice s (transition_at passes body shared t environment choice next s)))) ≡ true

  running_sets : (choice : Alt) (next : NextStatement) → Sets choice next status.Running
  unfolding transition_at acts_on_request
  running_sets (alt.Act n) next = refl
  running_sets choice NoStatement = refl
  running_sets choice (StatementIn frame s) =
      unless_stopped frame s (stop_at body shared t environment frame s) (runs passes body shared t environment choice frame s) (value_set choice frame s)

  -- what follows of two tests, for the thread after a step
  then_has : (next : NextStatement) (u : Thread) (own : KeyValues) (acts : Bool) → u.specific ≡ own → (acts || IsSet next own) ≡ true
      → (acts || has_value_set shared.globals next u) ≡ true
  then_has next u own true is set = refl
  then_has next u own false is set = same_data next u own is set

-- ---- each step of a run

-- what a running thread does, unless it acts or stops
pub if_runs : (runs acts set : Bool) → (runs ≡ true → (acts || set) ≡ true) → (not runs || acts || set) ≡ true
if_runs true acts set then = then refl
if_runs false acts set then = refl

module _ (script : Script) (config : Config) where
  -- so it is of the step of an entry that moves a thread
  sets_of_step : (before : List Entry) (r : Run) → run script config before ≡ Some r → (e : Entry) (p : Process) (t : Thread)
      → IsTaken script config r.world e p t → sets_its_value script (step_of script config r p e t) ≡ true
  sets_of_step before r is e p t taken =
      let o : Transition = transition_by script config r.world p t e.alt in
      let moves : Moves script config r.world p e t = moves_of_run script config before r is e p t taken in
      let body : List Stmt = body_at script t.frames in
      let environment : Environment = environment_of config r.world p t.id in
      let next : NextStatement = next_of script t.frames in
      let values : length t.specific.values ≡ MAX_KEYS = ((variables_of_run script config before r is e.pid p (process_taken script config before r is e p t taken)).threads e.tid t (mover script config r.world p e t moves).found).values in
      let its_data : (thread_moved e.tid o t).specific ≡ data_after config.passes body p.shared t environment values o =
      data_moved e.tid o t ∙ ap (λ (live : Bool). named_data o.named (cond live (own_data o.own t.specific) t.specific)) (mover script config r.world p e t moves).valid in
      if_runs (is_running t.status) (acts_or_stops o.events) (has_value_set p.shared.globals next (thread_moved e.tid o t)) (λ running.
      then_has config.passes body p.shared t environment values next (thread_moved e.tid o t) (data_after config.passes body p.shared t environment values o) (acts_or_stops o.events) its_data
      (subst (Sets config.passes body p.shared t environment values e.alt next) (sym (its_status t.status running)) (running_sets config.passes body p.shared t environment values e.alt next)))

  -- each pthread_setspecific of a run sets its value
  pub sets_of_run : EveryStep script config (λ s. sets_its_value script s ≡ true)
  sets_of_run = every_step script config (λ s. sets_its_value script s ≡ true) sets_of_step
