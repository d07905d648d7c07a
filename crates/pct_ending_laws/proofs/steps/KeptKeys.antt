-- The law of calls, of a step: the key on each place after it is what its events leave.
use Rattle.pct_names.proofs.Names.{[], ap, body_at, Config, Entry, Environment, environment_of, key_at, key_place, key_with, List}
use Rattle.pct_names.proofs.Names.{NextStatement, Process, refl, Run, run, Script, shared_after, shared_moved, SharedState, Some, Status}
use Rattle.pct_names.proofs.Names.{Stmt, Thread, Transition, transition_by, true, value_of, What, ℕ, ◌∙◌, ◌∷◌, ◌≡◌}
use Rattle.pct_laws.specs.AfterAll.{after_all}
use Rattle.pct_laws.specs.Calls.{ChangesKeys, key_left}
use Rattle.pct_laws.specs.Kept.{KeysKept}
use Rattle.pct_transition_cases.proofs.TransitionCases.{TransitionCase, fork_handler_called, key_made, key_deleted}
use Rattle.pct_ending_laws.proofs.KeyEvents.{found_on, key_deleted_at, key_made_at, new_place_within}
use Rattle.pct_thread_invariants.proofs.keys.KeysOfProcesses.{keys_of_run}
use Rattle.pct_thread_invariants.proofs.lift.ChangedThreads.{changed_shared}
use Rattle.pct_thread_invariants.proofs.lift.EveryProcess.{moves_of_run, process_taken}
use Rattle.pct_thread_invariants.proofs.lift.HandlerEvents.{of_each_phase}
use Rattle.pct_thread_invariants.proofs.lift.TakenSteps.{IsTaken}
use Rattle.pct_thread_invariants.proofs.lift.ThreadsAfter.{Moves}
use Rattle.pct_thread_invariants.proofs.lift.MovedThreads.{EveryStep, step_of, case_of_step, every_step}

module _ (script : Script) (passes tid : ℕ) (body : List Stmt) (shared : SharedState) (t : Thread) (environment : Environment) (kept : KeysKept script shared.keys) (place : ℕ) where
  -- the key on the place after a transition
  case_changes : {next : NextStatement} {s : Status} {o : Transition} → TransitionCase passes body shared t environment true next s o
      → key_at (shared_moved tid o shared).keys place ≡ after_all (key_left next place) o.events (key_at shared.keys place)
  unfolding shared_after key_with
  case_changes (key_made frame result key destructor k among) = key_made_at shared.keys (key_place k) k destructor place (new_place_within script shared.keys kept k (among refl))
  case_changes (key_deleted frame key some) =
      let k : ℕ = value_of shared.globals frame key in
      let on = found_on k (key_at shared.keys (key_place k)) some in
      key_deleted_at shared.keys (key_place k) place on.0 on.1
  case_changes (fork_handler_called next at call is) =
      of_each_phase (λ (w : What). key_at shared.keys place ≡ after_all (key_left next place) (w ∷ []) (key_at shared.keys place)) call.func refl refl refl at.phase
  case_changes _ = refl

-- ---- each step of a run

module _ (script : Script) (config : Config) where
  -- so it is of the step of an entry that moves a thread
  changes_of_step : (before : List Entry) (r : Run) → run script config before ≡ Some r → (e : Entry) (p : Process) (t : Thread) → IsTaken script config r.world e p t → ChangesKeys script (step_of script config r p e t)
  changes_of_step before r is e p t taken place =
      let o : Transition = transition_by script config r.world p t e.alt in
      let moves : Moves script config r.world p e t = moves_of_run script config before r is e p t taken in
      let kept : KeysKept script p.shared.keys = (keys_of_run script config before r is e.pid p (process_taken script config before r is e p t taken)).keys in
      ap (λ (after : SharedState). key_at after.keys place) (changed_shared e.tid o p)
      ∙ case_changes script config.passes e.tid (body_at script t.frames) p.shared t (environment_of config r.world p t.id) kept place (case_of_step script config r.world p e t moves)

  -- the key on each place after a step is what its events leave
  pub changes_keys_of_run : EveryStep script config (ChangesKeys script)
  changes_keys_of_run = every_step script config (ChangesKeys script) changes_of_step
