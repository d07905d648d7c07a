-- The law of values, of a step: at each place only pthread_setspecific of its key, the call of its destructor and its deletion change the
-- value of the thread that makes the step; and only the begin of a pass and these two events change whether the place is left in its pass.
use Rattle.pct_names.proofs.Names.{ap, Bool, cond, Config, Entry, Environment, eqb-false, false, key_place, KeyValues, List, list_any}
use Rattle.pct_names.proofs.Names.{nat_eq, next_of, NextStatement, Process, refl, Run, run, Script, SharedState, slice_get, Some, Status}
use Rattle.pct_names.proofs.Names.{Stmt, sym, Thread, thread_moved, Transition, transition_by, true, value_at, value_of, ℕ, ◌∙◌, ◌≡◌}
use Rattle.pct_names.proofs.Names.{◌&&◌, not, ◌≢◌}
use Rattle.std.proofs.Common.{get_or-set_other}
use Rattle.std.proofs.Math.Bool.{or-false}
use Rattle.std.proofs.lemmas.Bool.{true≢false}
use Rattle.pct_laws.specs.CancelLaw.{acts_or_stops, is_running}
use Rattle.pct_laws.specs.Ends.{changes_value, changes_pass, sets_value, KeepsValues}
use Rattle.pct_transition_cases.proofs.TransitionCases.{TransitionCase, key_deleted, specific_set, destructor_called, pass_begun}
use Rattle.pct_thread_invariants.proofs.keys.KeptKeys.{own_data, named_data}
use Rattle.pct_thread_invariants.proofs.keys.KeysOfProcesses.{data_moved}
use Rattle.pct_thread_invariants.proofs.lift.EveryProcess.{moves_of_run}
use Rattle.pct_thread_invariants.proofs.lift.TakenSteps.{IsTaken}
use Rattle.pct_thread_invariants.proofs.lift.ThreadsAfter.{Moves, mover}
use Rattle.pct_thread_invariants.proofs.lift.MovedThreads.{EveryStep, step_of, case_of_step, every_step}
use Rattle.pct_wake_laws.proofs.OtherThreads.{other_item}

-- ---- a transition

module _ (place : ℕ) where
  -- the place of a key is not this one
  elsewhere : (k : ℕ) → nat_eq (key_place k) place ≡ false → place ≢ key_place k
  elsewhere k other same = eqb-false (key_place k) place other (sym same)

  module _ {passes : ℕ} {shared : SharedState} {t : Thread} {environment : Environment} {body : List Stmt} where
    -- where no event changes the value, and the statement does not set it, it stays
    case_value : {next : NextStatement} {s : Status} {o : Transition} → TransitionCase passes body shared t environment true next s o
        → list_any (changes_value place) o.events ≡ false → (is_running s && not (acts_or_stops o.events) && sets_value shared.globals place next) ≡ false
        → (own : KeyValues) → value_at place (named_data o.named (own_data o.own own)) ≡ value_at place own
    case_value (specific_set frame key v named) none unset own = get_or-set_other own.values (key_place (value_of shared.globals frame key)) place (value_of shared.globals frame v) 0 (elsewhere (value_of shared.globals frame key) unset)
    case_value (key_deleted frame key named) none unset own = let k : ℕ = value_of shared.globals frame key in get_or-set_other own.values (key_place k) place 0 0 (elsewhere k (sym (or-false _) ∙ none))
    case_value (destructor_called next k f key no_handlers is named among) none unset own = get_or-set_other own.values (key_place k) place 0 0 (elsewhere k (sym (or-false _) ∙ none))
    case_value _ none unset own = refl

    -- where no event changes the pass at the place, the place stays in it, or out of it
    case_pass : {next : NextStatement} {s : Status} {o : Transition} → TransitionCase passes body shared t environment true next s o
        → list_any (changes_pass place) o.events ≡ false → (own : KeyValues) → slice_get (named_data o.named (own_data o.own own)).in_pass place ≡ slice_get own.in_pass place
    case_pass (pass_begun next no_handlers below due none_left) none own = absurd (true≢false none)
    case_pass (key_deleted frame key named) none own = let k : ℕ = value_of shared.globals frame key in other_item own.in_pass (key_place k) place false (elsewhere k (sym (or-false _) ∙ none))
    case_pass (destructor_called next k f key no_handlers is named among) none own = other_item own.in_pass (key_place k) place false (elsewhere k (sym (or-false _) ∙ none))
    case_pass _ none own = refl

-- ---- each step of a run

module _ (script : Script) (config : Config) where
  module _ (before : List Entry) (r : Run) (is : run script config before ≡ Some r) (e : Entry) (p : Process) (t : Thread) (taken : IsTaken script config r.world e p t) where
    abbrev o : Transition
    o = transition_by script config r.world p t e.alt

    moves : Moves script config r.world p e t
    moves = moves_of_run script config before r is e p t taken

    data_after : (thread_moved e.tid o t).specific ≡ named_data o.named (own_data o.own t.specific)
    data_after = data_moved e.tid o t ∙ ap (λ (live : Bool). named_data o.named (cond live (own_data o.own t.specific) t.specific)) (mover script config r.world p e t moves).valid

    -- what the step of an entry that moves a thread keeps at each place
    values_of_step : KeepsValues script (step_of script config r p e t)
    values_of_step place =
        let case : TransitionCase config.passes _ p.shared t _ true (next_of script t.frames) t.status o = case_of_step script config r.world p e t moves in
        record {
          value = λ none unset. ap (value_at place) data_after ∙ case_value place case none unset t.specific;
          in_pass = λ none. ap (λ (own : KeyValues). slice_get own.in_pass place) data_after ∙ case_pass place case none t.specific;
        }

  -- each step keeps the value at each place, but at pthread_setspecific of its key or with an event that says so; and so with the pass
  pub keeps_values_of_run : EveryStep script config (KeepsValues script)
  keeps_values_of_run = every_step script config (KeepsValues script) values_of_step
