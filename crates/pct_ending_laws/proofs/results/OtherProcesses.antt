-- The law of thread-specific data, of other processes: a step keeps the threads of a process that was made before, and what they share; and in
-- the process that a fork makes the thread that forked has its values.
use Rattle.pct_names.proofs.Names.{after_transition, ap, Bool, child_of, cond, Config, Entry, Environment, false, false≢true, find, Forked}
use Rattle.pct_names.proofs.Names.{forks_by, KeyValues, Legal, List, list_any, made_process, nat_eq, NextStatement, None, none-some, Option}
use Rattle.pct_names.proofs.Names.{option_map, option_or, other_process_after, Process, process_moved, refl, Run, run, same_Some, Script}
use Rattle.pct_names.proofs.Names.{SharedState, Some, Status, Stmt, subst, sym, Thread, thread_with, Transition, transition_by, true, What}
use Rattle.pct_names.proofs.Names.{ℕ, ◌∙◌, ◌≡◌}
use Rattle.std.proofs.Common.{ne_eqb}
use Rattle.pct_laws.specs.ProcessSteps.{EachOtherProcess}
use Rattle.pct_laws.specs.ThreadSteps.{ThreadStep}
use Rattle.pct_laws.specs.ValueLaw.{KeepsProcess}
use Rattle.pct_transition_cases.proofs.TransitionCases.{TransitionCase, specific_set, key_deleted, destructor_called, pass_begun}
use Rattle.pct_thread_invariants.proofs.keys.KeptKeys.{own_data, named_data}
use Rattle.pct_thread_invariants.proofs.keys.KeysOfProcesses.{data_moved}
use Rattle.pct_thread_invariants.proofs.lift.ChangedThreads.{other_threads, other_shared}
use Rattle.pct_thread_invariants.proofs.lift.CreatedThreads.{Makes, makes_none, forks}
use Rattle.pct_thread_invariants.proofs.lift.EveryProcess.{moves_of_run}
use Rattle.pct_thread_invariants.proofs.lift.InheritedThreads.{each_heir}
use Rattle.pct_thread_invariants.proofs.lift.KeyedLists.{found_passes}
use Rattle.pct_thread_invariants.proofs.lift.MadeThreads.{child_made, IsStep, is_step, process_after_step, other_process_is, HasValidId}
use Rattle.pct_thread_invariants.proofs.lift.ProcessIds.{have_pids}
use Rattle.pct_thread_invariants.proofs.lift.TakenSteps.{IsTaken}
use Rattle.pct_thread_invariants.proofs.lift.ThreadsAfter.{Moves, mover}
use Rattle.pct_thread_invariants.proofs.lift.MovedThreads.{EveryStep, step_of, case_of_step, every_step}

-- ---- the thread that forks

-- the event is that a process is made
abbrev is_fork_event : What → Bool
is_fork_event (Forked pid) = true
is_fork_event _ = false

-- a thread that makes a process keeps its values
abbrev KeepsItsValues : ThreadStep → Type 0
KeepsItsValues s = list_any is_fork_event s.events ≡ true → s.after.specific.values ≡ s.before.specific.values

case_forks : {passes : ℕ} {body : List Stmt} {shared : SharedState} {t : Thread} {environment : Environment} {next : NextStatement} {s : Status} {o : Transition} → TransitionCase passes body shared t environment true next s o
    → list_any is_fork_event o.events ≡ true → (own : KeyValues) → named_data o.named (own_data o.own own) ≡ own
case_forks (specific_set frame key v named) said own = absurd (false≢true said)
case_forks (key_deleted frame key named) said own = absurd (false≢true said)
case_forks (destructor_called next k f key none is named among) said own = absurd (false≢true said)
case_forks (pass_begun next none below due left) said own = absurd (false≢true said)
case_forks _ said own = refl

module _ (script : Script) (config : Config) where
  forker_of_step : (before : List Entry) (r : Run) → run script config before ≡ Some r → (e : Entry) (p : Process) (t : Thread)
      → IsTaken script config r.world e p t → KeepsItsValues (step_of script config r p e t)
  forker_of_step before r is e p t taken said =
      let o : Transition = transition_by script config r.world p t e.alt in
      let moves : Moves script config r.world p e t = moves_of_run script config before r is e p t taken in
      ap (λ (own : KeyValues). own.values) (
      data_moved e.tid o t ∙ ap (λ (live : Bool). named_data o.named (cond live (own_data o.own t.specific) t.specific)) (mover script config r.world p e t moves).valid
      ∙ case_forks (case_of_step script config r.world p e t moves) said t.specific)

  forker_of_run : EveryStep script config KeepsItsValues
  forker_of_run = every_step script config KeepsItsValues forker_of_step

  -- ---- another process, after a step

  module _ (before : List Entry) (r : Run) (is : run script config before ≡ Some r) (e : Entry) (p : Process) (t : Thread) (taken : IsTaken script config r.world e p t) where
    abbrev o : Transition
    o = transition_by script config r.world p t e.alt

    moves : Moves script config r.world p e t
    moves = moves_of_run script config before r is e p t taken

    step : IsStep e p t o r.world (after_transition e.pid e.tid o r.world)
    step = is_step script config r.world e p t (have_pids script config before r is).distinct moves.ids.distinct taken

    -- the one with an id
    process_is : (pid : ℕ) (found : Option Process) → made_process pid r.world ≡ found
        → made_process pid (after_transition e.pid e.tid o r.world) ≡ option_or (option_map (process_moved e.pid e.tid o) found) (find (λ q. nat_eq q.pid pid) (child_made e.tid p step.made))
    process_is pid found was =
        process_after_step e p t o r.world (after_transition e.pid e.tid o r.world) step pid
        ∙ ap (λ (q : Option Process). option_or (option_map (process_moved e.pid e.tid o) q) (find (λ x. nat_eq x.pid pid) (child_made e.tid p step.made))) was

    -- one that was made before
    made_before : (pid : ℕ) (q after : Process) → (e.pid ≡ pid → ⊥) → made_process pid r.world ≡ Some q
        → made_process pid (after_transition e.pid e.tid o r.world) ≡ Some after → (after.threads ≡ q.threads) × (after.shared ≡ q.shared)
    made_before pid q after differs was made =
        let moved : other_process_after e.pid o.process q ≡ after =
        sym (other_process_is e.pid e.tid o q pid (found_passes (λ (x : Process). nat_eq x.pid pid) r.world.processes q was) (ne_eqb e.pid pid differs))
        ∙ same_Some (process_moved e.pid e.tid o q) after (sym (process_is pid (Some q) was) ∙ made) in
        (ap (λ (x : Process). x.threads) (sym moved) ∙ other_threads e.pid o q, ap (λ (x : Process). x.shared) (sym moved) ∙ other_shared e.pid o q)

    -- the thread that forked, in the process that it makes
    child_has : (new : ℕ) (u : Thread) → thread_with e.tid (child_of e.tid new p) ≡ Some u → u.specific.values ≡ t.specific.values
    child_has new u made = its_heir e.tid u made refl
      where
        it : HasValidId p e.tid t
        it = mover script config r.world p e t moves

        its_heir : (id : ℕ) (x : Thread) → thread_with id (child_of e.tid new p) ≡ Some x → id ≡ e.tid
            → x.specific.values ≡ t.specific.values
        its_heir = each_heir e.tid new p t it (λ id x. id ≡ e.tid → x.specific.values ≡ t.specific.values) (λ same. refl)
            (λ id x found same. ap (λ (u : Thread). u.specific.values) (same_Some x t (sym found ∙ ap (λ (n : ℕ). thread_with n p) same ∙ it.found)))

    -- one that is made
    made_by : (pid : ℕ) (after : Process) {made : Option ℕ} → Makes r.world t.status o made
        → find (λ q. nat_eq q.pid pid) (child_made e.tid p made) ≡ Some after
        → (list_any is_fork_event o.events ≡ true) × ((u : Thread) → thread_with e.tid after ≡ Some u → u.specific.values ≡ t.specific.values)
    unfolding forks_by
    made_by pid after (makes_none nothing quiet) found = absurd (none-some after found)
    made_by pid after (forks new fork) found = by_id (nat_eq (child_of e.tid new p).pid pid) found
      where
        by_id : (same : Bool) → cond same (Some (child_of e.tid new p)) None ≡ Some after
            → (list_any is_fork_event o.events ≡ true) × ((u : Thread) → thread_with e.tid after ≡ Some u → u.specific.values ≡ t.specific.values)
        by_id true is = (
          ap (λ (x : Transition). list_any is_fork_event x.events) fork.is,
          λ u made. child_has new u (ap (thread_with e.tid) (same_Some (child_of e.tid new p) after is) ∙ made),
        )
        by_id false is = absurd (none-some after is)

  -- ---- each step of a run

  pub processes_of_run : (entries : List Entry) → EachOtherProcess script config entries KeepsProcess
  processes_of_run entries before later e r s pid found after are is process = by_found found process.was
    where
      legal : Legal script config r.world e
      legal = process.step.legal

      taken : IsTaken script config r.world e legal.process legal.thread
      taken = record { running = legal.running; is_process = legal.live; is_thread = legal.holds; offered = legal.offered }

      by_found : (q : Option Process) → made_process pid r.world ≡ q → KeepsProcess s q after
      by_found (Some q) was =
          made_before before r is e legal.process legal.thread taken pid q after (λ same. process.other (sym same ∙ process.step.pid)) was process.is
      by_found None was =
          let made = made_by before r is e legal.process legal.thread taken pid after (step before r is e legal.process legal.thread taken).makes (sym (process_is before r is e legal.process legal.thread taken pid None was) ∙ process.is) in
          let values : s.after.specific.values ≡ s.before.specific.values = forker_of_run before r is e s process.step (subst (λ (ws : List What). list_any is_fork_event ws ≡ true) process.step.events made.0) in
          λ u found. made.1 u (subst (λ (n : ℕ). thread_with n after ≡ Some u) (sym process.step.tid) found) ∙ ap (λ (x : Thread). x.specific.values) process.step.before ∙ sym values
