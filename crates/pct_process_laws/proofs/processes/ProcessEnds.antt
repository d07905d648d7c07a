-- The exit value and the status of each process are those that the events report.
use Rattle.pct_names.proofs.Names.{and_parts, ap, as_reaped, body_at, Bool, changed, child_of, cond, Config, Entry, Environment}
use Rattle.pct_names.proofs.Names.{environment_of, event_of, false, false≢true, has_ended, is_live_process, is_none, is_some, List, map}
use Rattle.pct_names.proofs.Names.{nat_eq, next_of, NextStatement, None, not, Option, option_map, orphaned, other_process_after, Process}
use Rattle.pct_names.proofs.Names.{process_after, ProcessAction, ProcessEnd, refl, reverse, Run, run, Script, shared_after, SharedState}
use Rattle.pct_names.proofs.Names.{Some, Status, Stmt, subst, sym, Thread, Transition, true, What, ℕ, ◌∙◌, ◌≡◌}
use Rattle.pct_model.specs.declared.transition.ProcessAction.TheVariants as process_action
use Rattle.pct_laws.specs.Kept.{EachProcess, status_of_end}
use Rattle.pct_laws.specs.ProcessEnds.{status_after, end_status, exit_after, exit_value}
use Rattle.pct_transition_cases.proofs.CaseOfTransition.{case_of}
use Rattle.pct_transition_cases.proofs.TransitionCases.{TransitionCase, fork_handler_called, process_ended_now, process_ended}
use Rattle.pct_transition_cases.proofs.TransitionCases.{main_returned, last_ended, last_ended_with_keys, process_exited}
use Rattle.pct_thread_invariants.proofs.lift.ChangedThreads.{either_keeps, other_shared}
use Rattle.pct_thread_invariants.proofs.lift.EveryProcess.{process_taken, of_made, IsProcessRule, every_process}
use Rattle.pct_thread_invariants.proofs.lift.HandlerEvents.{of_each_phase}
use Rattle.pct_thread_invariants.proofs.lift.KeyedLists.{found_passes}
use Rattle.pct_thread_invariants.proofs.lift.ReportedBy.{Reading, is_reading, after_own}
use Rattle.pct_thread_invariants.proofs.lift.TakenSteps.{IsTaken, AfterEveryRun}
use Rattle.pct_laws.specs.KnownThreads.{is_in}

-- ---- another process

-- a process whose parent ends keeps its status
orphan_status : (end : Option ProcessEnd) (p : Process) → p.ended ≡ end → status_of_end (orphaned end p) ≡ status_of_end p
orphan_status None p is = refl
orphan_status (Some end) p is = sym (ap (λ (o : Option ProcessEnd). option_map (λ x. x.status) o) is)

-- and so does one that is reaped
reaped_status : (end : Option ProcessEnd) → option_map (λ (x : ProcessEnd). x.status) (as_reaped end) ≡ option_map (λ x. x.status) end
reaped_status None = refl
reaped_status (Some end) = refl

-- each action of a thread of another process keeps it
other_action : (pid : ℕ) (a : Option ProcessAction) (p : Process) → status_of_end (other_process_after pid a p) ≡ status_of_end p
unfolding other_process_after
other_action pid (Some (process_action.Reap child)) p = either_keeps status_of_end (nat_eq p.pid child) (record p { ended = as_reaped p.ended }) p p (reaped_status p.ended) refl
other_action pid (Some (process_action.End n)) p = either_keeps status_of_end (nat_eq p.parent pid) (orphaned p.ended p) p p (orphan_status p.ended p refl) refl
other_action pid _ p = refl

-- ---- the process of the thread that moves

-- the exit value and the status of a process, which no fork passes on
abbrev ends_reading : Reading (Option ℕ × Option ℕ)
ends_reading = record { start = λ initial. (None, None); next = λ e k. (exit_after e.what k.0, status_after e.what k.1); inherits = λ e. false; born = λ parent k. k }

-- they are the reported ones
abbrev AreReported : Process → (Option ℕ × Option ℕ) → Type 0
AreReported p k = (p.shared.exit_value ≡ k.0) × (status_of_end p ≡ k.1)

module _ (passes : ℕ) (body : List Stmt) (t : Thread) (environment : Environment) (offered : Bool) (e : Entry) where
  -- after a transition they are those that its events report, or those from before
  case_ends : (p : Process) (k : Option ℕ × Option ℕ) → AreReported p k → {next : NextStatement} {s : Status} {o : Transition} → TransitionCase passes body p.shared t environment offered next s o
      → AreReported (changed e.tid o p) (after_own ends_reading (map (event_of e) (reverse o.events)) k)
  unfolding process_after shared_after
  case_ends p k same (fork_handler_called next at call is) = of_each_phase (λ (w : What). AreReported p (exit_after w k.0, status_after w k.1)) call.func same same same at.phase
  case_ends p k same (main_returned frame s v returns is none) = (refl, same.1)
  case_ends p k same (last_ended next no_handlers is_last none left) = (refl, same.1)
  case_ends p k same (last_ended_with_keys next n no_handlers is_last some limit due left) = (refl, same.1)
  case_ends p k same (process_exited frame v none) = (refl, same.1)
  case_ends p k same (process_ended_now frame v) = (same.0, refl)
  case_ends p k same (process_ended next v is none) = (same.0, refl)
  case_ends p k same _ = same

-- ---- every run

-- both, after an event
pair_if : (own : Bool) (a b c d : Option ℕ) → ◌≡◌ {A = Option ℕ × Option ℕ} (cond own a b, cond own c d) (cond own (a, c) (b, d))
pair_if true a b c d = refl
pair_if false a b c d = refl

module _ (script : Script) (config : Config) where
  -- as a rule of every process
  ends_rule : IsProcessRule (λ n. ends_reading) (λ p k. AreReported p (k 0)) script config (λ w p e t. Unit {0})
  unfolding child_of
  ends_rule = record {
    initial = (refl, refl);
    own = λ w p e t k known same.
        let environment : Environment = environment_of config w p t.id in
        case_ends config.passes (body_at script t.frames) t environment false e p (k 0) same (case_of config.passes (body_at script t.frames) p.shared t environment false e.alt (next_of script t.frames) t.status (λ known. absurd (false≢true known)));
    born = λ w p e t k new known fork same. (refl, refl);
    other = λ pid o p k same. (ap (λ (s : SharedState). s.exit_value) (other_shared pid o p) ∙ same.0, other_action pid o.process p ∙ same.1);
  }

  reported_of_run : AfterEveryRun script config (λ r. EachProcess r.world (λ pid p. AreReported p (exit_value pid r.events, end_status pid r.events)))
  reported_of_run entries r is pid p made =
      subst (AreReported p) (sym (is_reading ends_reading (λ pid events. (exit_value pid events, end_status pid events)) (λ pid. refl)
      (λ pid e earlier. pair_if (is_in pid e) (exit_after e.what (exit_value pid earlier)) (exit_value pid earlier) (status_after e.what (end_status pid earlier)) (end_status pid earlier)) pid r.events))
      (of_made (λ n. ends_reading) (λ p k. AreReported p (k 0)) r (every_process (λ n. ends_reading) (λ p k. AreReported p (k 0)) script config (λ w p e t. Unit {0}) ends_rule (λ entries r is e p t taken. tt) entries r is) pid p made)

  -- after every run, the exit value of each process is the reported one
  pub exit_value_of_run : AfterEveryRun script config (λ r. EachProcess r.world (λ pid p. p.shared.exit_value ≡ exit_value pid r.events))
  exit_value_of_run entries r is pid p made = (reported_of_run entries r is pid p made).0

  -- and so is its status
  pub end_status_of_run : AfterEveryRun script config (λ r. EachProcess r.world (λ pid p. status_of_end p ≡ end_status pid r.events))
  end_status_of_run entries r is pid p made = (reported_of_run entries r is pid p made).1

  -- the process of a legal entry has not ended
  pub live_of_run : (before : List Entry) (r : Run) → run script config before ≡ Some r → (e : Entry) (p : Process) (t : Thread) → IsTaken script config r.world e p t → is_none (end_status e.pid r.events) ≡ true
  live_of_run before r is e p t taken =
      ap (λ (status : Option ℕ). is_none status) (sym (end_status_of_run before r is e.pid p (process_taken script config before r is e p t taken)))
      ∙ live p.ended (and_parts (nat_eq p.pid e.pid) (not (has_ended p)) (found_passes (is_live_process e.pid) r.world.processes p taken.is_process)).1
    where
      live : (end : Option ProcessEnd) → not (is_some end) ≡ true → is_none (option_map (λ (x : ProcessEnd). x.status) end) ≡ true
      live None alive = refl
      live (Some end) alive = absurd (false≢true alive)
