-- What every run keeps of each thread: the rule of the thread, and so the sentences of Kept.antt.
use Rattle.pct_names.proofs.Names.{◌&&◌, Alt, ap, Bool, Cause, choices_of, cond, Config, Entry, false, false≢true, Frame, has_valid_id, inl}
use Rattle.pct_names.proofs.Names.{inr, is_ended_status, is_forking, is_waiting_on, key_place, List, made_process, main_of, named_after}
use Rattle.pct_names.proofs.Names.{NamedAction, names_of, None, not, offers, Option, option_and_then, Process, Reason, refl, reverse, Run}
use Rattle.pct_names.proofs.Names.{run, Script, Some, Status, subst, sym, Thread, thread_with, transition_by, true, unblocked, World, ℕ}
use Rattle.pct_names.proofs.Names.{◌∙◌, ◌≡◌}
use Rattle.pct_model.specs.declared.state.Cause.TheVariants as cause
use Rattle.pct_model.specs.declared.state.FrameKind.TheVariants as kind
use Rattle.pct_model.specs.declared.state.Status.TheVariants as status
use Rattle.pct_model.specs.declared.transition.NamedAction.TheVariants as named_action
use Rattle.pct_transition_cases.proofs.TransitionCases.{is_wake_up}
use Rattle.pct_laws.specs.Kept.{is_exiting, ThreadKept, KeysKept}
use Rattle.pct_laws.specs.Each.{each}
use Rattle.pct_laws.specs.Once.{may_come, allows}
use Rattle.pct_thread_invariants.proofs.lift.EachAllowed.{each_later}
use Rattle.pct_laws.specs.ThreadSummary.{ThreadSummary, no_events, summary_of}
use Rattle.pct_thread_invariants.proofs.StaticPushes.{push_matches}
use Rattle.pct_thread_invariants.proofs.LastThreads.{last_exits}
use Rattle.pct_thread_invariants.proofs.lift.TakenSteps.{IsTaken, with_step, AfterEveryRun, every_run}
use Rattle.pct_thread_invariants.proofs.lift.ThreadsAfter.{initial_thread, Moves, mover}
use Rattle.pct_thread_invariants.proofs.lift.EveryProcess.{OfEveryProcess, process_taken, moves_in}
use Rattle.pct_thread_invariants.proofs.lift.ReportedBy.{reported_by, of_thread}
use Rattle.pct_thread_invariants.proofs.lift.EveryThread.{OfEveryThread, of_made_thread, IsThreadRule, every_thread}
use Rattle.pct_thread_invariants.proofs.exits.RegisteredFunctions.{RegistersPlain, registered_of_run}
use Rattle.pct_thread_invariants.proofs.keys.KeysOfProcesses.{KeysFit, keys_of_run}
use Rattle.pct_thread_invariants.proofs.thread.Passes.{leaves_pass}
use Rattle.pct_thread_invariants.proofs.thread.ThreadRule.{summary, summary_reading, ByStatus, ByAnyStatus, FitsAny, in_any, KeepsAny}
use Rattle.pct_thread_invariants.proofs.thread.NamedFunctions.{names_functions}
use Rattle.pct_thread_invariants.proofs.thread.Statements.{new_fits}
use Rattle.pct_thread_invariants.proofs.thread.Transitions.{transition_keeps, created_fits}
use Rattle.pct_thread_invariants.proofs.thread.Replicas.{replica_fits}
use Rattle.pct_thread_invariants.proofs.thread.KeptThreads.{kept_thread}

-- ---- the rule of one thread

module _ (script : Script) (passes : ℕ) where
  -- a thread that another one names
  named_if : (named : Bool) (changed t : Thread) (s : ThreadSummary) → FitsAny script passes changed s → FitsAny script passes t s → FitsAny script passes (cond named changed t) s
  named_if true changed t s changed_fits fits = changed_fits
  named_if false changed t s changed_fits fits = fits

  -- one that is unblocked by a signal or a broadcast: where it is suspended stays the same
  unblocked_by : (why : Cause) → is_wake_up why ≡ true → (st : Status) (reason : Reason) (frames : List Frame) (handlers : List (ℕ × ℕ)) (s : ThreadSummary) → ByStatus script st reason frames handlers s → ByStatus script (unblocked why st) reason frames handlers s
  unblocked_by cause.Signalled woken (status.Waiting c m) reason frames handlers s by = (by.0, by.1, λ leaves. absurd (false≢true leaves))
  unblocked_by cause.Broadcast woken (status.Waiting c m) reason frames handlers s by = (by.0, by.1, λ leaves. absurd (false≢true leaves))
  unblocked_by _ woken (status.Waiting c m) reason frames handlers s by = absurd (false≢true woken)
  unblocked_by why woken _ reason frames handlers s by = by

  any_unblocked : (why : Cause) → is_wake_up why ≡ true → (st : Status) (reason : Reason) (frames : List Frame) (handlers : List (ℕ × ℕ)) (s : ThreadSummary) → ByAnyStatus script st reason frames handlers s → ByAnyStatus script (unblocked why st) reason frames handlers s
  any_unblocked why woken st reason frames handlers s (inl by) = inl (unblocked_by why woken st reason frames handlers s by)
  any_unblocked why woken status.Running reason frames handlers s (inr exits) = inr exits
  any_unblocked why woken _ reason frames handlers s (inr exits) = absurd exits

  unblocked_fits : (why : Cause) → is_wake_up why ≡ true → (t : Thread) (s : ThreadSummary) → FitsAny script passes t s → FitsAny script passes (record t { status = unblocked why t.status }) s
  unblocked_fits why woken t s fits = record { agrees = fits.agrees; placed = fits.placed; by_status = any_unblocked why woken t.status t.reason t.frames t.handlers s fits.by_status; in_passes = fits.in_passes }

  named_fits : (a : Option NamedAction) (t : Thread) (s : ThreadSummary) → FitsAny script passes t s → FitsAny script passes (named_after a t) s
  unfolding named_after
  named_fits (Some (named_action.EndJoin id)) t s fits = named_if (has_valid_id id t) (record t { joined = true }) t s fits fits
  named_fits (Some (named_action.Request id)) t s fits = named_if (has_valid_id id t && not t.ended) (record t { pending = true }) t s fits fits
  named_fits (Some (named_action.Detach id)) t s fits = named_if (has_valid_id id t) (record t { detached = true }) t s fits fits
  named_fits (Some (named_action.Wake id)) t s fits = named_if (has_valid_id id t) (record t { status = unblocked cause.Signalled t.status }) t s (unblocked_fits cause.Signalled refl t s fits) fits
  named_fits (Some (named_action.WakeAll c)) t s fits = named_if (is_waiting_on c t.status) (record t { status = unblocked cause.Broadcast t.status }) t s (unblocked_fits cause.Broadcast refl t s fits) fits
  named_fits (Some (named_action.ForgetKey k)) t s fits = record {
    agrees = fits.agrees;
    placed = fits.placed;
    by_status = fits.by_status;
    in_passes = leaves_pass passes t.pass t.specific.in_pass s.passes s.destroyed fits.in_passes (key_place k);
  }
  named_fits None t s fits = fits

-- a thread that exits its process does not have the status of its end
pub exiting_alive : (s : Status) (frames : List Frame) → is_exiting s frames ≡ true → is_ended_status s ≡ false
exiting_alive (status.Ended v) frames exits = absurd (false≢true exits)
exiting_alive _ frames exits = refl

module _ (script : Script) (config : Config) where
  abbrev passes : ℕ
  passes = config.passes

  -- what is known of the process of a thread: its keys are kept, and its registered functions are plain
  abbrev pub ProcessFits : Process → Type 0
  ProcessFits p = KeysFit script p × RegistersPlain script p.shared

  keeps : (w : World) (p : Process) (t : Thread) (s : ThreadSummary) (choice : Alt) → ProcessFits p → offers (choices_of script config w p t) choice ≡ true → FitsAny script passes t s → KeepsAny script passes t s (transition_by script config w p t choice)
  keeps w p t s choice known = transition_keeps script (push_matches script) (names_functions script) config w p t s choice known.0.keys known.1

  -- each thread keeps the rule, in such a process
  pub thread_rule : IsThreadRule summary (FitsAny script passes) script config ProcessFits
  thread_rule = record {
    initial = in_any script passes (initial_thread script) no_events (new_fits script passes (push_matches script) 1 (main_of (names_of script.funcs)) 0 false kind.Main (names_functions script).main (refl, refl));
    created = λ w p t s choice new known offered fits is. created_fits script (push_matches script) (names_functions script) config w p t choice known.0.keys known.1 offered new is;
    named = named_fits script passes;
    kept = λ w p t s choice known offered fits. (keeps w p t s choice known offered fits).own;
    replica = λ w p t s at known forks fits. replica_fits script passes t s (ap is_forking forks) fits;
  }

  -- ---- runs

  pub processes_fit : AfterEveryRun script config (OfEveryProcess ProcessFits)
  processes_fit entries r is pid p made = (keys_of_run script config entries r is pid p made, registered_of_run script config entries r is pid p made)

  -- after every run, the rule holds of every thread
  pub threads_fit : AfterEveryRun script config (OfEveryThread summary (FitsAny script passes))
  threads_fit = every_thread summary (FitsAny script passes) script config ProcessFits thread_rule processes_fit

  once_kept : (before : List Entry) (r : Run) → run script config before ≡ Some r → (e : Entry) (p : Process) (t : Thread) → IsTaken script config r.world e p t → each (allows passes) r.events ≡ true → each (allows passes) (with_step e (transition_by script config r.world p t e.alt) r).events ≡ true
  once_kept before r is e p t taken once =
      let known : ProcessFits p × Moves script config r.world p e t = moves_in script config ProcessFits processes_fit before r is e p t taken in
      let fits : FitsAny script passes t (reported_by (of_thread summary e.tid) e.pid r.events) = of_made_thread summary (FitsAny script passes) r (threads_fit before r is) e.pid e.tid t (ap (option_and_then (thread_with e.tid)) (process_taken script config before r is e p t taken) ∙ (mover script config r.world p e t known.1).found) (mover script config r.world p e t known.1).here in
      each_later summary (may_come passes) summary_of summary_reading e r.events (reverse (transition_by script config r.world p t e.alt).events) (keeps r.world p t (reported_by (of_thread summary e.tid) e.pid r.events) e.alt known.0 taken.offered fits).lawful once

  -- the law of cleanup handlers and destructors
  pub once_of_run : AfterEveryRun script config (λ r. each (allows passes) r.events ≡ true)
  once_of_run = every_run script config (λ r. each (allows passes) r.events ≡ true) once_kept (λ some. refl)

  module _ (entries : List Entry) (r : Run) (is : run script config entries ≡ Some r) where
    -- the keys of a process
    pub keys_kept : (pid : ℕ) (p : Process) → made_process pid r.world ≡ Some p → KeysKept script p.shared.keys
    keys_kept pid p made = (keys_of_run script config entries r is pid p made).keys

    -- a thread of a process that was made and is not gone
    pub threads_kept : (pid tid : ℕ) (p : Process) (t : Thread) → made_process pid r.world ≡ Some p → thread_with tid p ≡ Some t → t.gone ≡ false → ThreadKept script p.shared.keys t (summary_of pid tid r.events)
    threads_kept pid tid p t made found here =
        let fits : FitsAny script passes t (summary_of pid tid r.events) = subst (FitsAny script passes t) (sym (summary_reading tid pid r.events)) (of_made_thread summary (FitsAny script passes) r (threads_fit entries r is) pid tid t (ap (option_and_then (thread_with tid)) made ∙ found) here) in
        let keys : KeysFit script p = keys_of_run script config entries r is pid p made in
        kept_thread script passes p.shared.keys t (summary_of pid tid r.events) keys.keys (keys.empty tid t found) fits

    -- the last thread of a process
    pub last_kept : (pid : ℕ) (p : Process) → made_process pid r.world ≡ Some p → (tid : ℕ) (t : Thread) → thread_with tid p ≡ Some t → t.gone ≡ false → t.ended ≡ true → (summary_of pid tid r.events).exiting ≡ true → (id : ℕ) (other : Thread) → thread_with id p ≡ Some other → other.gone ≡ false → other.ended ≡ true
    last_kept pid p made tid t found here ended exits =
        let kept : ThreadKept script p.shared.keys t (summary_of pid tid r.events) = threads_kept pid tid p t made found here in
        last_exits script config threads_fit entries r is pid p made tid t found (here, ended, exiting_alive t.status t.frames (sym kept.exiting ∙ exits))
