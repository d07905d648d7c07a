-- After every run the states of once controls are those that the events report, each is busy with a thread that was made, a thread that does
-- not exit its process is in the routines of the controls that are busy with it, and the law of pthread_once holds of the events.
use Rattle.pct_names.proofs.Names.{[], ap, Config, Entry, false, false≢true, Frame, is_empty, List, made_process, moved, OnceState}
use Rattle.pct_names.proofs.Names.{option_and_then, or_right, Process, refl, reverse, Run, run, Script, SharedState, Some, subst₂, sym}
use Rattle.pct_names.proofs.Names.{Thread, thread_with, transition_by, true, What, ℕ, ◌∙◌, ◌∷◌, ◌≡◌}
use Rattle.std.proofs.Common.{eq-eqb}
use Rattle.pct_laws.specs.Each.{each}
use Rattle.pct_laws.specs.Kept.{EachProcess, EachThreadOf, IsInItsRoutines, is_busy_with, OncesKept}
use Rattle.pct_laws.specs.OnceLaw.{allows}
use Rattle.pct_laws.specs.ThreadSummary.{ThreadSummary, summary_of}
use Rattle.pct_thread_invariants.proofs.StaticPushes.{push_matches}
use Rattle.pct_thread_invariants.proofs.ThreadsOfRun.{ProcessFits, processes_fit, threads_fit, threads_kept}
use Rattle.pct_thread_invariants.proofs.lift.ChangedThreads.{other_shared, other_threads}
use Rattle.pct_thread_invariants.proofs.lift.EveryProcess.{every_process, IsProcessRule, moves_in, of_made, process_taken}
use Rattle.pct_thread_invariants.proofs.lift.EveryThread.{of_made_thread}
use Rattle.pct_thread_invariants.proofs.lift.MadeThreads.{HasValidId}
use Rattle.pct_thread_invariants.proofs.lift.ReportedBy.{after_all, of_thread, reported_by}
use Rattle.pct_thread_invariants.proofs.lift.SummaryEnds.{begins_exit, exiting_after}
use Rattle.pct_thread_invariants.proofs.lift.TakenSteps.{AfterEveryRun, every_run, IsTaken}
use Rattle.pct_thread_invariants.proofs.lift.ThreadsAfter.{Moves, mover}
use Rattle.pct_thread_invariants.proofs.thread.KeptThreads.{exiting_by}
use Rattle.pct_thread_invariants.proofs.thread.NamedFunctions.{names_functions}
use Rattle.pct_thread_invariants.proofs.thread.ThreadRule.{FitsAny, summary}
use Rattle.pct_thread_invariants.proofs.thread.Transitions.{transition_keeps}
use Rattle.pct_once_laws.proofs.OnceStates.{control, control_reading, counted}
use Rattle.pct_once_laws.proofs.OnceTransitions.{exits}
use Rattle.pct_once_laws.proofs.RoutineThreads.{ControlsFit, fit_after, fit_born, fit_first, lawful_after, MovesInRoutines}

-- a thread that has begun to exit its process has so after more events
exits_after_all : (added : List What) (s : ThreadSummary) → s.exiting ≡ true → (after_all summary added s).exiting ≡ true
exits_after_all [] s exits = exits
exits_after_all (w ∷ added) s exits = exiting_after w (after_all summary added s) ∙ or_right (begins_exit w) (after_all summary added s).exiting (exits_after_all added s exits)

-- a list that is empty
no_frames : (frames : List Frame) → is_empty frames ≡ true → frames ≡ []
no_frames [] none = refl
no_frames (frame ∷ below) none = absurd (false≢true none)

module _ (script : Script) (config : Config) where
  -- ---- the thread of an entry

  module _ (before : List Entry) (r : Run) (is : run script config before ≡ Some r) (e : Entry) (p : Process) (t : Thread) (taken : IsTaken script config r.world e p t) where
    known : ProcessFits script config p × Moves script config r.world p e t
    known = moves_in script config (ProcessFits script config) (processes_fit script config) before r is e p t taken

    it : HasValidId p e.tid t
    it = mover script config r.world p e t known.1

    its_process : made_process e.pid r.world ≡ Some p
    its_process = process_taken script config before r is e p t taken

    -- it exits its process after the step, if it did before
    exits_on : exits t ≡ true → exits (moved (transition_by script config r.world p t e.alt) t) ≡ true
    exits_on exited =
        let s : ThreadSummary = reported_by (of_thread summary e.tid) e.pid r.events in
        let fits : FitsAny script config.passes t s = of_made_thread summary (FitsAny script config.passes) r (threads_fit script config before r is) e.pid e.tid t (ap (option_and_then (thread_with e.tid)) its_process ∙ it.found) it.here in
        let then = transition_keeps script (push_matches script) (names_functions script) config r.world p t s e.alt known.0.0.keys known.0.1 taken.offered fits in
        sym (exiting_by script _ _ _ _ _ then.own.by_status) ∙ exits_after_all (reverse (transition_by script config r.world p t e.alt).events) s (exiting_by script _ _ _ _ _ fits.by_status ∙ exited)

    in_routines : MovesInRoutines script config r.world p e t
    in_routines = record { moves = known.1; no_frame = λ none. no_frames t.frames ((threads_kept script config before r is e.pid e.tid p t its_process it.found it.here).frames ∙ none); exits_on = exits_on }

  -- ---- processes

  -- the controls of a process and the frames of its threads
  abbrev Fit : Process → (ℕ → OnceState) → Type 0
  Fit p reported = ControlsFit script p.threads p.shared.onces reported

  controls_rule : IsProcessRule control Fit script config (MovesInRoutines script config)
  controls_rule = record {
    initial = fit_first script config;
    own = λ w p e t k moves fits. fit_after script config w p e t moves k fits;
    born = λ w p e t k new moves fork fits. fit_born script config w p e t moves k fits new fork;
    other = λ pid o p k fits. subst₂ (λ (threads : List Thread) (s : SharedState). ControlsFit script threads s.onces k) (sym (other_threads pid o p)) (sym (other_shared pid o p)) fits;
  }

  fits_of_run : AfterEveryRun script config (λ r. EachProcess r.world (λ pid p. Fit p (λ o. reported_by (control o) pid r.events)))
  fits_of_run entries r is pid p made = of_made control Fit r (every_process control Fit script config (MovesInRoutines script config) controls_rule in_routines entries r is) pid p made

  -- the once controls of each process
  pub onces_kept : AfterEveryRun script config (λ r. EachProcess r.world (λ pid p. OncesKept script pid p r.events))
  onces_kept entries r is pid p made =
      let fits : Fit p (λ o. reported_by (control o) pid r.events) = fits_of_run entries r is pid p made in
      record {
        controls = fits.controls;
        states = λ o. fits.states o ∙ sym (control_reading o pid r.events);
        made = λ o tid busy. fits.made o tid (ap (is_busy_with tid) busy ∙ eq-eqb tid tid refl);
      }

  -- the threads in their routines
  pub routines_kept : AfterEveryRun script config (λ r. EachProcess r.world (λ pid p. EachThreadOf p (λ tid t. (summary_of pid tid r.events).exiting ≡ false → IsInItsRoutines p.shared.onces t)))
  routines_kept entries r is pid p made tid t found here alive o =
      counted o t.frames ∙ (fits_of_run entries r is pid p made).routines tid t found here (sym (threads_kept script config entries r is pid tid p t made found here).exiting ∙ alive) o

  -- the law of the events
  pub called_of_run : AfterEveryRun script config (λ r. each allows r.events ≡ true)
  called_of_run = every_run script config (λ r. each allows r.events ≡ true) (λ before r is e p t taken.
      lawful_after script config r.world p e t (in_routines before r is e p t taken) (λ o. reported_by (control o) e.pid r.events)
      (fits_of_run before r is e.pid p (its_process before r is e p t taken)) r.events (λ o. control_reading o e.pid r.events)) (λ some. refl)
