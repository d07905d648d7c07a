-- The law of frames: what each step of a run does to the frames of its thread.
use Rattle.pct_names.proofs.Names.{[], ap, ap₂, body_at, Bool, cond, Config, Entry, Environment, environment_of, false, Frame, has_no_frame}
use Rattle.pct_names.proofs.Names.{List, made_thread, map, moved, next_of, NextStatement, NoStatement, option_and_then, Process, refl, Run}
use Rattle.pct_names.proofs.Names.{run, Script, Some, sym, Thread, thread_moved, thread_with, Transition, transition_by, true, ◌∙◌, ◌≡◌}
use Rattle.std.proofs.lemmas.Bool.{true≢false}
use Rattle.pct_model.specs.LineParsing.{is_empty}
use Rattle.pct_laws.specs.FrameLaw.{Call, FrameLaw, MovesFrames, places, its_calls, locals_at_call, StaysInHandler}
use Rattle.pct_laws.specs.Kept.{ForkKept}
use Rattle.pct_laws.specs.ThreadSummary.{ThreadSummary}
use Rattle.pct_transition_cases.proofs.PlacedStatements.{is_placed}
use Rattle.pct_transition_cases.proofs.TransitionCases.{TransitionCase}
use Rattle.pct_thread_invariants.proofs.ThreadsOfRun.{threads_fit}
use Rattle.pct_thread_invariants.proofs.lift.EveryProcess.{moves_of_run, process_taken}
use Rattle.pct_thread_invariants.proofs.lift.EveryThread.{of_made_thread}
use Rattle.pct_thread_invariants.proofs.lift.MovedThreads.{each_step, EveryStep, step_of, case_of_step, every_step}
use Rattle.pct_thread_invariants.proofs.lift.ReportedBy.{reported_by, of_thread}
use Rattle.pct_thread_invariants.proofs.lift.TakenSteps.{IsTaken}
use Rattle.pct_thread_invariants.proofs.lift.ThreadsAfter.{Moves, mover}
use Rattle.pct_thread_invariants.proofs.thread.ThreadRule.{FitsAny, summary}
use Rattle.pct_process_laws.proofs.ForksOfRun.{forks_of_run}
use Rattle.pct_frame_laws.proofs.frames.BusyChoices.{always_busy}
use Rattle.pct_frame_laws.proofs.frames.BusyThreads.{any_busy, no_frames}
use Rattle.pct_frame_laws.proofs.frames.FrameCases.{case_calls, case_leaves, is_idle, LeavesIts}
use Rattle.pct_frame_laws.proofs.frames.HandlerFrames.{stays_of_run}
use Rattle.pct_frame_laws.proofs.frames.MovedFrames.{first_locals, frames_by, made, moved_locals, moved_places, runs_by}

module _ (script : Script) (config : Config) where
  module _ (before : List Entry) (r : Run) (is : run script config before ≡ Some r) (e : Entry) (p : Process) (t : Thread) (taken : IsTaken script config r.world e p t) where
    abbrev o : Transition
    o = transition_by script config r.world p t e.alt

    abbrev environment : Environment
    environment = environment_of config r.world p t.id

    abbrev next : NextStatement
    next = next_of script t.frames

    moves : Moves script config r.world p e t
    moves = moves_of_run script config before r is e p t taken

    case : TransitionCase config.passes (body_at script t.frames) p.shared t environment true next t.status o
    case = case_of_step script config r.world p e t moves

    made_is : made_thread e.pid e.tid r.world ≡ Some t
    made_is = ap (option_and_then (thread_with e.tid)) (process_taken script config before r is e p t taken) ∙ (mover script config r.world p e t moves).found

    abbrev reported : ThreadSummary
    reported = reported_by (of_thread summary e.tid) e.pid r.events

    fits : FitsAny script config.passes t reported
    fits = of_made_thread summary (FitsAny script config.passes) r (threads_fit script config before r is) e.pid e.tid t made_is (mover script config r.world p e t moves).here

    fork : ForkKept script t.status t.frames t.kept
    fork = forks_of_run script config before r is e.pid e.tid t made_is (mover script config r.world p e t moves).here

    -- a thread in a function has something to do
    pub busy : has_no_frame t.status ≡ false → is_idle o ≡ false
    busy inside =
        always_busy config.passes (body_at script t.frames) p.shared t environment e.alt next t.status taken.offered
        (any_busy script t.status t.frames t.reason t.handlers t.kept reported fits.by_status fork.keeps) inside

    outside : has_no_frame t.status ≡ true → t.frames ≡ []
    outside none = no_frames script t.status t.frames t.reason t.handlers reported fits.by_status none

    idle : is_idle o ≡ true → next ≡ NoStatement
    idle nothing = by_status (has_no_frame t.status) refl
      where
        by_status : (none : Bool) → has_no_frame t.status ≡ none → next ≡ NoStatement
        by_status true none = ap (next_of script) (outside none)
        by_status false some = absurd (true≢false (sym nothing ∙ busy some))

    calls_are : its_calls script (step_of script config r p e t) ≡ made o.own
    calls_are = case_calls config.passes (body_at script t.frames) p.shared t environment case idle

    frames_are : (thread_moved e.tid o t).frames ≡ (moved o t).frames
    frames_are = frames_by e.tid o t ∙ ap (λ (live : Bool). (cond live (moved o t) t).frames) (mover script config r.world p e t moves).valid

    leaves : LeavesIts (body_at script t.frames) p.shared t.frames next t.status o
    leaves = case_leaves config.passes p.shared t environment t.frames (is_placed script t.frames) outside busy case

    arguments_are : first_locals (its_calls script (step_of script config r p e t)) (thread_moved e.tid o t).frames ≡ map locals_at_call (its_calls script (step_of script config r p e t))
    arguments_are = ap₂ first_locals calls_are frames_are ∙ moved_locals o t ∙ ap (λ (calls : List Call). map locals_at_call calls) (sym calls_are)

    frames_of_step : MovesFrames script (step_of script config r p e t)
    frames_of_step = record {
      places = ap (λ (frames : List Frame). places frames) frames_are ∙ moved_places o t ∙ leaves;
      arguments = arguments_are;
      runs = λ calls. runs_by e.tid o t (mover script config r.world p e t moves).valid (sym (ap (λ (made : List Call). is_empty made) calls_are) ∙ calls);
    }

  -- each step does to the frames of its thread what the law has
  frames_of_run : EveryStep script config (MovesFrames script)
  frames_of_run = every_step script config (MovesFrames script) frames_of_step

  -- the law of frames, of every run
  pub frame_law : (entries : List Entry) → FrameLaw script config entries
  frame_law entries = record {
    frames = each_step script config (MovesFrames script) frames_of_run entries;
    handlers = each_step script config StaysInHandler (stays_of_run script config) entries;
  }
