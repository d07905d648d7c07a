-- What each thread keeps, beside what the events report of it: the facts of Kept.antt, arranged by the status of the thread.
use Rattle.pct_names.proofs.Names.{◌<◌, [], AllByRecursion, and_parts, body_of, Bool, Cause, Disable, Event, false, Frame, FrameKind}
use Rattle.pct_names.proofs.Names.{has_begun_to_end, has_left_wait, inl, inr, is_some, is_timed_wait, length, List, moved, next_of}
use Rattle.pct_names.proofs.Names.{NextStatement, None, Reason, refl, reverse, Script, Some, State, Status, Thread, Transition, true, What}
use Rattle.pct_names.proofs.Names.{◌||◌, ℕ, ◌∷◌, ◌≡◌, ◌⊎◌}
use Rattle.pct_model.specs.declared.state.Cause.TheVariants as cause
use Rattle.pct_model.specs.declared.state.FrameKind.TheVariants as kind
use Rattle.pct_model.specs.declared.state.Reason.TheVariants as reason
use Rattle.pct_model.specs.declared.state.Status.TheVariants as status
use Rattle.std.proofs.lemmas.Bool.{true≢false}
use Rattle.pct_model.specs.declared.event.What.TheVariants as what
use Rattle.pct_laws.specs.Kept.{AreOpen, open_functions, is_join, is_call_of, is_at_fork, is_cond_wait_of, IsSuspendedAt, IsPlainFunction}
use Rattle.pct_laws.specs.ThreadSummary.{ThreadSummary, no_events, with_event, summary_of}
use Rattle.pct_laws.specs.CancelLaw.{is_running}
use Rattle.pct_laws.specs.Once.{may_come}
use Rattle.pct_thread_invariants.proofs.lift.EachAllowed.{all_may}
use Rattle.pct_thread_invariants.proofs.lift.ReportedBy.{after_all, reported_by, ThreadReading, of_thread, is_thread_reading}
use Rattle.pct_thread_invariants.proofs.thread.Passes.{PassesFit}

-- ---- what the events report of a thread

-- the reading of the summary of a thread
abbrev pub summary : ThreadReading ThreadSummary
summary = record { start = no_events; next = with_event; inherits = true; replica = λ parent s. record s { handlers = parent.handlers } }

pub summary_reading : (tid pid : ℕ) (events : List Event) → summary_of pid tid events ≡ reported_by (of_thread summary tid) pid events
summary_reading tid = is_thread_reading summary tid (λ pid events. summary_of pid tid events) (λ pid. refl) (λ pid e earlier. refl)

-- each of some events of a thread, newest first, may come after those before it, with a limit on the passes over destructors
abbrev pub AllMayCome : ℕ → List What → ThreadSummary → Type 0
AllMayCome passes added s = all_may summary (may_come passes) added s ≡ true

-- these events are that a function registered with atexit is called
abbrev pub calls_exit_function : List What → Bool
calls_exit_function (what.ExitRun f ∷ []) = true
calls_exit_function _ = false

-- ---- condition waits

-- a thread that was unblocked is at its condition wait
pub in_wait : (next : NextStatement) (c m : ℕ) (why : Cause) → IsSuspendedAt next (status.Reacquire c m why) → IsSuspendedAt next (status.Waiting c m)
in_wait next c m cause.TimedOut at = (and_parts (is_cond_wait_of c m next) (is_timed_wait next) at).0
in_wait next c m _ at = at

-- ---- frames

module _ (script : Script) where
  -- what is below a frame of a kind, in a thread with a reason to end; `below_fits` is that the frames below fit it. The thread of a fork
  -- handler is in fork there, and has not begun to end
  abbrev pub Below : FrameKind → Reason → List Frame → Type 0 → Type 0
  Below kind.Main why below below_fits = (why ≡ reason.None) × (below ≡ [])
  Below kind.Start why below below_fits = (why ≡ reason.None) × (below ≡ [])
  Below kind.Handler why below below_fits = (has_begun_to_end why ≡ true) × (below ≡ [])
  Below kind.Destructor why below below_fits = (has_begun_to_end why ≡ true) × (below ≡ [])
  Below kind.Call why below below_fits = below_fits
  Below kind.PopHandler why below below_fits = below_fits
  Below kind.ForkFn why below below_fits = below_fits × (is_at_fork (next_of script below) ≡ true) × (has_begun_to_end why ≡ false)
  Below kind.ExitFn why below below_fits = ⊥
  Below (kind.OnceFn o) why below below_fits = below_fits

  -- the frames of a thread with a reason to end fit it
  abbrev pub FramesFit : Reason → List Frame → Type 0
  FramesFit why [] = ⊥
  FramesFit why (frame ∷ below) = Below frame.kind why below (FramesFit why below)

  -- the function of a handler is one of the script
  abbrev pub IsHandler : ℕ × ℕ → Type 0
  IsHandler handler = handler.0 < length script.funcs

  -- a frame is at a place of its function
  abbrev pub IsPlaced : Frame → Type 0
  IsPlaced frame = frame.pc < length (body_of script frame.func)

  -- ---- by status

  -- a thread with frames: it has not begun to exit its process
  abbrev pub HasFrames : Reason → List Frame → List (ℕ × ℕ) → ThreadSummary → Type 0
  HasFrames why frames handlers s = record {
    not_ended : s.ended ≡ None;
    not_exiting : s.exiting ≡ false;
    fit : FramesFit why frames;
    pushes : AreOpen (open_functions script frames) handlers s.left;
  }

  -- a thread that goes on to run its handlers, and then the destructors of its data
  abbrev pub GoesToHandlers : Reason → List Frame → List (ℕ × ℕ) → ThreadSummary → Type 0
  GoesToHandlers why frames handlers s = record {
    no_frames : frames ≡ [];
    has_reason : has_begun_to_end why ≡ true;
    are_left : handlers ≡ s.left;
    not_ended : s.ended ≡ None;
    not_exiting : s.exiting ≡ false;
  }

  -- a thread that has ended with a value
  abbrev pub HasEnded : ℕ → Reason → List Frame → List (ℕ × ℕ) → ThreadSummary → Type 0
  HasEnded v why frames handlers s = record {
    no_frames : frames ≡ [];
    has_reason : has_begun_to_end why ≡ true;
    no_handlers : handlers ≡ [];
    none_left : s.left ≡ [];
    value : s.ended ≡ Some v;
    not_exiting : s.exiting ≡ false;
  }

  -- a thread, by its status: where it is suspended, and that it has not begun to end while it leaves a wait or is in fork
  abbrev pub ByStatus : Status → Reason → List Frame → List (ℕ × ℕ) → ThreadSummary → Type 0
  ByStatus status.Running why frames handlers s = HasFrames why frames handlers s
  ByStatus (status.AtPoint index) why frames handlers s = HasFrames why frames handlers s × (is_call_of index (next_of script frames) ≡ true)
  ByStatus (status.Joining id) why frames handlers s = HasFrames why frames handlers s × (is_join (next_of script frames) ≡ true)
  ByStatus (status.InSem sem) why frames handlers s = HasFrames why frames handlers s × IsSuspendedAt (next_of script frames) (status.InSem sem)
  ByStatus (status.InWaitPid pid) why frames handlers s = HasFrames why frames handlers s × IsSuspendedAt (next_of script frames) (status.InWaitPid pid)
  ByStatus (status.Waiting c m) why frames handlers s = HasFrames why frames handlers s × IsSuspendedAt (next_of script frames) (status.Waiting c m)
  ByStatus (status.Reacquire c m cause) why frames handlers s = HasFrames why frames handlers s × IsSuspendedAt (next_of script frames) (status.Reacquire c m cause) × (has_left_wait (status.Reacquire c m cause) ≡ true → has_begun_to_end why ≡ false)
  ByStatus (status.Forking at) why frames handlers s = HasFrames why frames handlers s × IsSuspendedAt (next_of script frames) (status.Forking at) × (has_begun_to_end why ≡ false)
  ByStatus status.Ending why frames handlers s = GoesToHandlers why frames handlers s
  ByStatus (status.Ended v) why frames handlers s = HasEnded v why frames handlers s
  ByStatus status.Exiting why frames handlers s = (frames ≡ []) × (s.exiting ≡ true)

  -- a thread that runs a function registered with atexit, in its only frame
  abbrev pub RunsExitFunction : Status → List Frame → ThreadSummary → Type 0
  RunsExitFunction status.Running (frame ∷ []) s = (frame.kind ≡ kind.ExitFn) × IsPlainFunction script frame.func × (s.exiting ≡ true)
  RunsExitFunction _ _ s = ⊥

  -- a thread, by its status, in any function
  abbrev pub ByAnyStatus : Status → Reason → List Frame → List (ℕ × ℕ) → ThreadSummary → Type 0
  ByAnyStatus st why frames handlers s = ByStatus st why frames handlers s ⊎ RunsExitFunction st frames s

  -- a thread that is not Running runs no such function
  pub outside_exit : (why : Reason) (handlers : List (ℕ × ℕ)) (s : ThreadSummary) (st : Status) (frames : List Frame) → is_running st ≡ false → ByAnyStatus st why frames handlers s → ByStatus st why frames handlers s
  outside_exit why handlers s st frames other (inl by_status) = by_status
  outside_exit why handlers s status.Running frames other (inr exits) = absurd (true≢false other)
  outside_exit why handlers s _ frames other (inr exits) = absurd exits

  -- ---- threads

  -- the handlers, the reason and the end of a thread are those that its events report
  abbrev pub Agrees : List (ℕ × ℕ) → Reason → Bool → State → ThreadSummary → Type 0
  Agrees handlers why ended state s = record {
    handlers_agree : s.handlers ≡ handlers;
    reason : s.reason ≡ why;
    end : is_some s.ended ≡ ended;
    functions : AllByRecursion IsHandler handlers;
    disabled : (has_begun_to_end why || s.exiting) ≡ true → state ≡ Disable;
    none_left : has_begun_to_end why ≡ false → s.left ≡ [];
  }

  module _ (passes : ℕ) where
    -- a thread and what its events report, with what its status asks
    abbrev pub FitsBy : (Status → Reason → List Frame → List (ℕ × ℕ) → ThreadSummary → Type 0) → Thread → ThreadSummary → Type 0
    FitsBy Asks t s = record {
      agrees : Agrees t.handlers t.reason t.ended t.state s;
      placed : AllByRecursion IsPlaced t.frames;
      by_status : Asks t.status t.reason t.frames t.handlers s;
      in_passes : PassesFit passes t.pass t.specific.in_pass s.passes s.destroyed;
    }

    -- a thread that runs no function registered with atexit
    abbrev pub Fits : Thread → ThreadSummary → Type 0
    Fits t s = FitsBy ByStatus t s

    -- any thread
    abbrev pub FitsAny : Thread → ThreadSummary → Type 0
    FitsAny t s = FitsBy ByAnyStatus t s

    pub in_any : (t : Thread) (s : ThreadSummary) → Fits t s → FitsAny t s
    in_any t s fits = record { agrees = fits.agrees; placed = fits.placed; by_status = inl fits.by_status; in_passes = fits.in_passes }

    -- a thread, where it may run such a function and where not
    abbrev pub FitsIf : Bool → Thread → ThreadSummary → Type 0
    FitsIf true t s = FitsAny t s
    FitsIf false t s = Fits t s

    -- ---- transitions

    -- a thread fits its events after a transition, the events of which may come
    pub record KeepsBy (F : Thread → ThreadSummary → Type 0) (t : Thread) (reported : ThreadSummary) (o : Transition) : Type 0 where
      pub own : F (moved o t) (after_all summary (reverse o.events) reported)
      pub lawful : AllMayCome passes (reverse o.events) reported

    abbrev pub Keeps : Thread → ThreadSummary → Transition → Type 0
    Keeps t reported o = KeepsBy Fits t reported o

    abbrev pub KeepsAny : Thread → ThreadSummary → Transition → Type 0
    KeepsAny t reported o = KeepsBy FitsAny t reported o
