-- What a thread keeps, in the sentences of Kept.antt.
use Rattle.pct_names.proofs.Names.{[], All-from_recursion, AllByRecursion, ap, Bool, false, false≢true, Frame, FrameKind}
use Rattle.pct_names.proofs.Names.{get_or_from_slice_get, has_begun_to_end, has_left_wait, has_no_frame, inl, inr, is_empty}
use Rattle.pct_names.proofs.Names.{is_ended_status, is_fork_kind, is_forking, is_some, KeyPlace, List, list_any, next_of, None}
use Rattle.pct_names.proofs.Names.{option_map_or, or_cases, or_parts, Reason, refl, Script, Status, subst, sym, Thread, true, without_first}
use Rattle.pct_names.proofs.Names.{◌||◌, ℕ, ◌∙◌, ◌∷◌, ◌≡◌}
use Rattle.pct_model.specs.declared.state.FrameKind.TheVariants as kind
use Rattle.pct_model.specs.declared.state.Status.TheVariants as status
use Rattle.pct_laws.specs.Kept.{KeysKept, AreOpen, open_functions, HasOneBottom, bottom_kind, is_bottom_kind, is_end_kind, is_exit_kind}
use Rattle.pct_laws.specs.Kept.{is_ending_status, is_exiting, is_in_fork_handler, is_at_fork, IsSuspendedAt, IsPlainFunction, ThreadKept}
use Rattle.pct_laws.specs.ThreadSummary.{ThreadSummary}
use Rattle.pct_thread_invariants.proofs.keys.KeptKeys.{AreEmpty}
use Rattle.pct_thread_invariants.proofs.keys.LeftKeys.{on_own_place}
use Rattle.pct_thread_invariants.proofs.thread.Passes.{is_in, not_taken}
use Rattle.pct_thread_invariants.proofs.thread.ThreadRule.{Below, FramesFit, IsHandler, IsPlaced, HasFrames, GoesToHandlers, HasEnded}
use Rattle.pct_thread_invariants.proofs.thread.ThreadRule.{ByStatus, ByAnyStatus, outside_exit, FitsAny}
use Rattle.pct_laws.specs.CancelLaw.{is_running}

-- ---- frames

-- where no frame is of some kinds, a fact about the function of each frame of these kinds is true
pub none_of : (is : FrameKind → Bool) (P : ℕ → Type 0) (frames : List Frame) → list_any (λ (frame : Frame). is frame.kind) frames ≡ false → AllByRecursion (λ (frame : Frame). is frame.kind ≡ true → P frame.func) frames
none_of is P [] none = tt
none_of is P (frame ∷ below) none =
    let parts : (is frame.kind ≡ false) × (list_any (λ (f : Frame). is f.kind) below ≡ false) = or_parts (is frame.kind) (list_any (λ (f : Frame). is f.kind) below) none in
    (λ of. absurd (false≢true (sym parts.0 ∙ of)), none_of is P below parts.1)

-- what fits a thread with a reason to end, of its frames
pub record FrameFacts (why : Reason) (frames : List Frame) : Type 0 where
  pub some : is_empty frames ≡ false
  pub bottom : HasOneBottom frames
  pub has_reason : has_begun_to_end why ≡ option_map_or is_end_kind (bottom_kind frames) false
  pub no_exit : list_any (λ (frame : Frame). is_exit_kind frame.kind) frames ≡ false
  pub not_exiting : is_exiting status.Running frames ≡ false

module _ (script : Script) (why : Reason) (frame : Frame) where
  -- the frame, with a kind
  abbrev of_kind : FrameKind → Frame
  of_kind k = record frame { kind = k }

  -- a bottom frame
  alone : (k : FrameKind) (below : List Frame) → below ≡ [] → FrameFacts why (of_kind k ∷ []) → FrameFacts why (of_kind k ∷ below)
  alone k below none facts = subst (λ (fs : List Frame). FrameFacts why (of_kind k ∷ fs)) (sym none) facts

  -- a frame above others
  above : (k : FrameKind) (below : List Frame) → is_bottom_kind k ≡ false → is_exit_kind k ≡ false → FrameFacts why below → FrameFacts why (of_kind k ∷ below)
  above k [] inner not_exit facts = absurd (false≢true (sym facts.some))
  above k (next ∷ below) inner not_exit facts = record {
    some = refl;
    bottom = (inner, facts.bottom);
    has_reason = facts.has_reason;
    no_exit = ap (λ (b : Bool). b || list_any (λ (f : Frame). is_exit_kind f.kind) (next ∷ below)) not_exit ∙ facts.no_exit;
    not_exiting = refl;
  }

  facts_by : (k : FrameKind) (below : List Frame) → (FramesFit script why below → FrameFacts why below) → Below script k why below (FramesFit script why below) → FrameFacts why (of_kind k ∷ below)
  facts_by kind.Main below rest fit = alone kind.Main below fit.1 (record { some = refl; bottom = (refl, tt); has_reason = ap has_begun_to_end fit.0; no_exit = refl; not_exiting = refl })
  facts_by kind.Start below rest fit = alone kind.Start below fit.1 (record { some = refl; bottom = (refl, tt); has_reason = ap has_begun_to_end fit.0; no_exit = refl; not_exiting = refl })
  facts_by kind.Handler below rest fit = alone kind.Handler below fit.1 (record { some = refl; bottom = (refl, tt); has_reason = fit.0; no_exit = refl; not_exiting = refl })
  facts_by kind.Call below rest fit = above kind.Call below refl refl (rest fit)
  facts_by kind.PopHandler below rest fit = above kind.PopHandler below refl refl (rest fit)
  facts_by kind.Destructor below rest fit = alone kind.Destructor below fit.1 (record { some = refl; bottom = (refl, tt); has_reason = fit.0; no_exit = refl; not_exiting = refl })
  facts_by kind.ForkFn below rest fit = above kind.ForkFn below refl refl (rest fit.0)
  facts_by kind.ExitFn below rest fit = absurd fit
  facts_by (kind.OnceFn o) below rest fit = above (kind.OnceFn o) below refl refl (rest fit)

-- the frames of a thread that has not begun to exit its process
pub frame_facts : (script : Script) (why : Reason) (frames : List Frame) → FramesFit script why frames → FrameFacts why frames
frame_facts script why [] fit = absurd fit
frame_facts script why (frame ∷ below) fit = facts_by script why frame frame.kind below (λ rest. frame_facts script why below rest) fit

-- ---- statuses

module _ (script : Script) where
  -- the function of a frame is plain, if it is registered with atexit
  abbrev IsExitFrame : Frame → Type 0
  IsExitFrame frame = is_exit_kind frame.kind ≡ true → IsPlainFunction script frame.func

  -- the facts of ThreadKept that depend on the status
  record StatusFacts (st : Status) (why : Reason) (frames : List Frame) (handlers : List (ℕ × ℕ)) (s : ThreadSummary) : Type 0 where
    ended_status : is_some s.ended ≡ true → s.exiting ≡ false → is_ended_status st ≡ true
    pushes : s.exiting ≡ false → AreOpen (open_functions script frames) handlers s.left
    no_frame : is_empty frames ≡ has_no_frame st
    bottom : HasOneBottom frames
    has_reason : s.exiting ≡ false → has_begun_to_end why ≡ (is_ending_status st || option_map_or is_end_kind (bottom_kind frames) false)
    exiting : s.exiting ≡ is_exiting st frames
    exit_functions : s.exiting ≡ false → list_any (λ (frame : Frame). is_exit_kind frame.kind) frames ≡ false
    exit_frames : AllByRecursion IsExitFrame frames

  module _ (why : Reason) (handlers : List (ℕ × ℕ)) (s : ThreadSummary) where
    -- where no thread has begun to end
    no_end : s.ended ≡ None → is_some s.ended ≡ true → ⊥
    no_end none some = false≢true (sym (ap is_some none) ∙ some)

    never_exits : (st : Status) (frames : List Frame) → has_no_frame st ≡ false → is_exiting status.Running frames ≡ false → is_exiting st frames ≡ false
    never_exits status.Running frames framed inside = inside
    never_exits status.Exiting frames framed inside = absurd (false≢true (sym framed))
    never_exits _ [] framed inside = refl
    never_exits _ (frame ∷ below) framed inside = refl

    -- a thread that has frames, does not exit its process, and has not the status of one that is ending
    of_framed : (st : Status) (frames : List Frame) → has_no_frame st ≡ false → is_ending_status st ≡ false → HasFrames script why frames handlers s → StatusFacts st why frames handlers s
    of_framed st frames framed alive_status has =
        let facts : FrameFacts why frames = frame_facts script why frames has.fit in
        record {
          ended_status = λ some alive. absurd (no_end has.not_ended some);
          pushes = λ alive. has.pushes;
          no_frame = facts.some ∙ sym framed;
          bottom = facts.bottom;
          has_reason = λ alive. facts.has_reason ∙ ap (λ (b : Bool). b || option_map_or is_end_kind (bottom_kind frames) false) (sym alive_status);
          exiting = has.not_exiting ∙ sym (never_exits st frames framed facts.not_exiting);
          exit_functions = λ alive. facts.no_exit;
          exit_frames = none_of is_exit_kind (IsPlainFunction script) frames facts.no_exit;
        }

    of_ending : GoesToHandlers script why [] handlers s → StatusFacts status.Ending why [] handlers s
    of_ending goes = record {
      ended_status = λ some alive. absurd (no_end goes.not_ended some);
      pushes = λ alive. record { pushed = []; parts = goes.are_left; named = refl };
      no_frame = refl;
      bottom = tt;
      has_reason = λ alive. goes.has_reason;
      exiting = goes.not_exiting;
      exit_functions = λ alive. refl;
      exit_frames = tt;
    }

    of_ended : (v : ℕ) → HasEnded script v why [] handlers s → StatusFacts (status.Ended v) why [] handlers s
    of_ended v has = record {
      ended_status = λ some alive. refl;
      pushes = λ alive. record { pushed = []; parts = has.no_handlers ∙ sym has.none_left; named = refl };
      no_frame = refl;
      bottom = tt;
      has_reason = λ alive. has.has_reason;
      exiting = has.not_exiting;
      exit_functions = λ alive. refl;
      exit_frames = tt;
    }

    -- a thread that exits its process
    of_exiting : (st : Status) (frames : List Frame) → s.exiting ≡ true → is_empty frames ≡ has_no_frame st → HasOneBottom frames → is_exiting st frames ≡ true → AllByRecursion IsExitFrame frames → StatusFacts st why frames handlers s
    of_exiting st frames exits no_frame bottom status_exits plain = record {
      ended_status = λ some alive. absurd (false≢true (sym alive ∙ exits));
      pushes = λ alive. absurd (false≢true (sym alive ∙ exits));
      no_frame = no_frame;
      bottom = bottom;
      has_reason = λ alive. absurd (false≢true (sym alive ∙ exits));
      exiting = exits ∙ sym status_exits;
      exit_functions = λ alive. absurd (false≢true (sym alive ∙ exits));
      exit_frames = plain;
    }

    without_frames : (st : Status) (frames : List Frame) → frames ≡ [] → (ByStatus script st why [] handlers s → StatusFacts st why [] handlers s) → ByStatus script st why frames handlers s → StatusFacts st why frames handlers s
    without_frames st frames none facts by =
        subst (λ (fs : List Frame). StatusFacts st why fs handlers s) (sym none) (facts (subst (λ (fs : List Frame). ByStatus script st why fs handlers s) none by))

    of_status : (st : Status) (frames : List Frame) → ByStatus script st why frames handlers s → StatusFacts st why frames handlers s
    of_status status.Running frames by = of_framed status.Running frames refl refl by
    of_status (status.AtPoint index) frames by = of_framed (status.AtPoint index) frames refl refl by.0
    of_status (status.Joining id) frames by = of_framed (status.Joining id) frames refl refl by.0
    of_status (status.InSem sem) frames by = of_framed (status.InSem sem) frames refl refl by.0
    of_status (status.InWaitPid pid) frames by = of_framed (status.InWaitPid pid) frames refl refl by.0
    of_status (status.Waiting c m) frames by = of_framed (status.Waiting c m) frames refl refl by.0
    of_status (status.Reacquire c m cause) frames by = of_framed (status.Reacquire c m cause) frames refl refl by.0
    of_status status.Ending frames by = without_frames status.Ending frames by.no_frames of_ending by
    of_status (status.Forking at) frames by = of_framed (status.Forking at) frames refl refl by.0
    of_status (status.Ended v) frames by = without_frames (status.Ended v) frames by.no_frames (of_ended v) by
    of_status status.Exiting frames by = without_frames status.Exiting frames by.0 (λ exits. of_exiting status.Exiting [] exits.1 refl tt refl tt) by

    of_any : (st : Status) (frames : List Frame) → ByAnyStatus script st why frames handlers s → StatusFacts st why frames handlers s
    of_any st frames (inl by) = of_status st frames by
    of_any status.Running (frame ∷ []) (inr exits) = of_exiting status.Running (frame ∷ []) exits.2 refl (ap is_bottom_kind exits.0, tt) (ap is_exit_kind exits.0) (λ is. exits.1, tt)
    of_any _ _ (inr exits) = absurd exits

    -- whether it has begun to exit its process
    pub exiting_by : (st : Status) (frames : List Frame) → ByAnyStatus script st why frames handlers s → s.exiting ≡ is_exiting st frames
    exiting_by st frames by = (of_any st frames by).exiting

    suspended_by : (st : Status) (frames : List Frame) → ByAnyStatus script st why frames handlers s → IsSuspendedAt (next_of script frames) st
    suspended_by (status.InSem sem) frames by = (outside_exit script why handlers s (status.InSem sem) frames refl by).1
    suspended_by (status.InWaitPid pid) frames by = (outside_exit script why handlers s (status.InWaitPid pid) frames refl by).1
    suspended_by (status.Forking at) frames by = (outside_exit script why handlers s (status.Forking at) frames refl by).1
    suspended_by (status.Waiting c m) frames by = (outside_exit script why handlers s (status.Waiting c m) frames refl by).1
    suspended_by (status.Reacquire c m cause) frames by = (outside_exit script why handlers s (status.Reacquire c m cause) frames refl by).1
    suspended_by _ frames by = tt

    leaving_by : (st : Status) (frames : List Frame) → ByAnyStatus script st why frames handlers s → has_left_wait st ≡ true → has_begun_to_end why ≡ false
    leaving_by (status.Reacquire c m cause) frames by leaves = (outside_exit script why handlers s (status.Reacquire c m cause) frames refl by).2 leaves
    leaving_by _ frames by leaves = absurd (false≢true leaves)

    -- a thread in fork has not begun to end
    in_fork_by : (st : Status) (frames : List Frame) → ByAnyStatus script st why frames handlers s → is_forking st ≡ true → has_begun_to_end why ≡ false
    in_fork_by (status.Forking at) frames by forks = (outside_exit script why handlers s (status.Forking at) frames refl by).2
    in_fork_by _ frames by forks = absurd (false≢true forks)

    -- below a fork handler the thread is in fork
    abbrev BelowHandler : List Frame → Type 0
    BelowHandler below = (is_at_fork (next_of script below) ≡ true) × (has_begun_to_end why ≡ false)

    -- if the top frame is of one
    below_handler : (k : FrameKind) (below : List Frame) → is_fork_kind k ≡ true → Below script k why below (FramesFit script why below) → BelowHandler below
    below_handler kind.ForkFn below is fit = (fit.1, fit.2)
    below_handler _ below is fit = absurd (false≢true is)

    -- a thread in a fork handler
    in_handler_by : (st : Status) (frames : List Frame) → ByAnyStatus script st why frames handlers s → is_in_fork_handler st frames ≡ true → BelowHandler (without_first frames)
    in_handler_by status.Running (frame ∷ below) (inl by) is = below_handler frame.kind below is by.fit
    in_handler_by status.Running (frame ∷ []) (inr exits) is = absurd (false≢true (sym (ap is_fork_kind exits.0) ∙ is))
    in_handler_by status.Running (frame ∷ next ∷ below) (inr exits) is = absurd exits
    in_handler_by _ _ by is = absurd (false≢true is)

    -- neither of them has begun to end
    forking_by : (st : Status) (frames : List Frame) → ByAnyStatus script st why frames handlers s → is_forking st || is_in_fork_handler st frames ≡ true → has_begun_to_end why ≡ false
    forking_by st frames by forks = elim (or_cases (is_forking st) (is_in_fork_handler st frames) forks) [
      | inl in_fork ↦ in_fork_by st frames by in_fork
      | inr in_handler ↦ (in_handler_by st frames by in_handler).1
    ]

  -- ---- threads

  -- a thread of a process with these keys, in the sentences of Kept.antt
  pub kept_thread : (passes : ℕ) (keys : List KeyPlace) (t : Thread) (s : ThreadSummary) → KeysKept script keys → AreEmpty keys t.specific → FitsAny script passes t s → ThreadKept script keys t s
  kept_thread passes keys t s kept empty fits =
      let facts : StatusFacts t.status t.reason t.frames t.handlers s = of_any t.reason t.handlers s t.status t.frames fits.by_status in
      let by : (st : Status) → is_running st ≡ false → t.status ≡ st → ByStatus script st t.reason t.frames t.handlers s =
      λ st other is. outside_exit script t.reason t.handlers s st t.frames other (subst (λ (x : Status). ByAnyStatus script x t.reason t.frames t.handlers s) is fits.by_status) in
      record {
        handlers = fits.agrees.handlers_agree;
        reason = fits.agrees.reason;
        ended = fits.agrees.end;
        value = λ v is. (by (status.Ended v) refl is).value;
        ended_status = λ ended alive. facts.ended_status (fits.agrees.end ∙ ended) alive;
        pushes = facts.pushes;
        functions = All-from_recursion (IsHandler script) t.handlers fits.agrees.functions;
        places = All-from_recursion (IsPlaced script) t.frames fits.placed;
        frames = facts.no_frame;
        bottom = facts.bottom;
        has_reason = facts.has_reason;
        exiting = facts.exiting;
        exit_frames = All-from_recursion IsExitFrame t.frames facts.exit_frames;
        exit_functions = facts.exit_functions;
        disabled = fits.agrees.disabled;
        joining = λ id is. (by (status.Joining id) refl is).1;
        at_point = λ index is. (by (status.AtPoint index) refl is).1;
        suspended = suspended_by t.reason t.handlers s t.status t.frames fits.by_status;
        leaving = leaving_by t.reason t.handlers s t.status t.frames fits.by_status;
        forking = forking_by t.reason t.handlers s t.status t.frames fits.by_status;
        fork_below = λ is. (in_handler_by t.reason t.handlers s t.status t.frames fits.by_status is).0;
        none_left = fits.agrees.none_left;
        passes = fits.in_passes.current;
        not_destroyed = λ place key in_pass at. not_taken passes t.pass t.specific.in_pass s.passes s.destroyed fits.in_passes key.number
            (ap (is_in t.specific.in_pass) (on_own_place script keys kept place key at) ∙ get_or_from_slice_get t.specific.in_pass place true false in_pass);
        no_key = λ place none. record { no_value = (empty place none).0; not_in_pass = λ in_pass. false≢true (sym (empty place none).1 ∙ get_or_from_slice_get t.specific.in_pass place true false in_pass) };
        no_pass = fits.in_passes.no_pass;
      }
