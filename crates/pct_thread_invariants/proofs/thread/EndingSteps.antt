-- Which transitions let a thread end, and what a thread does that exits its process.
use Rattle.pct_names.proofs.Names.{[], Alt, ap, body_at, Bool, choices_of, Config, Disable, encode, Environment, environment_of, false}
use Rattle.pct_names.proofs.Names.{false≢true, Frame, has_begun_to_end, inl, inr, is_ended_status, is_some, List, list_all, moved, next_of}
use Rattle.pct_names.proofs.Names.{NextStatement, None, not, offers, Option, or_right, own_after, OwnAction, Process, Reason, refl, reverse}
use Rattle.pct_names.proofs.Names.{Script, SharedState, Some, Status, Stmt, sym, syntax_of, Thread, thread_at, Transition, transition_by}
use Rattle.pct_names.proofs.Names.{true, World, ◌||◌, ℕ, ◌∙◌, ◌∷◌, ◌≡◌, ◌⊎◌}
use Rattle.std.proofs.lemmas.Bool.{true≢false}
use mathlib.Core.Bool.{or-false}
use Rattle.pct_model.specs.declared.state.FrameKind.TheVariants as kind
use Rattle.pct_model.specs.declared.state.Status.TheVariants as status
use Rattle.pct_model.specs.declared.transition.OwnAction.TheVariants as own_action
use Rattle.pct_laws.specs.AfterEnd.{is_of_exit}
use Rattle.pct_laws.specs.Kept.{is_exit_kind}
use Rattle.pct_laws.specs.ThreadSummary.{ThreadSummary}
use Rattle.pct_transition_cases.proofs.TransitionCases.{TransitionCase, rests, main_returned, start_returned, canceled, thread_made}
use Rattle.pct_transition_cases.proofs.TransitionCases.{thread_detached, request_sent, thread_ended, thread_ended_with_keys, last_ended}
use Rattle.pct_transition_cases.proofs.TransitionCases.{last_ended_with_keys, routine_left}
use Rattle.pct_transition_cases.proofs.CaseOfTransition.{case_of}
use Rattle.pct_transition_cases.proofs.OfferedChoices.{deliverable_enabled}
use Rattle.pct_transition_cases.proofs.PlacedStatements.{IsPlaced, on_top, is_placed}
use Rattle.pct_thread_invariants.proofs.lift.ChangedThreads.{going_on_keeps}
use Rattle.pct_thread_invariants.proofs.exits.PlainFunctions.{is_plain_next, plain_next}
use Rattle.pct_thread_invariants.proofs.thread.JoinTransitions.{names_none}
use Rattle.pct_thread_invariants.proofs.thread.Ends.{not_both}
use Rattle.pct_thread_invariants.proofs.thread.ThreadRule.{HasFrames, ByStatus, RunsExitFunction, ByAnyStatus, outside_exit, FitsAny}

-- ---- actions

-- the action does not end the thread
abbrev pub keeps_end : Option OwnAction → Bool
keeps_end (Some (own_action.EndThread v)) = false
keeps_end (Some own_action.EndLast) = false
keeps_end _ = true

-- the action of the transition does not end the thread
abbrev pub NeverEnds : Transition → Type 0
NeverEnds o = keeps_end o.own ≡ true

action_end : (a : Option OwnAction) → keeps_end a ≡ true → (t : Thread) → (own_after a t).ended ≡ t.ended
unfolding own_after
action_end (Some (own_action.EndThread v)) keeps t = absurd (false≢true keeps)
action_end (Some own_action.EndLast) keeps t = absurd (false≢true keeps)
action_end _ keeps t = refl

-- such a transition leaves it open whether the thread has ended
pub moved_end : (o : Transition) → NeverEnds o → (t : Thread) → (moved o t).ended ≡ t.ended
moved_end o never t = action_end o.own never _ ∙ going_on_keeps (λ (u : Thread). u.ended) (λ t s frames. refl) o.next t

-- ---- transitions

-- the transition ends the thread: it creates no thread, and only the last thread of a process does not get the status of its end
pub record EndsThread (t : Thread) (environment : Environment) (o : Transition) : Type 0 where
  pub none : o.created ≡ None
  pub last : is_ended_status (moved o t).status ≡ false → environment.is_last ≡ true

-- a thread that exits its process, and so may have ended, does not have the status of its end, and its transition ends nothing, creates
-- nothing and names no thread
pub record GoesOn (s : Status) (o : Transition) : Type 0 where
  pub alive : is_ended_status s ≡ false
  pub never : NeverEnds o
  pub none : o.created ≡ None
  pub silent : list_all names_none (reverse o.events) ≡ true

module _ (passes : ℕ) (body : List Stmt) (shared : SharedState) (t : Thread) (environment : Environment) where
  -- a transition does not end its thread, or is the end of the thread
  pub ends_only : {next : NextStatement} {s : Status} {o : Transition} → TransitionCase passes body shared t environment true next s o → NeverEnds o ⊎ EndsThread t environment o
  unfolding thread_at own_after
  ends_only (thread_ended next no_handlers nothing_due none_left) = inr (record { none = refl; last = λ alive. absurd (true≢false alive) })
  ends_only (thread_ended_with_keys next left no_handlers some limit all none_left) = inr (record { none = refl; last = λ alive. absurd (true≢false alive) })
  ends_only (last_ended next no_handlers is_last nothing_due none_left) = inr (record { none = refl; last = λ alive. is_last })
  ends_only (last_ended_with_keys next left no_handlers is_last some limit all none_left) = inr (record { none = refl; last = λ alive. is_last })
  ends_only _ = inl refl

  -- ---- a thread that exits its process

  case_exiting : {next : NextStatement} {o : Transition} → TransitionCase passes body shared t environment true next status.Exiting o → GoesOn status.Exiting o × (list_all is_of_exit (reverse o.events) ≡ true)
  case_exiting (rests next s alive) = (record { alive = refl; never = refl; none = refl; silent = refl }, refl)
  case_exiting _ = (record { alive = refl; never = refl; none = refl; silent = refl }, refl)

  -- in a plain function
  case_plain : {next : NextStatement} {o : Transition} → TransitionCase passes body shared t environment true next status.Running o → is_plain_next next ≡ true → GoesOn status.Running o
  unfolding encode syntax_of
  case_plain (thread_made frame result id f v detached new among) plain = absurd (false≢true plain)
  case_plain (thread_detached frame id target seen joinable alone) plain = absurd (false≢true plain)
  case_plain (request_sent frame id target seen) plain = absurd (false≢true plain)
  case_plain _ plain = record { alive = refl; never = refl; none = refl; silent = refl }

  -- its events are those of the exit
  case_of_exit : {body : List Stmt} {script : Script} {frame : Frame} {next : NextStatement} {o : Transition} → IsPlaced script (frame ∷ []) body next → frame.kind ≡ kind.ExitFn → t.state ≡ Disable
      → TransitionCase passes body shared t environment true next status.Running o → (list_all is_of_exit (reverse o.events) || not (is_plain_next next)) ≡ true
  unfolding encode syntax_of
  case_of_exit (on_top _ _ s at) exits disabled (start_returned _ _ v returns is) = absurd (true≢false (sym (ap is_exit_kind exits) ∙ ap is_exit_kind is))
  case_of_exit (on_top _ _ s at) exits disabled (main_returned _ _ v returns is begun) = absurd (true≢false (sym (ap is_exit_kind exits) ∙ ap is_exit_kind is))
  case_of_exit (on_top _ _ s at) exits disabled (routine_left _ _ v o returns is) = absurd (true≢false (sym (ap is_exit_kind exits) ∙ ap is_exit_kind is))
  case_of_exit place exits disabled (canceled next delivered at_point) = absurd (not_both t.state disabled (deliverable_enabled t.state t.pending (delivered refl)))
  case_of_exit place exits disabled _ = refl

  -- a thread with the status of its end has no transition
  case_ended : {next : NextStatement} {v : ℕ} {o : Transition} → TransitionCase passes body shared t environment true next (status.Ended v) o → ⊥
  case_ended (rests next s alive) = true≢false (alive refl)

  module _ (script : Script) (why : Reason) (handlers : List (ℕ × ℕ)) (reported : ThreadSummary) (disabled : (has_begun_to_end why || reported.exiting) ≡ true → t.state ≡ Disable) where
    -- a thread that moves has neither ended nor begun to exit its process, or it exits its process
    abbrev pub Stands : Status → Transition → Type 0
    Stands s o = ((reported.ended ≡ None) × (reported.exiting ≡ false)) ⊎ ((reported.exiting ≡ true) × GoesOn s o × (list_all is_of_exit (reverse o.events) ≡ true))

    exit_stands : (s : Status) (frames : List Frame) {next : NextStatement} {o : Transition} → RunsExitFunction script s frames reported → IsPlaced script frames body next → TransitionCase passes body shared t environment true next s o → Stands s o
    exit_stands status.Running (frame ∷ []) {o = o} exits placed c =
        let plain = plain_next script frame [] exits.1 placed in
        let of_exit : (list_all is_of_exit (reverse o.events) || false) ≡ true = ap (λ (b : Bool). list_all is_of_exit (reverse o.events) || not b) (sym plain) ∙ case_of_exit placed exits.0 (disabled (or_right (has_begun_to_end why) reported.exiting exits.2)) c in
        inr (exits.2, case_plain c plain, sym (or-false (list_all is_of_exit (reverse o.events))) ∙ of_exit)
    exit_stands _ _ exits placed c = absurd exits

    with_frames : {s : Status} {o : Transition} → (frames : List Frame) → HasFrames script why frames handlers reported → Stands s o
    with_frames frames fits = inl (fits.not_ended, fits.not_exiting)

    status_stands : (s : Status) (frames : List Frame) {next : NextStatement} {o : Transition} → ByStatus script s why frames handlers reported → TransitionCase passes body shared t environment true next s o → Stands s o
    status_stands status.Running frames fits c = with_frames frames fits
    status_stands (status.AtPoint index) frames fits c = with_frames frames fits.0
    status_stands (status.Joining id) frames fits c = with_frames frames fits.0
    status_stands (status.InSem sem) frames fits c = with_frames frames fits.0
    status_stands (status.InWaitPid pid) frames fits c = with_frames frames fits.0
    status_stands (status.Waiting n m) frames fits c = with_frames frames fits.0
    status_stands (status.Reacquire n m cause) frames fits c = with_frames frames fits.0
    status_stands (status.Forking at) frames fits c = with_frames frames fits.0
    status_stands status.Ending frames fits c = inl (fits.not_ended, fits.not_exiting)
    status_stands (status.Ended v) frames fits c = absurd (case_ended c)
    status_stands status.Exiting frames fits c = let goes = case_exiting c in inr (fits.1, goes.0, goes.1)

    pub any_stands : (s : Status) (frames : List Frame) {next : NextStatement} {o : Transition} → ByAnyStatus script s why frames handlers reported → IsPlaced script frames body next → TransitionCase passes body shared t environment true next s o → Stands s o
    any_stands s frames (inl fits) placed c = status_stands s frames fits c
    any_stands s frames (inr exits) placed c = exit_stands s frames exits placed c

-- how the thread of a transition stands
pub stands : (script : Script) (config : Config) (w : World) (p : Process) (t : Thread) (reported : ThreadSummary) (choice : Alt) → offers (choices_of script config w p t) choice ≡ true → (fits : FitsAny script config.passes t reported)
    → Stands config.passes (body_at script t.frames) p.shared t (environment_of config w p t.id) script t.reason t.handlers reported fits.agrees.disabled t.status (transition_by script config w p t choice)
stands script config w p t reported choice offered fits =
    any_stands config.passes (body_at script t.frames) p.shared t (environment_of config w p t.id) script t.reason t.handlers reported fits.agrees.disabled t.status t.frames fits.by_status (is_placed script t.frames)
    (case_of config.passes (body_at script t.frames) p.shared t (environment_of config w p t.id) true choice (next_of script t.frames) t.status (λ known. offered))

-- a thread that has ended goes on to exit its process
pub goes_on : (script : Script) (config : Config) (w : World) (p : Process) (t : Thread) (reported : ThreadSummary) (choice : Alt) → offers (choices_of script config w p t) choice ≡ true → FitsAny script config.passes t reported → t.ended ≡ true → GoesOn t.status (transition_by script config w p t choice)
goes_on script config w p t reported choice offered fits ended = elim (stands script config w p t reported choice offered fits) [
  | inl alive ↦ absurd (false≢true (sym (ap is_some alive.0) ∙ fits.agrees.end ∙ ended))
  | inr exits ↦ exits.1
]

-- a thread with the status of its end has ended
pub ended_by_status : (script : Script) (s : Status) (why : Reason) (frames : List Frame) (handlers : List (ℕ × ℕ)) (reported : ThreadSummary) → is_ended_status s ≡ true → ByAnyStatus script s why frames handlers reported → is_some reported.ended ≡ true
ended_by_status script (status.Ended v) why frames handlers reported is fits = ap is_some (outside_exit script why handlers reported (status.Ended v) frames refl fits).value
ended_by_status script _ why frames handlers reported is fits = absurd (false≢true is)
