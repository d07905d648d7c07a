-- Statements after which a thread goes on, with the handlers that it had.
use Rattle.pct_names.proofs.Names.{◌++◌, ◌<◌, [], body_of, Bool, Dest, false, false≢true, Frame, frames_written, length, List, moved, None}
use Rattle.pct_names.proofs.Names.{Option, own_after, OwnAction, reverse, Running, Script, set_local, Some, Status, Stmt, subst, sym}
use Rattle.pct_names.proofs.Names.{Thread, thread_at, Transition, true, written, ℕ, ◌∷◌, ◌≡◌}
use Rattle.pct_model.specs.declared.statement.Dest.TheVariants as destination
use Rattle.pct_model.specs.declared.transition.OwnAction.TheVariants as own_action
use Rattle.pct_laws.specs.Kept.{AreOpen, open_functions}
use Rattle.pct_laws.specs.OpenPushes.{open_pushes}
use Rattle.pct_laws.specs.ThreadSummary.{ThreadSummary}
use Rattle.pct_thread_invariants.proofs.lift.ReportedBy.{after_all}
use Rattle.pct_thread_invariants.proofs.thread.ThreadRule.{summary, AllMayCome, Fits, Keeps}

-- ---- own actions

-- the action, if there is one, sets a cancelability type, or a value of a key
abbrev pub stays : Option OwnAction → Bool
stays None = true
stays (Some (own_action.SetMode mode)) = true
stays (Some (own_action.SetSpecific k v)) = true
stays _ = false

-- the thread as it runs with these frames
abbrev pub running : Thread → List Frame → Thread
running t frames = record t { status = Running; frames = frames }

module _ (script : Script) (passes : ℕ) where
  local_fits : (i v : ℕ) (t : Thread) (frames : List Frame) (s : ThreadSummary) → Fits script passes (running t frames) s → Fits script passes (running t (set_local i v frames)) s
  local_fits i v t [] s fits = fits
  local_fits i v t (frame ∷ below) s fits = fits

  written_fits : (d : Dest) (v : ℕ) (t : Thread) (frames : List Frame) (s : ThreadSummary) → Fits script passes (running t frames) s → Fits script passes (running t (frames_written d v frames)) s
  written_fits (destination.Local i) v t frames s fits = local_fits i v t frames s fits
  written_fits _ v t frames s fits = fits

  all_written_fit : (writes : List (Dest × ℕ)) (t : Thread) (frames : List Frame) (s : ThreadSummary) → Fits script passes (running t frames) s → Fits script passes (running t (written frames_written writes frames)) s
  all_written_fit [] t frames s fits = fits
  all_written_fit ((d, v) ∷ writes) t frames s fits = all_written_fit writes t (frames_written d v frames) s (written_fits d v t frames s fits)

  -- a running thread after such an action
  own_fits : (a : Option OwnAction) → stays a ≡ true → (t : Thread) (frames : List Frame) (s : ThreadSummary) → Fits script passes (running t frames) s → Fits script passes (own_after a (running t frames)) s
  unfolding own_after
  own_fits None is t frames s fits = fits
  own_fits (Some (own_action.SetMode mode)) is t frames s fits = fits
  own_fits (Some (own_action.SetSpecific k v)) is t frames s fits = fits
  own_fits _ is t frames s fits = absurd (false≢true is)

  -- ---- transitions

  -- what holds of a thread with some handlers, holds of one that has these
  pub by_handlers : (t : Thread) (s : Status) (frames : List Frame) (reported : ThreadSummary) (o : Transition) (handlers : List (ℕ × ℕ)) → t.handlers ≡ handlers
      → (Fits script passes (record t { status = s; frames = frames; handlers = handlers }) reported → Keeps script passes (record t { status = s; frames = frames; handlers = handlers }) reported o)
      → Fits script passes (record t { status = s; frames = frames }) reported → Keeps script passes (record t { status = s; frames = frames }) reported o
  by_handlers t s frames reported o handlers is keeps =
      subst (λ (hs : List (ℕ × ℕ)). Fits script passes (record t { status = s; frames = frames; handlers = hs }) reported → Keeps script passes (record t { status = s; frames = frames; handlers = hs }) reported o) (sym is) keeps

  module _ (t : Thread) (frame : Frame) (below : List Frame) where
    -- the body of the function of the top frame
    abbrev pub body : List Stmt
    body = body_of script frame.func

    -- the thread goes on at a pc with the same open pushes
    pub at_pc_fits : (pc : ℕ) → open_pushes body pc ≡ open_pushes body frame.pc → pc < length body → (s : ThreadSummary) → Fits script passes (running t (frame ∷ below)) s → Fits script passes (running t (record frame { pc = pc } ∷ below)) s
    at_pc_fits pc same within s fits = record {
      agrees = fits.agrees;
      placed = (within, fits.placed.1);
      by_status = record {
        not_ended = fits.by_status.not_ended;
        not_exiting = fits.by_status.not_exiting;
        fit = fits.by_status.fit;
        pushes = subst (λ (functions : List ℕ). AreOpen (functions ++ open_functions script below) t.handlers s.left) (sym same) fits.by_status.pushes;
      };
      in_passes = fits.in_passes;
    }

    -- the same, with values written and such an action, and with events that do not change the summary
    pub going_on_keeps : (status : Status) (reported : ThreadSummary) (pc : ℕ) (o : Transition) → o.next ≡ Some pc → open_pushes body pc ≡ open_pushes body frame.pc → pc < length body → stays o.own ≡ true → after_all summary (reverse o.events) reported ≡ reported → AllMayCome passes (reverse o.events) reported → Fits script passes (running t (frame ∷ below)) reported → Keeps script passes (record t { status = status; frames = frame ∷ below }) reported o
    unfolding thread_at
    going_on_keeps status reported pc o goes same within quiet unchanged lawful fits = record {
      own =
          let frames : List Frame = record frame { pc = pc } ∷ below in
          subst (λ (next : Option ℕ). Fits script passes (moved (record o { next = next }) (record t { status = status; frames = frame ∷ below })) (after_all summary (reverse o.events) reported)) (sym goes)
          (own_fits o.own quiet t (written frames_written o.writes frames) (after_all summary (reverse o.events) reported)
          (all_written_fit o.writes t frames (after_all summary (reverse o.events) reported) (subst (λ (s : ThreadSummary). Fits script passes (running t frames) s) (sym unchanged) (at_pc_fits pc same within reported fits))));
      lawful = lawful;
    }
