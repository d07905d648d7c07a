-- What a transition does to the frames of its thread: it puts a frame of a call on top, and leaves all, some or none of those before; a number
-- that is stored in a local moves no frame.
use Rattle.pct_names.proofs.Names.{◌++◌, [], ap, at_pc, Bool, cond, Dest, false, Frame, frames_written, has_valid_id, length, List, map}
use Rattle.pct_names.proofs.Names.{moved, None, Option, own_after, OwnAction, refl, Some, Status, take, Thread, thread_at, thread_moved}
use Rattle.pct_names.proofs.Names.{Transition, true, without_first, written, ℕ, ◌∙◌, ◌∷◌, ◌≡◌}
use Rattle.std.proofs.lemmas.Bool.{false≢true, true≢false}
use Rattle.pct_model.specs.declared.state.FrameKind.TheVariants as kind
use Rattle.pct_model.specs.declared.state.Status.TheVariants as status
use Rattle.pct_model.specs.declared.statement.Dest.TheVariants as destination
use Rattle.pct_model.specs.declared.transition.OwnAction.TheVariants as own_action
use Rattle.pct_model.specs.LineParsing.{is_empty}
use Rattle.pct_laws.specs.CancelLaw.{is_running}
use Rattle.pct_laws.specs.FrameLaw.{Call, locals_at_call, Place, places}
use Rattle.pct_thread_invariants.proofs.lift.ChangedThreads.{named_keeps, same_settled}

-- the place of a function that is called
abbrev pub called : List Call → List Place
called calls = map (λ (call : Call). (call.0, 0, call.2)) calls

-- the call that an action makes
abbrev pub made : Option OwnAction → List Call
made (Some (own_action.Call f a kind)) = (f, a, kind) ∷ []
made (Some (own_action.CallHandler f a)) = (f, a, kind.PopHandler) ∷ []
made (Some (own_action.CallForkHandler at f)) = (f, 0, kind.ForkFn) ∷ []
made (Some (own_action.RunHandler f a)) = (f, a, kind.Handler) ∷ []
made (Some (own_action.RunDestructor k f v)) = (f, v, kind.Destructor) ∷ []
made (Some (own_action.RunExitFunction f)) = (f, 0, kind.ExitFn) ∷ []
made _ = []

-- what it leaves of the frames before
abbrev pub left : Option OwnAction → List Place → List Place
left (Some (own_action.RunHandler f a)) before = []
left (Some (own_action.RunDestructor k f v)) before = []
left (Some (own_action.RunExitFunction f)) before = []
left (Some (own_action.Leave status)) before = without_first before
left (Some (own_action.BeginEnd why)) before = []
left (Some own_action.BeginExit) before = []
left (Some own_action.EndLast) before = []
left _ before = before

-- the places of a thread that goes on at a pc, if it does
abbrev pub places_at : Option ℕ → List Frame → List Place
places_at None frames = places frames
places_at (Some pc) [] = []
places_at (Some pc) (frame ∷ below) = (frame.func, pc, frame.kind) ∷ places below

-- ---- places

start_places : (next : Option ℕ) (t : Thread) → places (thread_at next t).frames ≡ places_at next t.frames
unfolding thread_at
start_places None t = refl
start_places (Some pc) t = by_frames t.frames
  where
    by_frames : (frames : List Frame) → places (at_pc pc frames) ≡ places_at (Some pc) frames
    by_frames [] = refl
    by_frames (frame ∷ below) = refl

written_places : (writes : List (Dest × ℕ)) (frames : List Frame) → places (written frames_written writes frames) ≡ places frames
written_places [] frames = refl
written_places ((destination.Local i, v) ∷ writes) [] = written_places writes []
written_places ((destination.Local i, v) ∷ writes) (frame ∷ below) = written_places writes _
written_places ((_, v) ∷ writes) frames = written_places writes frames

own_places : (a : Option OwnAction) (t : Thread) → places (own_after a t).frames ≡ called (made a) ++ left a (places t.frames)
unfolding own_after
own_places (Some (own_action.Leave status)) t = by_frames t.frames
  where
    by_frames : (frames : List Frame) → places (without_first frames) ≡ without_first (places frames)
    by_frames [] = refl
    by_frames (frame ∷ below) = refl
own_places _ t = refl

pub moved_places : (o : Transition) (t : Thread) → places (moved o t).frames ≡ called (made o.own) ++ left o.own (places_at o.next t.frames)
moved_places o t =
    own_places o.own _ ∙ ap (λ (before : List Place). called (made o.own) ++ left o.own before) (written_places o.writes (thread_at o.next t).frames ∙ start_places o.next t)

-- the frames of the thread that makes the step are those after its own transition
pub frames_by : (tid : ℕ) (o : Transition) (t : Thread) → (thread_moved tid o t).frames ≡ (cond (has_valid_id tid t) (moved o t) t).frames
frames_by tid o t = named_keeps (λ (u : Thread). u.frames) (λ u joined pending detached specific s same. refl) o.named (cond (has_valid_id tid t) (moved o t) t)

-- ---- arguments

-- the locals of the first of some frames, as many as there are calls
abbrev pub first_locals : List Call → List Frame → List (List ℕ)
first_locals calls frames = map (λ (frame : Frame). frame.locals) (take (length calls) frames)

own_locals : (a : Option OwnAction) (t : Thread) → first_locals (made a) (own_after a t).frames ≡ map locals_at_call (made a)
unfolding own_after
own_locals (Some (own_action.Call f a kind)) t = refl
own_locals _ t = refl

pub moved_locals : (o : Transition) (t : Thread) → first_locals (made o.own) (moved o t).frames ≡ map locals_at_call (made o.own)
moved_locals o t = own_locals o.own _

-- ---- status

own_runs : (a : Option OwnAction) (t : Thread) → is_empty (made a) ≡ false → (own_after a t).status ≡ status.Running
unfolding own_after
own_runs (Some (own_action.Call f a kind)) t calls = refl
own_runs (Some (own_action.CallHandler f a)) t calls = refl
own_runs (Some (own_action.CallForkHandler at f)) t calls = refl
own_runs (Some (own_action.RunHandler f a)) t calls = refl
own_runs (Some (own_action.RunDestructor k f v)) t calls = refl
own_runs (Some (own_action.RunExitFunction f)) t calls = refl
own_runs _ t calls = absurd (true≢false calls)

running : (s : Status) → is_running s ≡ true → s ≡ status.Running
running status.Running is = refl
running _ is = absurd (false≢true is)

-- a thread that makes a call runs after its step
pub runs_by : (tid : ℕ) (o : Transition) (t : Thread) → has_valid_id tid t ≡ true → is_empty (made o.own) ≡ false → (thread_moved tid o t).status ≡ status.Running
runs_by tid o t valid calls =
    running (thread_moved tid o t).status
    (named_keeps (λ (u : Thread). is_running u.status) (λ u joined pending detached specific s same. same_settled is_running (λ c m why. refl) s u.status same) o.named (cond (has_valid_id tid t) (moved o t) t)
    ∙ ap (λ (b : Bool). is_running (cond b (moved o t) t).status) valid ∙ ap is_running (own_runs o.own _ calls))
