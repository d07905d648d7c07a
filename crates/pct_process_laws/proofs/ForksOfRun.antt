-- After every run, the fork of each thread: in a fork handler a thread has the frame of a plain function on top, and the kept values of
-- its fork; otherwise it has neither.
use Rattle.pct_names.proofs.Names.{◌<◌, [], All-from_recursion, ap, arith, at_pc, body_at, Bool, cond, Config, Dest, encode, Environment}
use Rattle.pct_names.proofs.Names.{environment_of, false, false≢true, ForkAt, Frame, FrameKind, frames_written, inl, inr, is_fork_kind}
use Rattle.pct_names.proofs.Names.{is_some, length, List, list_any, main_of, MAX_FRAMES, moved, names_of, new_frame, next_of, NextStatement}
use Rattle.pct_names.proofs.Names.{None, Option, or_from, or_parts, own_after, OwnAction, refl, Script, set_local, SharedState, Some}
use Rattle.pct_names.proofs.Names.{Status, Stmt, subst, suc, sym, syntax_of, Thread, thread_at, Transition, true, value_of, without_first}
use Rattle.pct_names.proofs.Names.{written, ◌||◌, ℕ, ◌∙◌, ◌∷◌, ◌≡◌, ◌≤◌, ◌⊎◌}
use Rattle.std.proofs.lemmas.Bool.{leb-true}
use Rattle.pct_model.specs.declared.state.FrameKind.TheVariants as kind
use Rattle.pct_model.specs.declared.state.Status.TheVariants as status
use Rattle.pct_model.specs.declared.statement.Dest.TheVariants as destination
use Rattle.pct_model.specs.declared.transition.OwnAction.TheVariants as own_action
use Rattle.pct_laws.specs.Kept.{is_in_fork_handler, IsPlainFunction, ForkKept, EachThread}
use Rattle.pct_transition_cases.proofs.CaseOfTransition.{case_of}
use Rattle.pct_transition_cases.proofs.PlacedStatements.{IsPlaced, is_placed}
use Rattle.pct_transition_cases.proofs.TransitionCases.{TransitionCase, rests, stopped, jumped, emitted, variable_set, variable_added}
use Rattle.pct_transition_cases.proofs.TransitionCases.{function_called, main_returned, start_returned, call_left, handler_left}
use Rattle.pct_transition_cases.proofs.TransitionCases.{exit_function_left, canceled, mutex_locked, mutex_unlocked, fork_handler_called}
use Rattle.pct_transition_cases.proofs.TransitionCases.{fork_handler_left, handler_called, routine_called, routine_left}
use Rattle.pct_thread_invariants.proofs.lift.ChangedThreads.{same_settled, named_keeps}
use Rattle.pct_thread_invariants.proofs.lift.EveryThread.{of_made_thread, IsThreadRule, every_thread}
use Rattle.pct_thread_invariants.proofs.lift.ReportedBy.{ThreadReading}
use Rattle.pct_thread_invariants.proofs.lift.TakenSteps.{AfterEveryRun}
use Rattle.pct_thread_invariants.proofs.exits.PlainFunctions.{is_plain_next, plain_next}
use Rattle.pct_thread_invariants.proofs.exits.RegisteredFunctions.{RegistersPlain, next_plain, registered_of_run}
use Rattle.pct_thread_invariants.proofs.thread.KeptThreads.{none_of}
use Rattle.pct_laws.specs.CancelLaw.{is_running}

-- ---- outside of fork handlers, and in one

-- frames of a thread that is in no fork handler, and what it keeps
abbrev Outside : List Frame → Option ForkAt → Type 0
Outside frames kept = record {
  none : list_any (λ (frame : Frame). is_fork_kind frame.kind) frames ≡ false;
  not_kept : is_some kept ≡ false;
  depth : length frames ≤ MAX_FRAMES;
}

-- no frame
without_frames : Outside [] None
without_frames = record { none = refl; not_kept = refl; depth = omega arith }

-- the only frame
one_frame : (frame : Frame) → is_fork_kind frame.kind ≡ false → (kept : Option ForkAt) → is_some kept ≡ false → Outside (frame ∷ []) kept
one_frame frame other kept not_kept = record { none = or_from (is_fork_kind frame.kind) false other refl; not_kept = not_kept; depth = leb-true 1 MAX_FRAMES refl }

module _ (script : Script) where
  -- frames of a thread in a fork handler, if it runs, and what it keeps
  abbrev Inside : Bool → List Frame → Option ForkAt → Type 0
  Inside runs [] kept = ⊥
  Inside runs (frame ∷ below) kept = record {
    runs : runs ≡ true;
    is_handler : is_fork_kind frame.kind ≡ true;
    plain : IsPlainFunction script frame.func;
    keeps : is_some kept ≡ true;
    rest : Outside below None;
  }

  -- one of the two
  abbrev ForkFits : Bool × List Frame × Option ForkAt → Type 0
  ForkFits v = Outside v.1 v.2 ⊎ Inside v.0 v.1 v.2

  -- what decides it of a thread
  abbrev view : Thread → Bool × List Frame × Option ForkAt
  view t = (is_running t.status, t.frames, t.kept)

-- ---- outside: the actions

-- the top frame at another pc
pc_outside : (pc : ℕ) (frames : List Frame) (kept : Option ForkAt) → Outside frames kept → Outside (at_pc pc frames) kept
pc_outside pc [] kept out = out
pc_outside pc (frame ∷ below) kept out = out

-- with a new value of a local
local_outside : (i v : ℕ) (frames : List Frame) (kept : Option ForkAt) → Outside frames kept → Outside (set_local i v frames) kept
local_outside i v [] kept out = out
local_outside i v (frame ∷ below) kept out = out

-- with a variable written
written_outside : (d : Dest) (v : ℕ) (frames : List Frame) (kept : Option ForkAt) → Outside frames kept → Outside (frames_written d v frames) kept
written_outside (destination.Local i) v frames kept out = local_outside i v frames kept out
written_outside _ v frames kept out = out

-- a frame is left, and nothing is kept
left_outside : (frames : List Frame) (kept : Option ForkAt) → Outside frames kept → Outside (without_first frames) None
left_outside [] kept out = without_frames
left_outside (frame ∷ below) kept out = record {
  none = (or_parts (is_fork_kind frame.kind) (list_any (λ (f : Frame). is_fork_kind f.kind) below) out.none).1;
  not_kept = refl;
  depth = let deep : suc (length below) ≤ MAX_FRAMES = out.depth in omega (arith, deep);
}

-- a function is called where there is room for its frame
called_outside : (pc f a : ℕ) (k : FrameKind) → is_fork_kind k ≡ false → (frames : List Frame) (kept : Option ForkAt) → length frames < MAX_FRAMES → Outside frames kept → Outside (new_frame f a k ∷ at_pc pc frames) kept
called_outside pc f a k other [] kept room out = one_frame (new_frame f a k) other kept out.not_kept
called_outside pc f a k other (frame ∷ below) kept room out = record {
  none = or_from (is_fork_kind k) (list_any (λ (x : Frame). is_fork_kind x.kind) (frame ∷ below)) other out.none;
  not_kept = out.not_kept;
  depth = omega (arith, room);
}

-- the action adds no frame to others, and none of a fork handler
abbrev stays_outside : Option OwnAction → Bool
stays_outside (Some (own_action.Call f a k)) = false
stays_outside (Some (own_action.CallHandler f a)) = false
stays_outside (Some (own_action.CallForkHandler at f)) = false
stays_outside _ = true

-- such an action keeps a thread outside
action_outside : (a : Option OwnAction) → stays_outside a ≡ true → (t : Thread) → Outside t.frames t.kept → Outside (own_after a t).frames (own_after a t).kept
unfolding own_after
action_outside (Some (own_action.Call f a k)) stays t out = absurd (false≢true stays)
action_outside (Some (own_action.CallHandler f a)) stays t out = absurd (false≢true stays)
action_outside (Some (own_action.RunHandler f a)) stays t out = one_frame (new_frame f a kind.Handler) refl t.kept out.not_kept
action_outside (Some (own_action.RunDestructor k f v)) stays t out = one_frame (new_frame f v kind.Destructor) refl t.kept out.not_kept
action_outside (Some (own_action.RunExitFunction f)) stays t out = one_frame (new_frame f 0 kind.ExitFn) refl t.kept out.not_kept
action_outside (Some (own_action.CallForkHandler at f)) stays t out = absurd (false≢true stays)
action_outside (Some (own_action.Leave s)) stays t out = left_outside t.frames t.kept out
action_outside (Some (own_action.BeginEnd why)) stays t out = without_frames
action_outside (Some own_action.BeginExit) stays t out = without_frames
action_outside (Some own_action.EndLast) stays t out = without_frames
action_outside _ stays t out = out

-- and so do values that are written
all_written_outside : (writes : List (Dest × ℕ)) (frames : List Frame) (kept : Option ForkAt) → Outside frames kept → Outside (written frames_written writes frames) kept
all_written_outside [] frames kept out = out
all_written_outside ((d, v) ∷ writes) frames kept out = all_written_outside writes (frames_written d v frames) kept (written_outside d v frames kept out)

-- a thread that goes on at the next statement
going_outside : (next : Option ℕ) (t : Thread) → Outside t.frames t.kept → Outside (thread_at next t).frames (thread_at next t).kept
unfolding thread_at
going_outside None t out = out
going_outside (Some pc) t out = pc_outside pc t.frames t.kept out

-- a thread after a transition with such an action
moved_outside : (o : Transition) → stays_outside o.own ≡ true → (t : Thread) → Outside t.frames t.kept → Outside (moved o t).frames (moved o t).kept
moved_outside o stays t out =
    let at : Thread = thread_at o.next t in
    let frames : List Frame = written frames_written o.writes at.frames in
    action_outside o.own stays (record at { frames = frames }) (all_written_outside o.writes at.frames at.kept (going_outside o.next t out))

-- ---- transitions

module _ (script : Script) (passes : ℕ) (shared : SharedState) (registered : RegistersPlain script shared) where
  -- a thread outside of fork handlers
  case_outside : (t : Thread) (environment : Environment) {body : List Stmt} {next : NextStatement} {s : Status} {o : Transition} → TransitionCase passes body shared t environment true next s o → Outside t.frames t.kept → ForkFits script (view script (moved o t))
  unfolding thread_at own_after
  case_outside t environment (function_called frame f v room) out = inl (called_outside (suc frame.pc) f (value_of shared.globals frame v) kind.Call refl t.frames t.kept room out)
  case_outside t environment (handler_called frame v f a handlers is room not_zero) out = inl (called_outside (suc frame.pc) f a kind.PopHandler refl t.frames t.kept room out)
  case_outside t environment (routine_called frame o f fresh room) out = inl (called_outside (suc frame.pc) f 0 (kind.OnceFn o) refl t.frames t.kept room out)
  case_outside t environment (fork_handler_called next at call is) out = inr (record {
    runs = refl;
    is_handler = refl;
    plain = next_plain script shared.fork_handlers registered.fork_handlers at call is;
    keeps = refl;
    rest = record { none = out.none; not_kept = refl; depth = out.depth };
  })
  case_outside t environment {o = o} _ out = inl (moved_outside o refl t out)

  -- in a fork handler, the function of which is plain
  module _ (t : Thread) (environment : Environment) (frame : Frame) (below : List Frame) (inside : Inside script true (frame ∷ below) t.kept) where
    -- the thread in it
    abbrev own : Thread
    own = record t { status = status.Running; frames = frame ∷ below }

    -- it goes on, with a variable written
    written_inside : (d : Dest) (v pc : ℕ) → Inside script true (frames_written d v (record frame { pc = pc } ∷ below)) t.kept
    written_inside (destination.Local i) v pc = inside
    written_inside _ v pc = inside

    -- its transitions
    case_inside : {body : List Stmt} {next : NextStatement} {o : Transition} → TransitionCase passes body shared own environment true next status.Running o → is_plain_next next ≡ true → ForkFits script (view script (moved o own))
    unfolding thread_at own_after encode syntax_of
    case_inside (rests next s alive) plain = inr inside
    case_inside (stopped _ s why) plain = inr inside
    case_inside (jumped _ _ pc leads) plain = inr inside
    case_inside (emitted _ v) plain = inr inside
    case_inside (variable_set at d v) plain = inr (written_inside d _ (suc at.pc))
    case_inside (variable_added at d v) plain = inr (written_inside d _ (suc at.pc))
    case_inside (mutex_locked _ m free) plain = inr inside
    case_inside (mutex_unlocked _ m owned) plain = inr inside
    -- it returns, or begins to end
    case_inside (fork_handler_left _ _ v at returns is keeps) plain = inl inside.rest
    case_inside (call_left _ _ v returns kinds) plain = inl inside.rest
    case_inside (handler_left _ _ v returns kinds) plain = inl inside.rest
    case_inside (exit_function_left _ _ v returns is) plain = inl inside.rest
    case_inside (routine_left _ _ v o returns is) plain = inl inside.rest
    case_inside (main_returned _ _ v returns is once) plain = inl without_frames
    case_inside (start_returned _ _ v returns is) plain = inl without_frames
    case_inside (canceled next delivered where_it_may) plain = inl without_frames
    case_inside _ plain = absurd (false≢true plain)

  -- any thread
  case_fits : (t : Thread) (environment : Environment) (s : Status) (frames : List Frame) {body : List Stmt} {next : NextStatement} {o : Transition} → IsPlaced script frames body next → TransitionCase passes body shared (record t { status = s; frames = frames }) environment true next s o
      → ForkFits script (is_running s, frames, t.kept) → ForkFits script (view script (moved o (record t { status = s; frames = frames })))
  case_fits t environment s frames placed c (inl out) = case_outside (record t { status = s; frames = frames }) environment c out
  case_fits t environment s [] placed c (inr inside) = absurd inside
  case_fits t environment status.Running (frame ∷ below) placed c (inr inside) = case_inside t environment frame below inside c (plain_next script frame below inside.plain placed)
  case_fits t environment _ (frame ∷ below) placed c (inr inside) = absurd (false≢true inside.runs)

-- ---- in the sentences of Kept.antt

-- where no frame is of a fork handler, the thread is in none
no_handler : (s : Status) (frames : List Frame) → list_any (λ (frame : Frame). is_fork_kind frame.kind) frames ≡ false → is_in_fork_handler s frames ≡ false
no_handler status.Running (frame ∷ below) none = (or_parts (is_fork_kind frame.kind) (list_any (λ (f : Frame). is_fork_kind f.kind) below) none).0
no_handler _ _ none = refl

-- the fork of a thread
kept_fork : (script : Script) (s : Status) (frames : List Frame) (kept : Option ForkAt) → ForkFits script (is_running s, frames, kept) → ForkKept script s frames kept
kept_fork script s frames kept (inl out) =
    let outside : is_in_fork_handler s frames ≡ false = no_handler s frames out.none in
    record {
      in_handler = out.none ∙ sym outside;
      on_top = (left_outside frames kept out).none;
      functions = All-from_recursion (λ (frame : Frame). is_fork_kind frame.kind ≡ true → IsPlainFunction script frame.func) frames (none_of is_fork_kind (IsPlainFunction script) frames out.none);
      keeps = out.not_kept ∙ sym outside;
      depth = subst (λ (b : Bool). length frames ≤ cond b (suc MAX_FRAMES) MAX_FRAMES) (sym outside) out.depth;
    }
kept_fork script s [] kept (inr inside) = absurd inside
kept_fork script status.Running (frame ∷ below) kept (inr inside) = record {
  in_handler = ap (λ (b : Bool). b || list_any (λ (f : Frame). is_fork_kind f.kind) below) inside.is_handler ∙ sym inside.is_handler;
  on_top = inside.rest.none;
  functions = All-from_recursion (λ (f : Frame). is_fork_kind f.kind ≡ true → IsPlainFunction script f.func) (frame ∷ below) (λ is. inside.plain, none_of is_fork_kind (IsPlainFunction script) below inside.rest.none);
  keeps = inside.keeps ∙ sym inside.is_handler;
  depth = subst (λ (b : Bool). suc (length below) ≤ cond b (suc MAX_FRAMES) MAX_FRAMES) (sym inside.is_handler) (let deep : length below ≤ MAX_FRAMES = inside.rest.depth in omega (arith, deep));
}
kept_fork script _ (frame ∷ below) kept (inr inside) = absurd (false≢true inside.runs)

-- ---- every run

-- no event reports anything
abbrev unread : ThreadReading (Unit {0})
unread = record { start = tt; next = λ w k. tt; inherits = false; replica = λ parent k. tt }

module _ (script : Script) (config : Config) where
  -- a thread fits, whatever the events report
  abbrev Fits : Thread → Unit {0} → Type 0
  Fits t k = ForkFits script (view script t)

  -- the replica of a thread in fork
  child_fits : (t : Thread) → is_running t.status ≡ false → (frames : List Frame) → ForkFits script (is_running t.status, frames, t.kept) → Outside frames None
  child_fits t forks frames (inl out) = record { none = out.none; not_kept = refl; depth = out.depth }
  child_fits t forks [] (inr inside) = absurd inside
  child_fits t forks (frame ∷ below) (inr inside) = absurd (false≢true (sym forks ∙ inside.runs))

  -- each thread keeps it
  fork_rule : IsThreadRule unread Fits script config (λ p. RegistersPlain script p.shared)
  fork_rule = record {
    initial = inl (one_frame (new_frame (main_of (names_of script.funcs)) 0 kind.Main) refl None refl);
    created = λ w p t k choice new registered offered fits is. inl (one_frame (new_frame new.func new.arg kind.Start) refl None refl);
    named = λ a t k fits. subst (ForkFits script) (sym (named_keeps (view script) (λ t j p d k s is. ap (λ (runs : Bool). (runs, t.frames, t.kept)) (same_settled is_running (λ c m why. refl) s t.status is)) a t)) fits;
    kept = λ w p t k choice registered offered fits.
        let environment : Environment = environment_of config w p t.id in
        case_fits script config.passes p.shared registered t environment t.status t.frames (is_placed script t.frames) (case_of config.passes (body_at script t.frames) p.shared t environment true choice (next_of script t.frames) t.status (λ known. offered)) fits;
    replica = λ w p t k at registered forks fits. inl (child_fits t (ap is_running forks) t.frames fits);
  }

  -- the fork of each thread
  pub forks_of_run : AfterEveryRun script config (λ r. EachThread r.world (λ pid tid t. ForkKept script t.status t.frames t.kept))
  forks_of_run entries r is pid tid t made here =
      kept_fork script t.status t.frames t.kept (of_made_thread unread Fits r (every_thread unread Fits script config (λ p. RegistersPlain script p.shared) fork_rule (registered_of_run script config) entries r is) pid tid t made here)
