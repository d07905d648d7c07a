-- The law of frames: in which functions a thread is, newest first, and where it goes on in each. A call, by `do` or pthread_once or as an
-- event reports, puts its function on top, at the first statement; the statements of the top function are executed in turn, with the jumps
-- of the script language; it goes by `return`, or by the `end` that closes it; and all go as the thread begins to end or to exit its
-- process. So a handler that is called as a thread ends is left only by its return, or by an exit of the process (XSH 2.9.5.3,
-- pthread_exit, pthread_cleanup_pop, pthread_key_create, pthread_once, pthread_atfork, fork, exit).
--
-- It leaves open which functions the events report (StatementLaw.antt, Once.antt, Calls.antt, ForkLaw.antt), and the locals of functions that go
-- on (ResultLaw.antt). That a step changes no frame of another thread is said by the law of wake-ups, with all else that it leaves of other
-- threads (WakeLaw.antt, KeepsOther).
use Rattle.std.specs.Prelude.{◌≡◌, ℕ, suc, ◌-◌, if◌then◌else◌, Bool, true, false, ◌||◌, List, [], ◌∷◌, ◌++◌, length, map, flat_map}
use Rattle.std.specs.Prelude.{take, nat_eq, Option, Some, None, is_none, replicate, unwrap_or}
use Rattle.std.specs.List.{list_any}
use Rattle.std.specs.Option.{option_map_or}
use Rattle.pct_model.specs.declared.event.Caller.TheVariants as caller
use Rattle.pct_model.specs.declared.event.Event.{Event}
use Rattle.pct_model.specs.declared.event.What.{What}
use Rattle.pct_model.specs.declared.event.What.TheVariants as what
use Rattle.pct_model.specs.declared.frame.Frame.{Frame}
use Rattle.pct_model.specs.declared.limits.TheConstants.{MAX_LOCALS}
use Rattle.pct_model.specs.declared.schedule.Config.{Config}
use Rattle.pct_model.specs.declared.schedule.Entry.{Entry}
use Rattle.pct_model.specs.declared.script.Script.{Script}
use Rattle.pct_model.specs.declared.state.FrameKind.{FrameKind}
use Rattle.pct_model.specs.declared.state.FrameKind.TheVariants as kind
use Rattle.pct_model.specs.declared.state.Status.TheVariants as status
use Rattle.pct_model.specs.declared.statement.Stmt.{Stmt}
use Rattle.pct_model.specs.declared.statement.Stmt.TheVariants as statement
use Rattle.pct_model.specs.Jumps.{close_of, holds, is_while, open_of}
use Rattle.pct_model.specs.LineParsing.{is_empty}
use Rattle.pct_model.specs.NextStatement.{NextStatement, NoStatement, StatementIn, next_of, body_at}
use Rattle.pct_model.specs.World.{value_of}
use Rattle.pct_laws.specs.ForkLaw.{calls_fork}
use Rattle.pct_laws.specs.KnownThreads.{is_own}
use Rattle.pct_laws.specs.RanAll.{leaves_all}
use Rattle.pct_laws.specs.ThreadSteps.{ThreadStep, EachStep}

-- ---- calls

-- a call: the function, its argument, and the kind of its frame
abbrev pub Call : Type 0
Call = ℕ × ℕ × FrameKind

-- the call that an event reports, if it reports one
abbrev pub reported_by : What → List Call
reported_by (what.HandlerRun f a) = (f, a, kind.Handler) ∷ []
reported_by (what.Popped f a true) = (f, a, kind.PopHandler) ∷ []
reported_by (what.DtorRun pass key f v) = (f, v, kind.Destructor) ∷ []
reported_by (what.ExitRun f) = (f, 0, kind.ExitFn) ∷ []
reported_by (what.PrepareRun f) = (f, 0, kind.ForkFn) ∷ []
reported_by (what.ParentRun f) = (f, 0, kind.ForkFn) ∷ []
reported_by (what.ChildRun f) = (f, 0, kind.ForkFn) ∷ []
reported_by _ = []

-- the call in a step with these events, at this next statement: that of `do`, which has no event, that of an init routine, which the
-- statement names and the event does not, or the one that is reported
abbrev pub calls_of : List ℕ → List What → NextStatement → List Call
calls_of globals [] (StatementIn frame (statement.Do f v)) = (f, value_of globals frame v, kind.Call) ∷ []
calls_of globals (what.OnceCalled o ∷ []) (StatementIn frame (statement.CallOnce control f)) = (f, 0, kind.OnceFn control) ∷ []
calls_of globals events next = flat_map reported_by events

-- the locals of a function as it is called: its argument is the first, and each other is 0, a choice of this host
abbrev pub locals_at_call : Call → List ℕ
locals_at_call call = call.1 ∷ replicate (MAX_LOCALS - 1) 0

-- ---- statements

-- where a thread is in a function: the function, the pc of its next statement, and the kind of the frame
abbrev pub Place : Type 0
Place = ℕ × ℕ × FrameKind

-- the places of the functions of some frames
abbrev pub places : List Frame → List Place
places frames = map (λ frame. (frame.func, frame.pc, frame.kind)) frames

module _ (body : List Stmt) (globals : List ℕ) where
  -- the pc past the block that is opened at a pc: past the `else` of an `if` that has one, or else past the `end`
  abbrev pub past_block : ℕ → ℕ
  past_block pc = suc (unwrap_or (close_of body pc) pc)

  -- the pc after a statement
  abbrev pub pc_after : Frame → Stmt → ℕ
  pc_after frame (statement.If v) = if nat_eq (value_of globals frame v) 0 then past_block frame.pc else suc frame.pc
  pc_after frame statement.Else = past_block frame.pc
  pc_after frame (statement.While v) = if nat_eq (value_of globals frame v) 0 then past_block frame.pc else suc frame.pc
  pc_after frame statement.End = option_map_or (λ opening. if holds body is_while opening then opening else suc frame.pc) (open_of body frame.pc) (suc frame.pc)
  pc_after frame _ = suc frame.pc

  -- the statement returns from its function: an `end` does if it closes no block
  abbrev pub returns : Frame → Stmt → Bool
  returns frame (statement.Return v) = true
  returns frame statement.End = is_none (open_of body frame.pc)
  returns frame _ = false

  -- where a thread in these functions is once it has executed its next statement
  abbrev pub past : List Frame → NextStatement → List Place
  past [] next = []
  past (frame ∷ below) NoStatement = places (frame ∷ below)
  past (frame ∷ below) (StatementIn top s) = if returns frame s then places below else (frame.func, pc_after frame s, frame.kind) ∷ places below

-- ---- the law of a step

-- after this event the thread is still at its statement: in a call that has not returned, or its process or the run has ended
abbrev pub stays : What → Bool
stays (what.Called index) = true
stays (what.WaitCanceled c) = true
stays (what.WaitExpired c) = true
stays (what.PrepareRun f) = true
stays (what.Forked pid) = true
stays (what.Answer caller.Fork n) = true
stays (what.ParentRun f) = true
stays (what.ChildRun f) = true
stays (what.ProcessEnded n) = true
stays (what.Stopped why) = true
stays _ = false

-- where the thread of a step is in the functions that go on; one that calls fork stays, too, and this call has no event
abbrev pub places_left : Script → ThreadStep → List Place
places_left script s =
    if list_any stays s.events || calls_fork (next_of script s.before.frames) s.before.status then places s.before.frames
    else past (body_at script s.before.frames) s.process.shared.globals s.before.frames (next_of script s.before.frames)

-- the call in a step
abbrev pub its_calls : Script → ThreadStep → List Call
its_calls script s = calls_of s.process.shared.globals s.events (next_of script s.before.frames)

-- what a step does to the frames of its thread
pub record MovesFrames (script : Script) (s : ThreadStep) : Type 0 where
  pub places : places s.after.frames ≡ (if list_any leaves_all s.events then [] else map (λ call. (call.0, 0, call.2)) (its_calls script s) ++ places_left script s)
  -- a function that is called has its argument, and 0 in each other local
  pub arguments : map (λ frame. frame.locals) (take (length (its_calls script s)) s.after.frames) ≡ map locals_at_call (its_calls script s)
  -- and its thread runs
  pub runs : is_empty (its_calls script s) ≡ false → s.after.status ≡ status.Running

-- ---- handlers of an end

-- by this event a thread is in one function alone: a cleanup handler or a destructor of its end, or a function of an exit
abbrev pub calls_alone : What → Bool
calls_alone (what.HandlerRun f a) = true
calls_alone (what.DtorRun pass key f v) = true
calls_alone (what.ExitRun f) = true
calls_alone _ = false

-- the newest such event of thread tid of process pid, if it has one
abbrev pub newest_call : ℕ → ℕ → List Event → Option What
newest_call pid tid [] = None
newest_call pid tid (e ∷ earlier) = if is_own pid tid e then (if calls_alone e.what then Some e.what else newest_call pid tid earlier) else newest_call pid tid earlier

-- the oldest of these places, if there is one, is in function f, called as a handler
abbrev pub AreFrom : ℕ → List Place → Type 0
AreFrom f [] = Unit {0}
AreFrom f (place ∷ []) = (place.0 ≡ f) × (place.2 ≡ kind.Handler)
AreFrom f (place ∷ next ∷ below) = AreFrom f (next ∷ below)

-- each step of a thread, from the call of a handler as it ends to the next such event, is made in the handler or in what this calls, unless the
-- thread has left it: by a return of it or an exit, as the law above says
abbrev pub StaysInHandler : ThreadStep → Type 0
StaysInHandler s = (f a : ℕ) → newest_call s.pid s.tid s.earlier ≡ Some (what.HandlerRun f a) → AreFrom f (places s.before.frames)

-- ---- the law

-- the law of frames, of the run of a schedule
pub record FrameLaw (script : Script) (config : Config) (entries : List Entry) : Type 0 where
  pub frames : EachStep script config entries (MovesFrames script)
  pub handlers : EachStep script config entries StaysInHandler
