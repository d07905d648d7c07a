-- From the call of a handler as its thread ends to the next such call, the oldest frame of the thread, if it has one, is that of the handler.
use Rattle.pct_names.proofs.Names.{◌++◌, [], ap, body_at, Bool, cond, Config, Entry, Environment, environment_of, Event, false, false≢true}
use Rattle.pct_names.proofs.Names.{Frame, has_no_frame, inl, inr, List, made_thread, next_of, NextStatement, None, none-some, Option}
use Rattle.pct_names.proofs.Names.{option_and_then, OwnAction, Process, Reason, refl, reverse, Run, run, Script, SharedState, Some, Status}
use Rattle.pct_names.proofs.Names.{Stmt, subst, suc, sym, Thread, thread_with, Transition, transition_by, true, What, without_first, ℕ, ◌∙◌}
use Rattle.pct_names.proofs.Names.{◌∷◌, ◌≡◌}
use Rattle.pct_model.specs.declared.event.What.TheVariants as what
use Rattle.pct_model.specs.declared.state.Status.TheVariants as status
use Rattle.pct_model.specs.declared.transition.OwnAction.TheVariants as own_action
use Rattle.pct_model.specs.LineParsing.{is_empty}
use Rattle.pct_laws.specs.FrameLaw.{AreFrom, calls_alone, newest_call, Place, places, StaysInHandler}
use Rattle.pct_laws.specs.ThreadSummary.{ThreadSummary}
use Rattle.pct_transition_cases.proofs.CaseOfTransition.{case_of}
use Rattle.pct_transition_cases.proofs.PlacedStatements.{IsPlaced, is_placed, on_top}
use Rattle.pct_transition_cases.proofs.TransitionCases.{TransitionCase, destructor_called, exit_function_called, fork_handler_called}
use Rattle.pct_transition_cases.proofs.TransitionCases.{function_called, handler_called, handler_run, routine_called}
use Rattle.pct_thread_invariants.proofs.ThreadsOfRun.{ProcessFits, processes_fit, thread_rule}
use Rattle.pct_thread_invariants.proofs.lift.ChangedThreads.{named_keeps}
use Rattle.pct_thread_invariants.proofs.lift.EveryProcess.{moves_of_run, process_taken}
use Rattle.pct_thread_invariants.proofs.lift.EveryThread.{every_thread, IsThreadRule, of_made_thread}
use Rattle.pct_thread_invariants.proofs.lift.HandlerEvents.{of_each_phase}
use Rattle.pct_thread_invariants.proofs.lift.MadeThreads.{HasValidId}
use Rattle.pct_thread_invariants.proofs.lift.MovedThreads.{EveryStep, step_of, every_step}
use Rattle.pct_thread_invariants.proofs.lift.ReportedBy.{after_all, is_thread_reading, of_thread, reported_by, ThreadReading}
use Rattle.pct_thread_invariants.proofs.lift.TakenSteps.{IsTaken}
use Rattle.pct_thread_invariants.proofs.lift.ThreadsAfter.{mover}
use Rattle.pct_thread_invariants.proofs.thread.ThreadRule.{ByAnyStatus, FitsAny, summary}
use Rattle.pct_frame_laws.proofs.frames.MovedFrames.{called, left, made, moved_places, places_at}

-- ---- the newest call

-- the reading of the newest such event of a thread
abbrev newest : ThreadReading (Option What)
newest = record { start = None; next = λ w k. cond (calls_alone w) (Some w) k; inherits = false; replica = λ parent k. k }

newest_reading : (tid pid : ℕ) (events : List Event) → newest_call pid tid events ≡ reported_by (of_thread newest tid) pid events
newest_reading tid = is_thread_reading newest tid (λ pid events. newest_call pid tid events) (λ pid. refl) (λ pid e earlier. refl)

-- ---- places

-- they are from a function without the newest one, too, and with the newest at another pc
left_from : (f : ℕ) (before : List Place) → AreFrom f before → AreFrom f (without_first before)
left_from f [] are = tt
left_from f (place ∷ []) are = tt
left_from f (place ∷ next ∷ below) are = are

at_from : (f : ℕ) (next : Option ℕ) (frames : List Frame) → AreFrom f (places frames) → AreFrom f (places_at next frames)
at_from f None frames are = are
at_from f (Some pc) [] are = tt
at_from f (Some pc) (frame ∷ []) are = are
at_from f (Some pc) (frame ∷ other ∷ below) are = are

-- the action calls no function
abbrev calls_none : Option OwnAction → Bool
calls_none (Some (own_action.Call f a kind)) = false
calls_none (Some (own_action.CallHandler f a)) = false
calls_none (Some (own_action.CallForkHandler at f)) = false
calls_none (Some (own_action.RunHandler f a)) = false
calls_none (Some (own_action.RunDestructor k f v)) = false
calls_none (Some (own_action.RunExitFunction f)) = false
calls_none _ = true

own_from : (f : ℕ) (a : Option OwnAction) → calls_none a ≡ true → (before : List Place) → AreFrom f before → AreFrom f (called (made a) ++ left a before)
own_from f (Some (own_action.Call g a kind)) none before are = absurd (false≢true none)
own_from f (Some (own_action.CallHandler g a)) none before are = absurd (false≢true none)
own_from f (Some (own_action.CallForkHandler at g)) none before are = absurd (false≢true none)
own_from f (Some (own_action.RunHandler g a)) none before are = absurd (false≢true none)
own_from f (Some (own_action.RunDestructor k g v)) none before are = absurd (false≢true none)
own_from f (Some (own_action.RunExitFunction g)) none before are = absurd (false≢true none)
own_from f (Some (own_action.Leave status)) none before are = left_from f before are
own_from f (Some (own_action.BeginEnd why)) none before are = tt
own_from f (Some own_action.BeginExit) none before are = tt
own_from f (Some own_action.EndLast) none before are = tt
own_from f _ none before are = are

-- ---- transitions

-- a thread with these frames is in the handler of the newest call, if that is of one
abbrev IsInIts : List Place → Option What → Type 0
IsInIts before k = (f a : ℕ) → k ≡ Some (what.HandlerRun f a) → AreFrom f before

-- the function of the call of a handler
abbrev function_of : Option What → ℕ
function_of (Some (what.HandlerRun f a)) = f
function_of _ = 0

-- whether it is one
abbrev is_handler : Option What → Bool
is_handler (Some (what.HandlerRun f a)) = true
is_handler _ = false

module _ (script : Script) (passes : ℕ) (shared : SharedState) (t : Thread) (environment : Environment) where
  case_from : (frames : List Frame) {body : List Stmt} {next : NextStatement} {s : Status} {o : Transition} (k : Option What) → IsPlaced script frames body next → (is_empty frames ≡ true → has_no_frame s ≡ true)
      → TransitionCase passes body shared t environment true next s o → IsInIts (places frames) k → IsInIts (called (made o.own) ++ left o.own (places_at o.next frames)) (after_all newest (reverse o.events) k)
  case_from frames k placed some (handler_run next g b handlers is) was f a same = (ap function_of same, refl)
  case_from frames k placed some (destructor_called next key g it none is destructor_is among) was f a same = absurd (false≢true (ap is_handler same))
  case_from frames k placed some (exit_function_called next g functions is) was f a same = absurd (false≢true (ap is_handler same))
  case_from [] k placed some (fork_handler_called next at call is) was f a same = absurd (false≢true (some refl))
  case_from (frame ∷ below) k placed some (fork_handler_called next at call is) was f a same =
      was f a (of_each_phase (λ (w : What). cond (calls_alone w) (Some w) k ≡ Some (what.HandlerRun f a) → k ≡ Some (what.HandlerRun f a)) call.func (λ x. x) (λ x. x) (λ x. x) at.phase same)
  case_from _ k (on_top frame below _ at) some (function_called _ g v room) was f a same = at_from f (Some (suc frame.pc)) (frame ∷ below) (was f a same)
  case_from _ k (on_top frame below _ at) some (routine_called _ o g fresh room) was f a same = at_from f (Some (suc frame.pc)) (frame ∷ below) (was f a same)
  case_from _ k (on_top frame below _ at) some (handler_called _ v g b handlers is room not_zero) was f a same = at_from f (Some (suc frame.pc)) (frame ∷ below) (was f a same)
  case_from frames {o = o} k placed some _ was f a same = own_from f o.own refl (places_at o.next frames) (at_from f o.next frames (was f a same))

-- ---- every run

-- a thread without a frame has a status that has none
none_by : (script : Script) (s : Status) (frames : List Frame) (why : Reason) (handlers : List (ℕ × ℕ)) (reported : ThreadSummary) → ByAnyStatus script s why frames handlers reported → is_empty frames ≡ true → has_no_frame s ≡ true
none_by script s (frame ∷ below) why handlers reported by none = absurd (false≢true none)
none_by script status.Running [] why handlers reported (inl fits) none = absurd fits.fit
none_by script (status.AtPoint index) [] why handlers reported (inl fits) none = absurd fits.0.fit
none_by script (status.Joining id) [] why handlers reported (inl fits) none = absurd fits.0.fit
none_by script (status.InSem sem) [] why handlers reported (inl fits) none = absurd fits.0.fit
none_by script (status.InWaitPid pid) [] why handlers reported (inl fits) none = absurd fits.0.fit
none_by script (status.Waiting c m) [] why handlers reported (inl fits) none = absurd fits.0.fit
none_by script (status.Reacquire c m cause) [] why handlers reported (inl fits) none = absurd fits.0.fit
none_by script (status.Forking at) [] why handlers reported (inl fits) none = absurd fits.0.fit
none_by script status.Ending [] why handlers reported by none = refl
none_by script (status.Ended v) [] why handlers reported by none = refl
none_by script status.Exiting [] why handlers reported by none = refl
none_by script _ [] why handlers reported (inr exits) none = absurd exits

module _ (script : Script) (config : Config) where
  -- a thread fits its events, and is in the handler of its newest call
  abbrev Fits : Thread → Option What → Type 0
  Fits t k = record {
    reported : ThreadSummary;
    fits : FitsAny script config.passes t reported;
    is_in : IsInIts (places t.frames) k;
  }

  -- what each thread keeps beside it
  abbrev rule : IsThreadRule summary (FitsAny script config.passes) script config (ProcessFits script config)
  rule = thread_rule script config

  handler_rule : IsThreadRule newest Fits script config (ProcessFits script config)
  handler_rule = record {
    initial = record { reported = summary.start; fits = rule.initial; is_in = λ f a same. absurd (none-some (what.HandlerRun f a) same) };
    created = λ w p t k choice new known offered holds makes.
        record { reported = summary.start; fits = rule.created w p t holds.reported choice new known offered holds.fits makes; is_in = λ f a same. absurd (none-some (what.HandlerRun f a) same) };
    named = λ a t k holds. record {
      reported = holds.reported;
      fits = rule.named a t holds.reported holds.fits;
      is_in = subst (λ (frames : List Frame). IsInIts (places frames) k) (sym (named_keeps (λ (u : Thread). u.frames) (λ u joined pending detached specific s same. refl) a t)) holds.is_in;
    };
    kept = λ w p t k choice known offered holds.
        let o : Transition = transition_by script config w p t choice in
        let environment : Environment = environment_of config w p t.id in
        record {
          reported = after_all summary (reverse o.events) holds.reported;
          fits = rule.kept w p t holds.reported choice known offered holds.fits;
          is_in = λ f a same. subst (AreFrom f) (sym (moved_places o t))
              (case_from script config.passes p.shared t environment t.frames k (is_placed script t.frames) (none_by script t.status t.frames t.reason t.handlers holds.reported holds.fits.by_status)
              (case_of config.passes (body_at script t.frames) p.shared t environment true choice (next_of script t.frames) t.status (λ known. offered)) holds.is_in f a same);
        };
    replica = λ w p t k at known forks holds.
        record { reported = _; fits = rule.replica w p t holds.reported at known forks holds.fits; is_in = λ f a same. absurd (none-some (what.HandlerRun f a) same) };
  }

  stays_of_step : (before : List Entry) (r : Run) (is : run script config before ≡ Some r) (e : Entry) (p : Process) (t : Thread) (taken : IsTaken script config r.world e p t) → StaysInHandler (step_of script config r p e t)
  stays_of_step before r is e p t taken f a same =
      let it : HasValidId p e.tid t = mover script config r.world p e t (moves_of_run script config before r is e p t taken) in
      let made : made_thread e.pid e.tid r.world ≡ Some t = ap (option_and_then (thread_with e.tid)) (process_taken script config before r is e p t taken) ∙ it.found in
      (of_made_thread newest Fits r (every_thread newest Fits script config (ProcessFits script config) handler_rule (processes_fit script config) before r is) e.pid e.tid t made it.here).is_in f a (sym (newest_reading e.tid e.pid r.events) ∙ same)

  pub stays_of_run : EveryStep script config StaysInHandler
  stays_of_run = every_step script config StaysInHandler stays_of_step
