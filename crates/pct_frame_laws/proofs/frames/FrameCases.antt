-- What each case of a transition does to the frames of its thread is what the law has.
use Rattle.pct_names.proofs.Names.{◌&&◌, ◌++◌, [], acts, ap, Bool, cond, Environment, false, ForkAt, Frame, goes_on, handler_event}
use Rattle.pct_names.proofs.Names.{HandlerCall, has_no_frame, is_none, List, list_any, NextStatement, None, NoStatement, open_of, Option}
use Rattle.pct_names.proofs.Names.{refl, Script, SharedState, Some, StatementIn, Status, Stmt, suc, sym, Thread, Transition, true, What}
use Rattle.pct_names.proofs.Names.{while_called, ◌||◌, ℕ, ◌∷◌, ◌≡◌}
use Rattle.std.proofs.lemmas.Bool.{false≢true, true≢false}
use Rattle.pct_model.specs.declared.event.What.TheVariants as what
use Rattle.pct_model.specs.declared.state.Status.TheVariants as status
use Rattle.pct_model.specs.declared.statement.Stmt.TheVariants as statement
use Rattle.pct_model.specs.declared.transition.OwnAction.TheVariants as own_action
use Rattle.pct_model.specs.Jumps.{holds, is_while}
use Rattle.pct_model.specs.LineParsing.{is_empty}
use Rattle.std.specs.Option.{option_map_or}
use Rattle.pct_laws.specs.FrameLaw.{Place, calls_of, past, places, stays}
use Rattle.pct_laws.specs.ForkLaw.{calls_fork}
use Rattle.pct_laws.specs.RanAll.{leaves_all}
use Rattle.pct_transition_cases.proofs.PlacedStatements.{IsPlaced, nowhere, on_top}
use Rattle.pct_transition_cases.proofs.TransitionCases.{TransitionCase, Leads, Returns, past_nop, past_if, past_while, past_else, past_end}
use Rattle.pct_transition_cases.proofs.TransitionCases.{by_return, by_end, rests, jumped, call_left, handler_left, exit_function_left}
use Rattle.pct_transition_cases.proofs.TransitionCases.{fork_handler_called, fork_handler_left, handler_run, destructor_called, pass_begun}
use Rattle.pct_transition_cases.proofs.TransitionCases.{thread_ended, thread_ended_with_keys, last_ended, last_ended_with_keys}
use Rattle.pct_transition_cases.proofs.TransitionCases.{exit_function_called, process_ended, routine_left}
use Rattle.pct_thread_invariants.proofs.lift.HandlerEvents.{of_each_phase}
use Rattle.pct_frame_laws.proofs.frames.MovedFrames.{called, made, left, places_at}

-- a transition that neither goes on, nor acts, nor has an event
abbrev pub is_idle : Transition → Bool
is_idle o = is_none o.next && is_none o.own && is_empty o.events

-- a transition of a thread with this next statement makes the call that the law has
abbrev pub MakesIts : SharedState → NextStatement → Transition → Type 0
MakesIts shared next o = calls_of shared.globals o.events next ≡ made o.own

module _ (body : List Stmt) (shared : SharedState) where
  -- a transition, from these frames with this next statement, leaves the places that the law has
  abbrev pub LeavesIts : List Frame → NextStatement → Status → Transition → Type 0
  LeavesIts frames next s o =
      called (made o.own) ++ left o.own (places_at o.next frames)
      ≡ cond (list_any leaves_all o.events) []
      (called (calls_of shared.globals o.events next) ++ cond (list_any stays o.events || calls_fork next s) (places frames) (past body shared.globals frames next))

  -- ---- jumps and returns

  jumps_to : {frame : Frame} {s : Stmt} {pc : ℕ} (below : List Frame) → Leads body shared.globals frame s pc
      → ◌≡◌ {A = List Place} ((frame.func, pc, frame.kind) ∷ places below)
      (called (calls_of shared.globals [] (StatementIn frame s)) ++ cond (calls_fork (StatementIn frame s) status.Running) (places (frame ∷ below)) (past body shared.globals (frame ∷ below) (StatementIn frame s)))
  jumps_to below past_nop = refl
  jumps_to below (past_if v) = refl
  jumps_to below (past_while v) = refl
  jumps_to below past_else = refl
  jumps_to {frame} below (past_end opened is) =
      sym (ap (λ (o : Option ℕ). cond (is_none o) (places below) ((frame.func, option_map_or (λ opening. cond (holds body is_while opening) opening (suc frame.pc)) o (suc frame.pc), frame.kind) ∷ places below)) is)

  -- an `end` that closes no block leaves its function
  leaves_at_end : (frame : Frame) (below : List Frame) → open_of body frame.pc ≡ None → places below ≡ past body shared.globals (frame ∷ below) (StatementIn frame statement.End)
  leaves_at_end frame below none =
      sym (ap (λ (o : Option ℕ). cond (is_none o) (places below) ((frame.func, option_map_or (λ opening. cond (holds body is_while opening) opening (suc frame.pc)) o (suc frame.pc), frame.kind) ∷ places below)) none)

  returns_to : {frame : Frame} {s : Stmt} {v : ℕ} (below : List Frame) → Returns body shared.globals frame s v
      → places below
      ≡ called (calls_of shared.globals [] (StatementIn frame s)) ++ cond (calls_fork (StatementIn frame s) status.Running) (places (frame ∷ below)) (past body shared.globals (frame ∷ below) (StatementIn frame s))
  returns_to below (by_return v) = refl
  returns_to {frame} below (by_end none) = leaves_at_end frame below none

  -- the return of an init routine
  routine_returns_to : {frame : Frame} {s : Stmt} {v : ℕ} (below : List Frame) (o : ℕ) → Returns body shared.globals frame s v
      → LeavesIts (frame ∷ below) (StatementIn frame s) status.Running (record (acts (what.OnceDone o ∷ [])) { own = Some (own_action.Leave status.Running) })
  routine_returns_to below o (by_return v) = refl
  routine_returns_to {frame} below o (by_end none) = leaves_at_end frame below none

  -- the call of a fork handler, in each phase
  handler_called : (frames : List Frame) (next : NextStatement) (at : ForkAt) (call : HandlerCall)
      → LeavesIts frames next (status.Forking at) (record (acts (handler_event at.phase call.func ∷ [])) { own = Some (own_action.CallForkHandler (while_called at call.index) call.func) })
  handler_called frames next at call =
      of_each_phase (λ (w : What). LeavesIts frames next (status.Forking at) (record (acts (w ∷ [])) { own = Some (own_action.CallForkHandler (while_called at call.index) call.func) })) call.func refl refl refl at.phase

  -- ---- cases

  -- a thread without a frame
  case_outside : (passes : ℕ) (t : Thread) (environment : Environment) {s : Status} {o : Transition} → TransitionCase passes body shared t environment true NoStatement s o → LeavesIts [] NoStatement s o
  case_outside passes t environment (fork_handler_called next at call is) = handler_called [] NoStatement at call
  case_outside passes t environment _ = refl

module _ (passes : ℕ) (shared : SharedState) (t : Thread) (environment : Environment) where
  -- a thread in a function, that has something to do
  case_inside : (frame : Frame) (below : List Frame) {script : Script} {body : List Stmt} {next : NextStatement} {s : Status} {o : Transition} → IsPlaced script (frame ∷ below) body next
      → has_no_frame s ≡ false → is_idle o ≡ false → TransitionCase passes body shared t environment true next s o → LeavesIts body shared (frame ∷ below) next s o
  case_inside frame below placed inside busy (rests next s alive) = absurd (true≢false busy)
  case_inside frame below placed inside busy (handler_run next f a handlers is) = absurd (true≢false inside)
  case_inside frame below placed inside busy (destructor_called next k f key none is destructor_is among) = absurd (true≢false inside)
  case_inside frame below placed inside busy (pass_begun next none more due none_left) = absurd (true≢false inside)
  case_inside frame below placed inside busy (thread_ended next none nothing none_left) = absurd (true≢false inside)
  case_inside frame below placed inside busy (thread_ended_with_keys next n none some limit all none_left) = absurd (true≢false inside)
  case_inside frame below placed inside busy (last_ended next none last nothing none_left) = absurd (true≢false inside)
  case_inside frame below placed inside busy (last_ended_with_keys next n none last some limit all none_left) = absurd (true≢false inside)
  case_inside frame below placed inside busy (exit_function_called next f functions is) = absurd (true≢false inside)
  case_inside frame below placed inside busy (process_ended next v is none) = absurd (true≢false inside)
  case_inside frame below placed inside busy (fork_handler_called next at call is) = handler_called _ shared (frame ∷ below) next at call
  case_inside frame below (on_top _ _ s at) inside busy (jumped _ _ pc leads) = jumps_to _ shared below leads
  case_inside frame below (on_top _ _ s at) inside busy (call_left _ _ v back is) = returns_to _ shared below back
  case_inside frame below (on_top _ _ s at) inside busy (handler_left _ _ v back is) = returns_to _ shared below back
  case_inside frame below (on_top _ _ s at) inside busy (exit_function_left _ _ v back is) = returns_to _ shared below back
  case_inside frame below (on_top _ _ s at) inside busy (routine_left _ _ v o back is) = routine_returns_to _ shared below o back
  case_inside frame below (on_top _ _ s at) inside busy (fork_handler_left _ _ v kept back is keeps) = returns_to _ shared below back
  case_inside frame below (on_top _ _ s at) inside busy _ = refl
  case_inside frame below (nowhere _ _) inside busy _ = refl

  -- any thread
  pub case_leaves : (frames : List Frame) {script : Script} {body : List Stmt} {next : NextStatement} {s : Status} {o : Transition} → IsPlaced script frames body next
      → (has_no_frame s ≡ true → frames ≡ []) → (has_no_frame s ≡ false → is_idle o ≡ false) → TransitionCase passes body shared t environment true next s o → LeavesIts body shared frames next s o
  case_leaves [] (nowhere _ body) none busy case = case_outside body shared passes t environment case
  case_leaves (frame ∷ below) {s = s} placed none busy case = let inside : has_no_frame s ≡ false = by_status (has_no_frame s) refl in case_inside frame below placed inside (busy inside) case
    where
      by_status : (outside : Bool) → has_no_frame s ≡ outside → outside ≡ false
      by_status true is = absurd (false≢true (ap (λ (frames : List Frame). is_empty frames) (none is)))
      by_status false is = refl

module _ (passes : ℕ) (body : List Stmt) (shared : SharedState) (t : Thread) (environment : Environment) where
  leads_call : {frame : Frame} {s : Stmt} {pc : ℕ} → Leads body shared.globals frame s pc → MakesIts shared (StatementIn frame s) (goes_on pc [])
  leads_call (past_if v) = refl
  leads_call _ = refl

  returns_call : {frame : Frame} {s : Stmt} {v : ℕ} → Returns body shared.globals frame s v → (status : Status) → MakesIts shared (StatementIn frame s) (record (acts []) { own = Some (own_action.Leave status) })
  returns_call (by_return v) status = refl
  returns_call (by_end none) status = refl

  -- a transition makes the call that the law has
  pub case_calls : {next : NextStatement} {s : Status} {o : Transition} → TransitionCase passes body shared t environment true next s o → (is_idle o ≡ true → next ≡ NoStatement) → MakesIts shared next o
  case_calls (rests next s alive) idle = ap (calls_of shared.globals []) (idle refl)
  case_calls (jumped frame s pc leads) idle = leads_call leads
  case_calls (call_left frame s v back is) idle = returns_call back status.Running
  case_calls (handler_left frame s v back is) idle = returns_call back status.Ending
  case_calls (exit_function_left frame s v back is) idle = returns_call back status.Exiting
  case_calls (fork_handler_left frame s v at back is keeps) idle = returns_call back (status.Forking at)
  case_calls (fork_handler_called next at call is) idle =
      of_each_phase (λ (w : What). MakesIts shared next (record (acts (w ∷ [])) { own = Some (own_action.CallForkHandler (while_called at call.index) call.func) })) call.func refl refl refl at.phase
  case_calls _ idle = refl
