-- The numbers in the transition of a thread have 32 bits where those in the state before it have.
use Rattle.pct_names.proofs.Names.{◌%◌, ◌<◌, All, arith, due_keys, encode, end_value, Environment}
use Rattle.pct_names.proofs.Names.{Frame, key_place, left_keys, length, List, list_any, mod_below, nat_eq, new_keys, NextStatement, Operand, Reason, refl}
use Rattle.pct_names.proofs.Names.{Script, SharedState, Some, StatementIn, State, state_number, mode_number, Mode, Status, Stmt, subst, sym, syntax_of, Thread, Transition, true, value_of, ℕ, ◌∷◌, ◌≡◌}
use Rattle.pct_model.specs.declared.line_kind.ArgumentKind.TheVariants as argument_kind
use Rattle.pct_model.specs.declared.process.Child.{Child}
use Rattle.pct_model.specs.declared.state.ForkAt.{ForkAt}
use Rattle.pct_model.specs.declared.state.Mode.TheVariants.{Asynchronous, Deferred}
use Rattle.pct_model.specs.declared.state.Reason.TheVariants as reason
use Rattle.pct_model.specs.declared.state.State.TheVariants.{Enable, Disable}
use Rattle.pct_model.specs.declared.state.Status.TheVariants as status
use Rattle.pct_model.specs.Statements.{value}
use Rattle.pct_transition_cases.proofs.PlacedStatements.{IsPlaced, on_top}
use Rattle.pct_transition_cases.proofs.TransitionCases.{TransitionCase, Returns, by_return, by_end, emitted, variable_set, variable_added, function_called, main_returned, start_returned}
use Rattle.pct_transition_cases.proofs.TransitionCases.{thread_made, join_begun, join_ended, thread_detached, self_got, request_sent, state_set, mode_set, signal_handed_on, signal_sent}
use Rattle.pct_transition_cases.proofs.TransitionCases.{broadcast_sent, fork_handler_called, fork_handler_left, process_forked, fork_returned, waitpid_begun, child_reaped, key_made, key_deleted}
use Rattle.pct_transition_cases.proofs.TransitionCases.{specific_set, specific_got, handler_pushed, handler_popped, handler_called, exit_called, handler_run, destructor_called, pass_begun}
use Rattle.pct_transition_cases.proofs.TransitionCases.{thread_ended, thread_ended_with_keys, last_ended, last_ended_with_keys, process_exited, process_ended_now, process_ended}
use Rattle.pct_thread_invariants.proofs.lift.HandlerEvents.{of_each_phase}
use Rattle.pct_event_bounds.specs.EventNumbers.{Fits, NumbersFit}
use Rattle.pct_event_bounds.proofs.FittingNumbers.{IsFitting, numbers_in, value_fits, index_fits}
use Rattle.pct_event_bounds.proofs.FittingTransitions.{zero_fits, FramesFit, HandlersFit, literal, StatusFits, ThreadFits, TransitionFits, WritesFit, ReasonFits, ForkFits}

-- what a thread sees of others has numbers of 32 bits
pub record EnvironmentFits (shared : SharedState) (t : Thread) (environment : Environment) : Type 0 where
  pub ended : (id v : ℕ) (target : Thread) → environment.named id ≡ Some target → target.status ≡ status.Ended v → Fits v
  pub child : (pid n : ℕ) (c : Child) → environment.family.child pid ≡ Some c → c.ended ≡ Some n → Fits n
  pub new_id : (id : ℕ) → list_any (nat_eq id) environment.new_ids ≡ true → Fits id
  pub new_pid : (pid : ℕ) → environment.family.new_pid ≡ Some pid → Fits pid
  pub new_key : (k : ℕ) → list_any (nat_eq k) (new_keys shared.keys) ≡ true → Fits k
  pub left_key : (k : ℕ) → list_any (nat_eq k) (left_keys shared.keys t.specific) ≡ true → Fits k
  pub waiter : (c u : ℕ) → list_any (λ waiter. nat_eq u waiter.id) (environment.waiters c) ≡ true → Fits u
  pub waiters : (c : ℕ) → Fits (length (environment.waiters c))
  pub due : Fits (due_keys shared.keys t)

state_fits : (s : State) → Fits (state_number s)
state_fits Enable = omega arith
state_fits Disable = omega arith

mode_fits : (m : Mode) → Fits (mode_number m)
mode_fits Deferred = omega arith
mode_fits Asynchronous = omega arith

end_fits : (why : Reason) → ReasonFits why → Fits (end_value why)
end_fits reason.None fit = omega arith
end_fits (reason.Exit v) fit = fit
end_fits reason.Canceled fit = omega arith

byte_fits : (v : ℕ) → Fits (v % 256)
byte_fits v = let low : v % 256 < 256 = mod_below v 256 (omega arith) in omega (arith, low)

word_fits : (v : ℕ) → Fits (v % 4294967296)
word_fits v = let low : v % 4294967296 < 4294967296 = mod_below v 4294967296 (omega arith) in omega (arith, low)

module _ (script : Script) (passes : ℕ) (shared : SharedState) (t : Thread) (environment : Environment) (own_id : Fits t.id) (own_pass : Fits t.pass) (thread : ThreadFits t) (globals : All Fits shared.globals)
    (exits : (v : ℕ) → shared.exit_value ≡ Some v → Fits v) (limit : Fits passes) (others : EnvironmentFits shared t environment) where
  top : {frames : List Frame} {body : List Stmt} {frame : Frame} {s : Stmt} → IsPlaced script frames body (StatementIn frame s) → FramesFit frames → All Fits frame.locals
  top (on_top frame below s at) fit = fit.0

  val : {body : List Stmt} {frame : Frame} {s : Stmt} → IsPlaced script t.frames body (StatementIn frame s) → (v : Operand) → IsFitting argument_kind.Operand (value v) → Fits (value_of shared.globals frame v)
  val {frame = frame} placed v number = value_fits shared.globals frame v number globals (top placed thread.frames)

  -- the value that a statement returns
  returned : {body : List Stmt} {frame : Frame} {s : Stmt} {v : ℕ} → IsPlaced script t.frames body (StatementIn frame s) → Returns body shared.globals frame s v → Fits v
  unfolding encode syntax_of
  returned placed (by_return v) = val placed v (numbers_in script placed).0
  returned placed (by_end none) = zero_fits

  newest : (f a : ℕ) (handlers : List (ℕ × ℕ)) → t.handlers ≡ (f, a) ∷ handlers → Fits a
  newest f a handlers is = (subst HandlersFit is thread.handlers).0

  in_status : {st : Status} → t.status ≡ st → StatusFits st
  in_status is = subst StatusFits is thread.status

  pub case_fits : {body : List Stmt} {next : NextStatement} {st : Status} {o : Transition} → t.status ≡ st → IsPlaced script t.frames body next
      → ((at : ForkAt) → st ≡ status.Forking at → WritesFit o.writes) → TransitionCase passes body shared t environment true next st o → TransitionFits o
  unfolding encode syntax_of
  case_fits is placed forks (emitted frame v) = record { events = (val placed v (numbers_in script placed).0, tt); writes = tt; own = tt; shared = tt; created = tt; ended = tt }
  case_fits is placed forks (variable_set frame d v) = record { events = tt; writes = (val placed v (numbers_in script placed).1.0, tt); own = tt; shared = tt; created = tt; ended = tt }
  case_fits is placed forks (variable_added frame d v) = record { events = tt; writes = (word_fits _, tt); own = tt; shared = tt; created = tt; ended = tt }
  case_fits is placed forks (function_called frame f v room) = record { events = tt; writes = tt; own = val placed v (numbers_in script placed).1.0; shared = tt; created = tt; ended = tt }
  case_fits is placed forks (main_returned frame s v returns kind_is none) = let fit = returned placed returns in record { events = (fit, tt); writes = tt; own = tt; shared = fit; created = tt; ended = tt }
  case_fits is placed forks (start_returned frame s v returns kind_is) = let fit = returned placed returns in record { events = (fit, tt); writes = tt; own = fit; shared = tt; created = tt; ended = tt }
  case_fits is placed forks (thread_made frame result id f v detached new among) =
      let fit = others.new_id new (among refl) in record { events = (fit, tt); writes = (zero_fits, (fit, tt)); own = tt; shared = tt; created = val placed v (numbers_in script placed).1.1.1.0; ended = tt }
  case_fits is placed forks (join_begun frame id d target named other joinable alone unasked) = record { events = (tt, tt); writes = tt; own = val placed id (numbers_in script placed).0; shared = tt; created = tt; ended = tt }
  case_fits is placed forks (join_ended frame operand d id v target named ended) =
      let fit = others.ended id v target named ended in record { events = ((in_status is, fit), tt); writes = (fit, tt); own = tt; shared = tt; created = tt; ended = tt }
  case_fits is placed forks (thread_detached frame id target named joinable alone) = record { events = (val placed id (numbers_in script placed).0, tt); writes = tt; own = tt; shared = tt; created = tt; ended = tt }
  case_fits is placed forks (self_got frame d) = record { events = tt; writes = (own_id, tt); own = tt; shared = tt; created = tt; ended = tt }
  case_fits is placed forks (request_sent frame id target named) = record { events = (val placed id (numbers_in script placed).0, tt); writes = tt; own = tt; shared = tt; created = tt; ended = tt }
  case_fits is placed forks (state_set frame enable old allowed) = record { events = (tt, tt); writes = (state_fits t.state, tt); own = tt; shared = tt; created = tt; ended = tt }
  case_fits is placed forks (mode_set frame asynchronous old) = record { events = (tt, tt); writes = (mode_fits t.mode, tt); own = tt; shared = tt; created = tt; ended = tt }
  case_fits is placed forks (signal_handed_on next c m u asked among) = record { events = (tt, (others.waiter c u (among refl), tt)); writes = tt; own = tt; shared = tt; created = tt; ended = tt }
  case_fits is placed forks (signal_sent frame c u among) = record { events = (others.waiter c u (among refl), tt); writes = tt; own = tt; shared = tt; created = tt; ended = tt }
  case_fits is placed forks (broadcast_sent frame c) = record { events = (others.waiters c, tt); writes = tt; own = tt; shared = tt; created = tt; ended = tt }
  case_fits is placed forks (fork_handler_called next at call first) =
      record { events = (of_each_phase NumbersFit call.func tt tt tt at.phase, tt); writes = tt; own = in_status is; shared = tt; created = tt; ended = tt }
  case_fits is placed forks (fork_handler_left frame s v at returns kind_is kept) = record { events = tt; writes = tt; own = subst ForkFits kept thread.kept; shared = tt; created = tt; ended = tt }
  case_fits is placed forks (process_forked next at new prepares new_is) = let fit = others.new_pid new new_is in record { events = (fit, tt); writes = tt; own = fit; shared = tt; created = tt; ended = tt }
  case_fits is placed forks (fork_returned frame result child at v) = record { events = tt; writes = forks at refl; own = tt; shared = tt; created = tt; ended = tt }
  case_fits is placed forks (waitpid_begun frame result d pid unasked) = record { events = (tt, tt); writes = tt; own = val placed pid (numbers_in script placed).1.0; shared = tt; created = tt; ended = tt }
  case_fits is placed forks (child_reaped frame result d operand pid n c child_is ended) =
      let fit = others.child pid n c child_is ended in record { events = ((in_status is, fit), tt); writes = (zero_fits, (fit, tt)); own = tt; shared = tt; created = tt; ended = tt }
  case_fits is placed forks (key_made frame result key destructor k among) = let fit = others.new_key k (among refl) in record { events = (fit, tt); writes = (zero_fits, (fit, tt)); own = tt; shared = tt; created = tt; ended = tt }
  case_fits is placed forks (key_deleted frame key some) = record { events = (val placed key (numbers_in script placed).0, tt); writes = tt; own = tt; shared = tt; created = tt; ended = tt }
  case_fits is placed forks (specific_set frame key v some) = record { events = tt; writes = tt; own = val placed v (numbers_in script placed).1.0; shared = tt; created = tt; ended = tt }
  case_fits is placed forks (specific_got frame d key) = record { events = tt; writes = (index_fits t.specific.values _ thread.values, tt); own = tt; shared = tt; created = tt; ended = tt }
  case_fits is placed forks (handler_pushed frame f v room) = let fit = val placed v (numbers_in script placed).1.0 in record { events = (fit, tt); writes = tt; own = fit; shared = tt; created = tt; ended = tt }
  case_fits is placed forks (handler_popped frame v f a handlers newest_is unset) = record { events = (newest f a handlers newest_is, tt); writes = tt; own = tt; shared = tt; created = tt; ended = tt }
  case_fits is placed forks (handler_called frame v f a handlers newest_is room set) = let fit = newest f a handlers newest_is in record { events = (fit, tt); writes = tt; own = fit; shared = tt; created = tt; ended = tt }
  case_fits is placed forks (exit_called frame v unbegun) = let fit = val placed v (numbers_in script placed).0 in record { events = (fit, tt); writes = tt; own = fit; shared = tt; created = tt; ended = tt }
  case_fits is placed forks (handler_run next f a handlers newest_is) = let fit = newest f a handlers newest_is in record { events = (fit, tt); writes = tt; own = fit; shared = tt; created = tt; ended = tt }
  case_fits is placed forks (destructor_called next k f key none named_key destructor among) =
      let fit = index_fits t.specific.values (key_place k) thread.values in record { events = ((own_pass, others.left_key k (among refl), fit), tt); writes = tt; own = fit; shared = tt; created = tt; ended = tt }
  case_fits is placed forks (pass_begun next none more due left) = record { events = (omega (arith, more, limit), tt); writes = tt; own = tt; shared = tt; created = tt; ended = tt }
  case_fits is placed forks (thread_ended next none due left) = let fit = end_fits t.reason thread.reason in record { events = (fit, tt); writes = tt; own = fit; shared = tt; created = tt; ended = tt }
  case_fits is placed forks (thread_ended_with_keys next left none some over due all) =
      let fit = end_fits t.reason thread.reason in record { events = (subst Fits (sym due) others.due, (fit, tt)); writes = tt; own = fit; shared = tt; created = tt; ended = tt }
  case_fits is placed forks (last_ended next none last due left) = record { events = (end_fits t.reason thread.reason, (zero_fits, tt)); writes = tt; own = tt; shared = zero_fits; created = tt; ended = tt }
  case_fits is placed forks (last_ended_with_keys next left none last some over due all) =
      record { events = (subst Fits (sym due) others.due, (end_fits t.reason thread.reason, (zero_fits, tt))); writes = tt; own = tt; shared = zero_fits; created = tt; ended = tt }
  case_fits is placed forks (process_exited frame v once) = let fit = val placed v (numbers_in script placed).0 in record { events = (fit, tt); writes = tt; own = tt; shared = fit; created = tt; ended = tt }
  case_fits is placed forks (process_ended_now frame v) = record { events = (byte_fits _, tt); writes = tt; own = tt; shared = tt; created = tt; ended = byte_fits _ }
  case_fits is placed forks (process_ended next v value_is none) = record { events = (byte_fits v, tt); writes = tt; own = tt; shared = tt; created = tt; ended = byte_fits v }
  case_fits {o = o} is placed forks _ = literal o refl refl refl refl refl refl
