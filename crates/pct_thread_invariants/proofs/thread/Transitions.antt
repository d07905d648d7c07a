-- Each transition of a thread keeps the rule of the thread.
use Rattle.pct_names.proofs.Names.{[], Alt, and_from, ap, body_at, Bool, choices_of, Config, end_value, Environment, environment_of, false}
use Rattle.pct_names.proofs.Names.{false≢true, Frame, inl, inr, is_required, length, List, nat_eq, new_frame, new_thread, NewThread}
use Rattle.pct_names.proofs.Names.{next_in, next_of, NextStatement, none-some, offers, Operand, Option, own_after, Parent, point_kind}
use Rattle.pct_names.proofs.Names.{Prepare, Process, refl, same_Some, Script, SharedState, Some, Status, Stmt, subst, sym, Thread}
use Rattle.pct_names.proofs.Names.{thread_at, Transition, transition_by, true, value_of, What, World, ℕ, ◌∙◌, ◌∷◌, ◌≡◌}
use Rattle.std.proofs.Common.{eq-eqb}
use Rattle.pct_model.specs.declared.state.Cause.TheVariants as cause
use Rattle.pct_model.specs.declared.state.FrameKind.TheVariants as kind
use Rattle.pct_model.specs.declared.state.Status.TheVariants as status
use Rattle.pct_model.specs.declared.statement.Stmt.TheVariants as statement
use Rattle.pct_laws.specs.Kept.{is_join, is_call_of, is_sem_wait_of, is_at_fork, is_at_waitpid, is_cond_wait_of, KeysKept, IsPlainFunction}
use Rattle.pct_laws.specs.ThreadSummary.{ThreadSummary, no_events}
use Rattle.pct_transition_cases.proofs.CaseOfTransition.{case_of}
use Rattle.pct_transition_cases.proofs.OfferedChoices.{deliverable_enabled}
use Rattle.pct_transition_cases.proofs.PlacedStatements.{IsPlaced, on_top, is_placed, statement_placed, timed_placed}
use Rattle.pct_transition_cases.proofs.TransitionCases.{TransitionCase, rests, stopped, jumped, function_called, main_returned}
use Rattle.pct_transition_cases.proofs.TransitionCases.{start_returned, call_left, handler_left, exit_function_left, thread_made}
use Rattle.pct_transition_cases.proofs.TransitionCases.{join_begun, join_ended, state_set, point_begun, point_passed, canceled}
use Rattle.pct_transition_cases.proofs.TransitionCases.{canceled_at_point, canceled_in_join, canceled_in_sem_wait, canceled_in_waitpid}
use Rattle.pct_transition_cases.proofs.TransitionCases.{wait_begun, timed_wait_begun, wait_ended, timed_wait_ended, wait_expired}
use Rattle.pct_transition_cases.proofs.TransitionCases.{wait_timed_out, canceled_in_wait, canceled_after_wait, signal_handed_on}
use Rattle.pct_transition_cases.proofs.TransitionCases.{ended_in_wait, sem_wait_begun, sem_taken, timed_sem_wait_begun, timed_sem_taken}
use Rattle.pct_transition_cases.proofs.TransitionCases.{sem_wait_timed_out, fork_begun, fork_handler_called, fork_handler_left}
use Rattle.pct_transition_cases.proofs.TransitionCases.{process_forked, process_not_forked, fork_failed, fork_returned, waitpid_begun}
use Rattle.pct_transition_cases.proofs.TransitionCases.{child_reaped, child_lost, handler_pushed, handler_popped, handler_called}
use Rattle.pct_transition_cases.proofs.TransitionCases.{exit_called, handler_run, destructor_called, pass_begun, thread_ended}
use Rattle.pct_transition_cases.proofs.TransitionCases.{thread_ended_with_keys, last_ended, last_ended_with_keys, process_exited}
use Rattle.pct_transition_cases.proofs.TransitionCases.{process_ended_now, exit_function_called, process_ended, routine_left, routine_called}
use Rattle.pct_thread_invariants.proofs.StaticPushes.{PushesMatch}
use Rattle.pct_thread_invariants.proofs.lift.HandlerEvents.{of_each_phase}
use Rattle.pct_thread_invariants.proofs.lift.ThreadsAfter.{created_thread}
use Rattle.pct_thread_invariants.proofs.lift.OfferedNumbers.{left_key_of}
use Rattle.pct_thread_invariants.proofs.keys.LeftKeys.{left_in_pass, destructor_in_script}
use Rattle.pct_thread_invariants.proofs.exits.PlainFunctions.{plain_below, plain_next}
use Rattle.pct_thread_invariants.proofs.exits.RegisteredFunctions.{ArePlain, RegistersPlain, next_plain}
use Rattle.pct_thread_invariants.proofs.exits.ExitSteps.{exit_function_keeps, exit_step_keeps}
use Rattle.pct_thread_invariants.proofs.thread.ThreadRule.{ByAnyStatus, Fits, FitsAny, FitsIf, in_any, in_wait, KeepsBy, Keeps, KeepsAny}
use Rattle.pct_thread_invariants.proofs.thread.ThreadRule.{calls_exit_function}
use Rattle.pct_thread_invariants.proofs.thread.NamedFunctions.{NamesFunctions}
use Rattle.pct_thread_invariants.proofs.thread.GoingOn.{by_handlers}
use Rattle.pct_thread_invariants.proofs.thread.Handlers.{call_keeps, once_keeps, push_keeps, drop_keeps, run_keeps}
use Rattle.pct_thread_invariants.proofs.thread.Ends.{not_begun, awake, suspends, cancel_keeps, leave_fits, end_in_wait_keeps, exit_keeps}
use Rattle.pct_thread_invariants.proofs.thread.Ends.{begin_keeps, handler_keeps, destructor_keeps, pass_keeps, end_lawful, leftover_lawful}
use Rattle.pct_thread_invariants.proofs.thread.Ends.{ended_fits, exits_fit}
use Rattle.pct_thread_invariants.proofs.thread.Statements.{new_fits, next_keeps, leads_keeps, kind_fits, call_left_keeps}
use Rattle.pct_thread_invariants.proofs.thread.Statements.{handler_left_keeps, routine_left_keeps, state_keeps}
use Rattle.pct_thread_invariants.proofs.thread.ForkHandlers.{fork_handler_keeps, fork_handler_left_keeps}

module _ (script : Script) (passes : ℕ) (matches : PushesMatch script) (names : NamesFunctions script) (shared : SharedState) (kept : KeysKept script shared.keys) (registered : RegistersPlain script shared) (t : Thread) (environment : Environment) (reported : ThreadSummary) where
  -- the thread, with a status and frames
  abbrev own : Status → List Frame → Thread
  own s frames = record t { status = s; frames = frames }

  -- the value of an operand
  abbrev value : Frame → Operand → ℕ
  value frame v = value_of shared.globals frame v

  -- the next registered function
  first_plain : (f : ℕ) (functions : List ℕ) → shared.exit_functions ≡ f ∷ functions → IsPlainFunction script f
  first_plain f functions is = (subst (ArePlain script) is registered.exit_functions).0

  case_keeps : {frames : List Frame} {body : List Stmt} {next : NextStatement} {s : Status} {o : Transition} → IsPlaced script frames body next → TransitionCase passes body shared (own s frames) environment true next s o → Fits script passes (own s frames) reported → KeepsBy script passes (FitsIf script passes (calls_exit_function o.events)) (own s frames) reported o
  unfolding thread_at own_after
  case_keeps {frames} place (rests next s alive) rule = record { own = rule; lawful = refl }
  case_keeps {frames} place (stopped frame s why) rule = record { own = rule; lawful = refl }
  -- statements of the script language
  case_keeps (on_top frame below s at) (jumped _ _ pc leads) rule = leads_keeps script passes matches t frame below reported rule shared.globals at leads
  case_keeps (on_top frame below s at) (function_called _ f v room) rule = call_keeps script passes matches t frame below reported f v (value frame v) at (names.called frame f v at) rule
  case_keeps (on_top frame below s at) (main_returned _ _ v returns is once) rule = exit_keeps script passes t (frame ∷ below) reported rule v
  case_keeps (on_top frame below s at) (start_returned _ _ v returns is) rule = begin_keeps script passes t (frame ∷ below) reported rule v (kind_fits script passes matches t frame below reported rule kind.Start is).0
  case_keeps (on_top frame below s at) (call_left _ _ v returns kinds) rule = call_left_keeps script passes matches t frame below reported rule shared.globals at returns kinds
  case_keeps (on_top frame below s at) (handler_left _ _ v returns kinds) rule = handler_left_keeps script passes matches t frame below reported rule shared.globals at returns kinds
  case_keeps (on_top frame below s at) (exit_function_left _ _ v returns is) rule = absurd (kind_fits script passes matches t frame below reported rule kind.ExitFn is)
  case_keeps (on_top frame below s at) (routine_left _ _ v o returns is) rule = routine_left_keeps script passes matches t frame below reported rule shared.globals o at returns is
  -- threads
  case_keeps (on_top frame below s at) (join_begun _ id d target seen other joinable unjoined unasked) rule = record { own = suspends script passes t status.Running (frame ∷ below) reported rule rule.by_status (status.Joining (value frame id)) (rule.by_status, ap (λ (x : Option Stmt). is_join (next_in frame x)) at); lawful = refl }
  case_keeps (on_top frame below s at) (join_ended _ operand d id v target seen ended) rule =
      next_keeps script passes matches t frame below reported (awake script passes t (status.Joining id) (frame ∷ below) reported rule rule.by_status.0) (status.Joining id) (statement.Join operand d) at refl refl refl refl refl refl
  -- cancellation
  case_keeps (on_top frame below s at) (state_set _ enable old outside) rule = state_keeps script passes matches t frame below reported rule enable old at outside
  case_keeps (on_top frame below s at) (point_begun _ index is unasked) rule =
      let called : is_call_of index (next_of script (frame ∷ below)) ≡ true = ap (λ (x : Option Stmt). is_call_of index (next_in frame x)) at ∙ and_from (nat_eq index index) (is_required (point_kind index)) (eq-eqb index index refl) (ap is_required is) in
      record { own = suspends script passes t status.Running (frame ∷ below) reported rule rule.by_status (status.AtPoint index) (rule.by_status, called); lawful = refl }
  case_keeps (on_top frame below s at) (point_passed _ index i) rule =
      next_keeps script passes matches t frame below reported (awake script passes t (status.AtPoint index) (frame ∷ below) reported rule rule.by_status.0) (status.AtPoint index) (statement.PointCall i) at refl refl refl refl refl refl
  case_keeps {frames} place (canceled next delivered where_it_may) rule = cancel_keeps script passes t status.Running frames reported rule rule.by_status (deliverable_enabled t.state t.pending (delivered refl))
  case_keeps {frames} place (canceled_at_point next index delivered) rule = cancel_keeps script passes t (status.AtPoint index) frames reported rule rule.by_status.0 (deliverable_enabled t.state t.pending (delivered refl))
  case_keeps {frames} place (canceled_in_join next id delivered) rule = cancel_keeps script passes t (status.Joining id) frames reported rule rule.by_status.0 (deliverable_enabled t.state t.pending (delivered refl))
  case_keeps {frames} place (canceled_in_sem_wait next sem delivered) rule = cancel_keeps script passes t (status.InSem sem) frames reported rule rule.by_status.0 (deliverable_enabled t.state t.pending (delivered refl))
  case_keeps {frames} place (canceled_in_waitpid next pid delivered) rule = cancel_keeps script passes t (status.InWaitPid pid) frames reported rule rule.by_status.0 (deliverable_enabled t.state t.pending (delivered refl))
  -- condition waits
  case_keeps (on_top frame below s at) (wait_begun _ c m owned one unasked) rule =
      let called : is_cond_wait_of c m (next_of script (frame ∷ below)) ≡ true = ap (λ (x : Option Stmt). is_cond_wait_of c m (next_in frame x)) at ∙ and_from (nat_eq c c) (nat_eq m m) (eq-eqb c c refl) (eq-eqb m m refl) in
      record { own = suspends script passes t status.Running (frame ∷ below) reported rule rule.by_status (status.Waiting c m) (rule.by_status, called); lawful = refl }
  case_keeps (on_top frame below s at) (wait_ended _ cond mutex c m why returns free) rule =
      next_keeps script passes matches t frame below reported (awake script passes t (status.Reacquire c m why) (frame ∷ below) reported rule rule.by_status.0) (status.Reacquire c m why) (statement.CondWait cond mutex) at refl refl refl refl refl refl
  case_keeps (on_top frame below s at) (timed_wait_begun _ result c m owned one unasked) rule =
      let called : is_cond_wait_of c m (next_of script (frame ∷ below)) ≡ true = ap (λ (x : Option Stmt). is_cond_wait_of c m (next_in frame x)) at ∙ and_from (nat_eq c c) (nat_eq m m) (eq-eqb c c refl) (eq-eqb m m refl) in
      record { own = suspends script passes t status.Running (frame ∷ below) reported rule rule.by_status (status.Waiting c m) (rule.by_status, called); lawful = refl }
  case_keeps (on_top frame below s at) (timed_wait_ended _ result cond mutex c m why returns free) rule =
      next_keeps script passes matches t frame below reported (awake script passes t (status.Reacquire c m why) (frame ∷ below) reported rule rule.by_status.0) (status.Reacquire c m why) (statement.CondTimedWait result cond mutex) at refl refl refl refl refl refl
  case_keeps {frames} place (wait_expired next c m timed) rule =
      record { own = suspends script passes t (status.Waiting c m) frames reported rule rule.by_status.0 (status.Reacquire c m cause.TimedOut) (rule.by_status.0, and_from _ _ rule.by_status.1 (timed_placed place (timed refl)), λ leaves. absurd (false≢true leaves)); lawful = refl }
  case_keeps (on_top frame below s at) (wait_timed_out _ result cond mutex c m free) rule =
      next_keeps script passes matches t frame below reported (awake script passes t (status.Reacquire c m cause.TimedOut) (frame ∷ below) reported rule rule.by_status.0) (status.Reacquire c m cause.TimedOut) (statement.CondTimedWait result cond mutex) at refl refl refl refl refl refl
  case_keeps {frames} place (canceled_in_wait next c m delivered) rule = record { own = leave_fits script passes t (status.Waiting c m) frames reported rule rule.by_status.0 c m rule.by_status.1 (deliverable_enabled t.state t.pending (delivered refl)); lawful = refl }
  case_keeps {frames} place (canceled_after_wait next c m why returns delivered) rule = record { own = leave_fits script passes t (status.Reacquire c m why) frames reported rule rule.by_status.0 c m (in_wait (next_of script frames) c m why rule.by_status.1) (deliverable_enabled t.state t.pending (delivered refl)); lawful = refl }
  case_keeps {frames} place (signal_handed_on next c m u delivered waits) rule = record { own = leave_fits script passes t (status.Reacquire c m cause.Signalled) frames reported rule rule.by_status.0 c m rule.by_status.1 (deliverable_enabled t.state t.pending (delivered refl)); lawful = refl }
  case_keeps {frames} place (ended_in_wait next c m free) rule = end_in_wait_keeps script passes t (status.Reacquire c m cause.Canceled) frames reported rule rule.by_status.0 c m (rule.by_status.2 refl)
  -- semaphores
  case_keeps (on_top frame below s at) (sem_wait_begun _ sem unasked) rule = record { own = suspends script passes t status.Running (frame ∷ below) reported rule rule.by_status (status.InSem sem) (rule.by_status, ap (λ (x : Option Stmt). is_sem_wait_of sem (next_in frame x)) at ∙ eq-eqb sem sem refl); lawful = refl }
  case_keeps (on_top frame below s at) (sem_taken _ n sem some) rule =
      next_keeps script passes matches t frame below reported (awake script passes t (status.InSem sem) (frame ∷ below) reported rule rule.by_status.0) (status.InSem sem) (statement.SemWait n) at refl refl refl refl refl refl
  case_keeps (on_top frame below s at) (timed_sem_wait_begun _ result sem unasked) rule = record { own = suspends script passes t status.Running (frame ∷ below) reported rule rule.by_status (status.InSem sem) (rule.by_status, ap (λ (x : Option Stmt). is_sem_wait_of sem (next_in frame x)) at ∙ eq-eqb sem sem refl); lawful = refl }
  case_keeps (on_top frame below s at) (timed_sem_taken _ result n sem some) rule =
      next_keeps script passes matches t frame below reported (awake script passes t (status.InSem sem) (frame ∷ below) reported rule rule.by_status.0) (status.InSem sem) (statement.SemTimedWait result n) at refl refl refl refl refl refl
  case_keeps (on_top frame below s at) (sem_wait_timed_out _ result n sem none) rule =
      next_keeps script passes matches t frame below reported (awake script passes t (status.InSem sem) (frame ∷ below) reported rule rule.by_status.0) (status.InSem sem) (statement.SemTimedWait result n) at refl refl refl refl refl refl
  -- once controls
  case_keeps (on_top frame below s at) (routine_called _ o f fresh room) rule = once_keeps script passes matches t frame below reported o f t.id at (names.routine frame o f at) rule
  -- fork and its handlers, and waitpid
  case_keeps (on_top frame below s at) (fork_begun _ result child alive) rule =
      let count : ℕ = length shared.fork_handlers in
      record { own = suspends script passes t status.Running (frame ∷ below) reported rule rule.by_status (status.Forking (record { phase = Prepare; next = count; length = count; answer = 0 })) (rule.by_status, ap (λ (x : Option Stmt). is_at_fork (next_in frame x)) at, alive); lawful = refl }
  case_keeps {frames} {o = o} place (fork_handler_called next at call is) rule =
      let keeps : Keeps script passes (own (status.Forking at) frames) reported o = fork_handler_keeps script passes matches t frames reported at call (plain_below script call.func (next_plain script shared.fork_handlers registered.fork_handlers at call is)) rule in
      let no_exit : calls_exit_function o.events ≡ false = of_each_phase (λ (w : What). calls_exit_function (w ∷ []) ≡ false) call.func refl refl refl at.phase in
      subst (λ (exits : Bool). KeepsBy script passes (FitsIf script passes exits) (own (status.Forking at) frames) reported o) (sym no_exit) keeps
  case_keeps (on_top frame below s at) (fork_handler_left _ _ v values returns is keeps) rule = fork_handler_left_keeps script passes matches t frame below reported rule shared.globals at returns is values
  case_keeps {frames} place (process_forked next at new prepares is) rule =
      record { own = suspends script passes t (status.Forking at) frames reported rule rule.by_status.0 (status.Forking (record { phase = Parent; next = 0; length = at.length; answer = new })) rule.by_status; lawful = refl }
  case_keeps {frames} place (process_not_forked next at prepares) rule =
      record { own = suspends script passes t (status.Forking at) frames reported rule rule.by_status.0 (status.Forking (record { phase = Parent; next = 0; length = at.length; answer = 0 })) rule.by_status; lawful = refl }
  case_keeps (on_top frame below s at) (fork_failed _ result child fork returns) rule =
      next_keeps script passes matches t frame below reported (awake script passes t (status.Forking fork) (frame ∷ below) reported rule rule.by_status.0) (status.Forking fork) (statement.Fork result child) at refl refl refl refl refl refl
  case_keeps (on_top frame below s at) (fork_returned _ result child fork n) rule =
      next_keeps script passes matches t frame below reported (awake script passes t (status.Forking fork) (frame ∷ below) reported rule rule.by_status.0) (status.Forking fork) (statement.Fork result child) at refl refl refl refl refl refl
  case_keeps (on_top frame below s at) (waitpid_begun _ result d pid unasked) rule =
      record { own = suspends script passes t status.Running (frame ∷ below) reported rule rule.by_status (status.InWaitPid (value frame pid)) (rule.by_status, ap (λ (x : Option Stmt). is_at_waitpid (next_in frame x)) at); lawful = refl }
  case_keeps (on_top frame below s at) (child_reaped _ result d operand pid n child is ended) rule =
      next_keeps script passes matches t frame below reported (awake script passes t (status.InWaitPid pid) (frame ∷ below) reported rule rule.by_status.0) (status.InWaitPid pid) (statement.WaitPid result operand d) at refl refl refl refl refl refl
  case_keeps (on_top frame below s at) (child_lost _ result d operand pid) rule =
      next_keeps script passes matches t frame below reported (awake script passes t (status.InWaitPid pid) (frame ∷ below) reported rule rule.by_status.0) (status.InWaitPid pid) (statement.WaitPid result operand d) at refl refl refl refl refl refl
  -- cleanup handlers
  case_keeps (on_top frame below s at) (handler_pushed _ f v room) rule = push_keeps script passes matches t frame below reported f v (value frame v) at (names.pushed frame f v at) rule
  case_keeps (on_top frame below s at) (handler_popped _ v f a handlers is zero) rule =
      by_handlers script passes t status.Running (frame ∷ below) reported _ ((f, a) ∷ handlers) is (λ r. drop_keeps script passes matches t frame below reported v at f a handlers r) rule
  case_keeps (on_top frame below s at) (handler_called _ v f a handlers is room not_zero) rule =
      by_handlers script passes t status.Running (frame ∷ below) reported _ ((f, a) ∷ handlers) is (λ r. run_keeps script passes matches t frame below reported v at f a handlers r) rule
  -- the end of a thread
  case_keeps (on_top frame below s at) (exit_called _ v begun) rule = begin_keeps script passes t (frame ∷ below) reported rule (value frame v) (not_begun t.reason begun)
  case_keeps {frames} place (handler_run next f a handlers is) rule = by_handlers script passes t status.Ending frames reported _ ((f, a) ∷ handlers) is (λ r. handler_keeps script passes matches t frames reported f a handlers r) rule
  case_keeps {frames} place (destructor_called next k f key none is named among) rule =
      by_handlers script passes t status.Ending frames reported _ [] none (λ r. destructor_keeps script passes matches t frames reported r k f (destructor_in_script script shared.keys kept k key f is named) (left_in_pass script shared.keys kept t.specific k (left_key_of shared.keys t.specific k (among refl)))) rule
  case_keeps {frames} place (pass_begun next none more some_due none_left) rule = by_handlers script passes t status.Ending frames reported _ [] none (λ r. pass_keeps script passes matches t frames reported r more) rule
  case_keeps {frames} place (thread_ended next none nothing_due none_left) rule = by_handlers script passes t status.Ending frames reported _ [] none (λ r. record { own = ended_fits script passes matches t frames reported r (end_value t.reason); lawful = and_from _ _ (end_lawful script passes matches t frames reported r) refl }) rule
  case_keeps {frames} place (thread_ended_with_keys next left none some limit all none_left) rule = by_handlers script passes t status.Ending frames reported _ [] none (λ r. record { own = ended_fits script passes matches t frames reported r (end_value t.reason); lawful = and_from _ _ (end_lawful script passes matches t frames reported r) (leftover_lawful script passes matches t frames reported r left some limit) }) rule
  case_keeps {frames} place (last_ended next none is_last nothing_due none_left) rule = by_handlers script passes t status.Ending frames reported _ [] none (λ r. record { own = exits_fit script passes matches t frames reported r (end_value t.reason); lawful = and_from _ _ (end_lawful script passes matches t frames reported r) refl }) rule
  case_keeps {frames} place (last_ended_with_keys next left none is_last some limit all none_left) rule = by_handlers script passes t status.Ending frames reported _ [] none (λ r. record { own = exits_fit script passes matches t frames reported r (end_value t.reason); lawful = and_from _ _ (end_lawful script passes matches t frames reported r) (leftover_lawful script passes matches t frames reported r left some limit) }) rule
  -- the exit of a process
  case_keeps (on_top frame below s at) (process_exited _ v alone) rule = exit_keeps script passes t (frame ∷ below) reported rule (value frame v)
  case_keeps {frames} place (process_ended_now frame v) rule = record { own = rule; lawful = refl }
  case_keeps {frames} place (exit_function_called next f functions is) rule = exit_function_keeps script passes matches t frames reported f (first_plain f functions is) rule
  case_keeps {frames} place (process_ended next v value_is no_functions) rule = record { own = rule; lawful = refl }
  -- each other transition is of a running thread that goes on at its next statement
  case_keeps (on_top frame below s at) _ rule = next_keeps script passes matches t frame below reported rule status.Running s at refl refl refl refl refl refl

  any_if : (exits : Bool) (u : Thread) (s : ThreadSummary) → FitsIf script passes exits u s → FitsAny script passes u s
  any_if true u s fits = fits
  any_if false u s fits = in_any script passes u s fits

  -- the same of a thread that may run a function registered with atexit
  rule_keeps : (s : Status) (frames : List Frame) {body : List Stmt} {next : NextStatement} {o : Transition} → IsPlaced script frames body next → TransitionCase passes body shared (own s frames) environment true next s o
      → FitsAny script passes (own s frames) reported → ByAnyStatus script s t.reason frames t.handlers reported → KeepsAny script passes (own s frames) reported o
  rule_keeps s frames {o = o} place c rule (inl by_status) =
      let keeps = case_keeps place c (record { agrees = rule.agrees; placed = rule.placed; by_status = by_status; in_passes = rule.in_passes }) in
      record { own = any_if (calls_exit_function o.events) _ _ keeps.own; lawful = keeps.lawful }
  rule_keeps status.Running (frame ∷ []) place c rule (inr exits) = exit_step_keeps script passes matches t frame reported rule exits place c (plain_next script frame [] exits.1 place)
  rule_keeps _ _ place c rule (inr exits) = absurd exits

  -- a thread that it creates fits no events
  case_created : {frames : List Frame} {body : List Stmt} {next : NextStatement} {s : Status} {o : Transition} → IsPlaced script frames body next → TransitionCase passes body shared t environment true next s o → (new : NewThread) → o.created ≡ Some new → FitsAny script passes (created_thread new) no_events
  case_created place (thread_made frame result id f v detached n among) new is =
      subst (λ (x : NewThread). FitsAny script passes (created_thread x) no_events) (same_Some (record { id = n; detached = detached; func = f; arg = value frame v }) new is) (in_any script passes (new_thread n detached (new_frame f (value frame v) kind.Start)) no_events (new_fits script passes matches n f (value frame v) detached kind.Start (names.created frame result id f v detached (statement_placed place)) (refl, refl)))
  case_created place _ new is = absurd (none-some new is)

-- a transition of a thread, by any choice
pub transition_keeps : (script : Script) → PushesMatch script → NamesFunctions script → (config : Config) (w : World) (p : Process) (t : Thread) (reported : ThreadSummary) (choice : Alt) → KeysKept script p.shared.keys → RegistersPlain script p.shared → offers (choices_of script config w p t) choice ≡ true
    → FitsAny script config.passes t reported → KeepsAny script config.passes t reported (transition_by script config w p t choice)
transition_keeps script matches names config w p t reported choice kept registered offered rule =
    let environment : Environment = environment_of config w p t.id in
    rule_keeps script config.passes matches names p.shared kept registered t environment reported t.status t.frames (is_placed script t.frames) (case_of config.passes (body_at script t.frames) p.shared t environment true choice (next_of script t.frames) t.status (λ known. offered)) rule rule.by_status

-- the thread that it creates
pub created_fits : (script : Script) → PushesMatch script → NamesFunctions script → (config : Config) (w : World) (p : Process) (t : Thread) (choice : Alt) → KeysKept script p.shared.keys → RegistersPlain script p.shared → offers (choices_of script config w p t) choice ≡ true
    → (new : NewThread) → (transition_by script config w p t choice).created ≡ Some new → FitsAny script config.passes (created_thread new) no_events
created_fits script matches names config w p t choice kept registered offered =
    let environment : Environment = environment_of config w p t.id in
    case_created script config.passes matches names p.shared kept registered t environment no_events (is_placed script t.frames) (case_of config.passes (body_at script t.frames) p.shared t environment true choice (next_of script t.frames) t.status (λ known. offered))
