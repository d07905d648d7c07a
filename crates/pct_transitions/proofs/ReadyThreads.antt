-- A thread has a choice exactly if the condition on which it has one holds.
use Rattle.pct_names.proofs.Names.{◌&&◌, ◌++◌, [], act_if, Alt, body_at, Bool, called_kind, Cause, choices_at, Environment, expire_if}
use Rattle.pct_names.proofs.Names.{false, Family, first_row, Frame, go_if, if◌then◌else◌, is_asynchronous, is_busy, is_deliverable, is_enabled}
use Rattle.pct_names.proofs.Names.{is_fork_kind, is_free_mutex, is_timed_wait, List, may_pass_point, next_of, NextStatement, NoStatement, not}
use Rattle.pct_names.proofs.Names.{once_at, refl, running_choices, running_rows, Script, SharedState, StatementIn, Status, Stmt, sym, Thread}
use Rattle.pct_names.proofs.Names.{true, unblocked_acts, Waiter, ◌||◌, ℕ, ◌∙◌, ◌∷◌, ◌≡◌}
use Rattle.pct_model.specs.declared.schedule.Alt.TheVariants as alt
use Rattle.pct_model.specs.declared.statement.Stmt.TheVariants as statement
use Rattle.pct_model.specs.declared.state.Cause.TheVariants as cause
use Rattle.pct_model.specs.declared.state.Status.TheVariants as status
use Rattle.pct_engine_laws.specs.Seen.{SeenProcess, SeenSlot}
use Rattle.pct_engine_laws.specs.SeenSteps.{environment_in, is_ready_in}
use Rattle.pct_transition_cases.proofs.EnabledChoices.{ending_enabled, running_enabled}
use Rattle.pct_transitions.specs.declared.readiness.ReadyWhen.{ReadyWhen}
use Rattle.pct_transitions.specs.declared.readiness.ReadyWhen.TheVariants as ready
use Rattle.pct_transitions.specs.Readiness.{now_or, leaves_acts, running_when, ready_at, is_met, ready_when}

-- the process is restricted, and the frame is not that of a fork handler
forbidden_call : (restricted fork : Bool) → (restricted && (not fork && true)) ≡ (restricted && not fork)
forbidden_call true true = refl
forbidden_call true false = refl
forbidden_call false fork = refl

not_not : (b : Bool) → not (not b) ≡ b
not_not true = refl
not_not false = refl

-- by the cause, there are choices to act
acts_left : (why : Cause) (waiters : List Waiter) → is_enabled (unblocked_acts why waiters) ≡ leaves_acts why
acts_left cause.Signalled [] = refl
acts_left cause.Signalled (waiter ∷ waiters) = refl
acts_left cause.Broadcast waiters = refl
acts_left cause.TimedOut waiters = refl
acts_left cause.Canceled waiters = refl

-- ---- lists of choices

module _ (shared : SharedState) (environment : Environment) where
  -- `go` and `act`, each by its test
  go_or_act : (go act : Bool) (when : ReadyWhen) → is_met shared environment when ≡ go → is_enabled (go_if go ++ act_if act) ≡ is_met shared environment (now_or act when)
  go_or_act true true when is = refl
  go_or_act true false when is = sym is
  go_or_act false true when is = refl
  go_or_act false false when is = sym is

  -- where `go` depends on nothing else
  pass_or_act : (go act : Bool) → is_enabled (go_if go ++ act_if act) ≡ is_met shared environment (now_or (go || act) ready.Never)
  pass_or_act true act = refl
  pass_or_act false true = refl
  pass_or_act false false = refl

  -- `expire` and `act`
  expire_or_act : (expire act : Bool) → is_enabled (expire_if expire ++ act_if act) ≡ is_met shared environment (now_or (expire || act) ready.Never)
  expire_or_act true act = refl
  expire_or_act false true = refl
  expire_or_act false false = refl

  -- `go`, `expire` where `go` is no choice, and `act`
  go_expire_or_act : (go expire act : Bool) (when : ReadyWhen) → is_met shared environment when ≡ go
      → is_enabled (go_if go ++ expire_if (expire && not go) ++ act_if act) ≡ is_met shared environment (now_or (expire || act) when)
  go_expire_or_act true true act when is = refl
  go_expire_or_act true false true when is = refl
  go_expire_or_act true false false when is = sym is
  go_expire_or_act false true act when is = refl
  go_expire_or_act false false true when is = refl
  go_expire_or_act false false false when is = sym is

  -- `go`, and these choices to act
  go_or_acts : (go test some : Bool) (acts : List Alt) (when : ReadyWhen) → is_enabled acts ≡ some → is_met shared environment when ≡ go
      → is_enabled (go_if go ++ (if test then acts else [])) ≡ is_met shared environment (now_or (test && some) when)
  go_or_acts true true true acts when left is = refl
  go_or_acts true true false acts when left is = sym is
  go_or_acts true false some acts when left is = sym is
  go_or_acts false true true acts when left is = left
  go_or_acts false true false acts when left is = left ∙ sym is
  go_or_acts false false some acts when left is = sym is

  -- the choices at a call that may block, by the tests of the rows
  at_blocking : (forbidden asynchronous requested blocked : Bool) (acts : List Alt) (when : ReadyWhen) → is_met shared environment when ≡ not blocked
      → is_enabled (first_row ((forbidden, alt.Go ∷ []) ∷ (asynchronous, alt.Go ∷ acts) ∷ (requested && false, alt.Act 0 ∷ []) ∷ (requested && false, alt.Go ∷ alt.Act 0 ∷ []) ∷ (blocked, []) ∷ []) (alt.Go ∷ []))
      ≡ is_met shared environment (now_or (asynchronous || forbidden) when)
  at_blocking true true requested blocked acts when is = refl
  at_blocking true false requested blocked acts when is = refl
  at_blocking false true requested blocked acts when is = refl
  at_blocking false false true true acts when is = sym is
  at_blocking false false true false acts when is = sym is
  at_blocking false false false true acts when is = sym is
  at_blocking false false false false acts when is = sym is

-- ---- a thread

module _ (body : List Stmt) (shared : SharedState) (t : Thread) (environment : Environment) where
  -- what a running thread may do at a call that may block although it is blocked
  abbrev has_other_choice : Frame → Bool
  has_other_choice frame = is_asynchronous t.state t.mode || (shared.restricted && not (is_fork_kind frame.kind))

  lock_is_met : (frame : Frame) (m : ℕ) → is_enabled (running_choices body shared t environment frame (statement.Lock m)) ≡ is_met shared environment (now_or (has_other_choice frame) (ready.MutexFree m))
  unfolding running_choices running_rows called_kind
  lock_is_met frame m =
      at_blocking shared environment (shared.restricted && (not (is_fork_kind frame.kind) && true)) (is_asynchronous t.state t.mode) (is_deliverable t.state t.pending) (not (is_free_mutex m shared)) (act_if t.pending) (ready.MutexFree m) (sym (not_not (is_free_mutex m shared)))
      ∙ (λ i. is_met shared environment (now_or (is_asynchronous t.state t.mode || forbidden_call shared.restricted (is_fork_kind frame.kind) i) (ready.MutexFree m)))

  once_is_met : (frame : Frame) (o f : ℕ) → is_enabled (running_choices body shared t environment frame (statement.CallOnce o f)) ≡ is_met shared environment (now_or (has_other_choice frame) (ready.OnceNotBusy o))
  unfolding running_choices running_rows called_kind
  once_is_met frame o f =
      at_blocking shared environment (shared.restricted && (not (is_fork_kind frame.kind) && true)) (is_asynchronous t.state t.mode) (is_deliverable t.state t.pending) (is_busy (once_at shared.onces o)) (act_if t.pending) (ready.OnceNotBusy o) refl
      ∙ (λ i. is_met shared environment (now_or (is_asynchronous t.state t.mode || forbidden_call shared.restricted (is_fork_kind frame.kind) i) (ready.OnceNotBusy o)))

  -- a running thread, at a statement
  running_is_met : (frame : Frame) (s : Stmt) → is_enabled (running_choices body shared t environment frame s) ≡ is_met shared environment (running_when shared.restricted t.state t.mode frame s)
  unfolding running_when
  running_is_met frame (statement.Lock m) = lock_is_met frame m
  running_is_met frame (statement.CallOnce o f) = once_is_met frame o f
  running_is_met frame s = running_enabled body shared t environment frame s refl

  -- a thread, by its status
  pub enabled_is_met : (next : NextStatement) (s : Status)
      → is_enabled (choices_at body shared t environment next s) ≡ is_met shared environment (ready_at environment.timeouts shared.restricted t.state t.mode t.pending next s)
  unfolding choices_at ready_at
  enabled_is_met (StatementIn frame s) status.Running = running_is_met frame s
  enabled_is_met NoStatement status.Running = refl
  enabled_is_met next (status.AtPoint index) = pass_or_act shared environment (may_pass_point index) (is_deliverable t.state t.pending)
  enabled_is_met next (status.Joining id) = go_or_act shared environment _ (is_deliverable t.state t.pending) (ready.ThreadEnded id) refl
  enabled_is_met next (status.InSem s) = go_expire_or_act shared environment _ (environment.timeouts && is_timed_wait next) (is_deliverable t.state t.pending) (ready.CountAboveZero s) refl
  enabled_is_met next (status.InWaitPid pid) = go_or_act shared environment _ (is_deliverable t.state t.pending) (ready.ChildEnded pid) refl
  enabled_is_met next (status.Waiting c m) = expire_or_act shared environment (environment.timeouts && is_timed_wait next) (is_deliverable t.state t.pending)
  enabled_is_met next (status.Reacquire c m why) =
      go_or_acts shared environment _ (is_deliverable t.state t.pending) (leaves_acts why) (unblocked_acts why (environment.waiters c)) (ready.MutexFree m) (acts_left why (environment.waiters c)) refl
  enabled_is_met next status.Ending = ending_enabled body shared t environment t.handlers
  enabled_is_met next (status.Forking at) = refl
  enabled_is_met next status.Exiting = refl
  enabled_is_met next (status.Ended v) = refl

-- ---- in a process

module _ (timeouts : Bool) (slots : ℕ) (family : Family) where
  pub ready_is_met : (script : Script) (p : SeenProcess) (t : Thread)
      → is_ready_in script timeouts slots family p t ≡ is_met p.shared (environment_in timeouts slots family p.slots t.id) (ready_when script timeouts p.shared.restricted t)
  unfolding environment_in
  ready_is_met script p t = enabled_is_met (body_at script t.frames) p.shared t (environment_in timeouts slots family p.slots t.id) (next_of script t.frames) t.status

  -- each thread sees alike whether a condition holds
  pub met_alike : (shared : SharedState) (rows : List SeenSlot) (a b : ℕ) (when : ReadyWhen)
      → is_met shared (environment_in timeouts slots family rows a) when ≡ is_met shared (environment_in timeouts slots family rows b) when
  unfolding environment_in
  met_alike shared rows a b ready.Never = refl
  met_alike shared rows a b ready.Now = refl
  met_alike shared rows a b (ready.MutexFree m) = refl
  met_alike shared rows a b (ready.CountAboveZero s) = refl
  met_alike shared rows a b (ready.OnceNotBusy o) = refl
  met_alike shared rows a b (ready.ThreadEnded id) = refl
  met_alike shared rows a b (ready.ChildEnded pid) = refl
