-- What the events of each transition name: items of the script, by the statement of the thread or by what it is suspended for.
use Rattle.pct_names.proofs.Names.{◌<◌, [], All, All-head, AllByRecursion, and_parts, ap, arith, Bool, Cause, cond, encode, Environment, event_names}
use Rattle.pct_names.proofs.Names.{false, false≢true, Frame, Func, has_first_word, has_line, is_some, length, length-map}
use Rattle.pct_names.proofs.Names.{List, list_any, nat_eq, next_of, NextStatement, None, once_at, Option, option_map, option_map_or}
use Rattle.pct_names.proofs.Names.{cond_timedwait_point, cond_wait_point, join_point, nat_lt, sem_timedwait_point, sem_wait_point, testcancel_point, waitpid_point, point_kind, point_name, point_of, point_statement, PointKind, points, refl, Script, SharedState, slice_get, slice_get_within, Some}
use Rattle.pct_names.proofs.Names.{statement_at, StatementIn, Status, Stmt, subst, subst₂, suc, sym, syntax_of, Thread, Transition, true, What, ℕ, ◌∙◌, ◌∷◌, ◌≡◌}
use Rattle.std.proofs.Common.{eqb-true, eq-eqb}
use Rattle.std.proofs.lemmas.Bool.{ltb-true}
use Rattle.std.specs.Option.{IsSomeAnd}
use Rattle.pct_model.specs.declared.event.What.TheVariants as what
use Rattle.pct_model.specs.declared.state.Cause.TheVariants as cause
use Rattle.pct_model.specs.declared.state.FrameKind.TheVariants as kind
use Rattle.pct_model.specs.declared.state.Status.TheVariants as status
use Rattle.pct_model.specs.declared.statement.Stmt.TheVariants as statement
use Rattle.pct_model.specs.declared.point.Point.{Point}
use Rattle.pct_model.specs.CancelCalls.{is_required}
use Rattle.pct_model.specs.Points.{Row}
use Rattle.pct_model.specs.Static.{is_plain_body}
use Rattle.pct_laws.specs.Kept.{ThreadKept, KeysKept, IsFunction, IsPlainFunction, IsInItsRoutines, IsSuspendedAt, is_call_of, is_cond_wait_of, is_exiting}
use Rattle.pct_laws.specs.Kept.{control_of, is_busy_with, is_exit_kind, is_routine_of, is_sem_wait_of}
use Rattle.pct_laws.specs.ThreadSummary.{ThreadSummary}
use Rattle.pct_transition_cases.proofs.PlacedStatements.{IsPlaced, nowhere, on_top, statement_placed}
use Rattle.pct_transition_cases.proofs.TransitionCases.{TransitionCase, routine_left, thread_made, join_begun, cancel_tested, point_begun, point_done, point_passed}
use Rattle.pct_transition_cases.proofs.TransitionCases.{mutex_locked, mutex_unlocked, wait_begun, timed_wait_begun, wait_ended, timed_wait_ended, wait_expired}
use Rattle.pct_transition_cases.proofs.TransitionCases.{wait_timed_out, canceled_in_wait, canceled_after_wait, signal_handed_on, ended_in_wait, signal_sent, signal_lost}
use Rattle.pct_transition_cases.proofs.TransitionCases.{broadcast_sent, sem_wait_begun, sem_taken, timed_sem_wait_begun, timed_sem_taken, sem_posted, routine_called}
use Rattle.pct_transition_cases.proofs.TransitionCases.{fork_handler_called, process_forked, waitpid_begun, handler_pushed, handler_popped, handler_called, handler_run}
use Rattle.pct_transition_cases.proofs.TransitionCases.{destructor_called, exit_function_called}
use Rattle.pct_thread_invariants.proofs.exits.RegisteredFunctions.{ArePlain, RegistersPlain, next_plain}
use Rattle.pct_thread_invariants.proofs.keys.LeftKeys.{destructor_in_script}
use Rattle.pct_thread_invariants.proofs.lift.HandlerEvents.{of_each_phase}
use Rattle.pct_thread_invariants.proofs.lift.MovedThreads.{each_passing}
use Rattle.pct_thread_invariants.proofs.thread.NamedFunctions.{control_below, line_of, names_functions}
use Rattle.pct_thread_invariants.proofs.thread.NamedWords.{names_there}
use Rattle.pct_once_laws.proofs.OnceStates.{busy_is, busy_within, counted, in_routine}
use Rattle.pct_event_bounds.specs.EventBounds.{IsIndexOf, IsPoint, NamesItems}

-- ---- points

-- a point with a kind is in the table
in_table : (index : ℕ) → is_some (point_kind index) ≡ true → IsPoint index
unfolding point_kind
in_table index some = by_row (slice_get points index) refl some
  where
    by_row : (row : Option Row) → slice_get points index ≡ row → is_some (option_map (λ (p : Point). p.kind) (option_map (λ (r : Row). record { index = index; kind = r.kind; wait = r.wait }) row)) ≡ true → IsPoint index
    by_row (Some row) at is = slice_get_within points index row at
    by_row None at is = absurd (false≢true is)

-- a point of a statement of its own is in the table
fixed : (index : ℕ) → nat_lt index 58 ≡ true → IsPoint index
unfolding points
fixed index low = ltb-true index 58 low

-- a required point has a kind
required_some : (k : Option PointKind) → is_required k ≡ true → is_some k ≡ true
required_some (Some k) is = refl
required_some None is = absurd (false≢true is)

module _ (script : Script) where
  -- the name of a point that is not in the table is empty
  point_called : (frame : Frame) (index : ℕ) → statement_at script frame ≡ Some (statement.PointCall index) → IsPoint index
  unfolding has_line has_first_word encode point_statement points point_of point_name
  point_called frame index at = by_row (slice_get points index) refl
    where
      by_row : (row : Option Row) → slice_get points index ≡ row → IsPoint index
      by_row (Some row) is = slice_get_within points index row is
      by_row None is =
          let line = line_of script frame (statement.PointCall index) at in
          absurd (false≢true (sym (ap (λ (row : Option Row). option_map_or (nat_eq index) (point_statement (option_map_or (λ (r : Row). r.name) row [])) false) is) ∙ (and_parts _ _ line.1).0))

  -- ---- what a thread is suspended for

  abbrev IsCond : ℕ → Type 0
  IsCond c = c < length script.conds

  abbrev IsMutex : ℕ → Type 0
  IsMutex m = m < length script.mutexes

  abbrev IsSem : ℕ → Type 0
  IsSem n = n < length (event_names script).sems

  -- the next statement is a condition wait
  waits_for : {frames : List Frame} {body : List Stmt} {next : NextStatement} (c m : ℕ) → IsPlaced script frames body next → is_cond_wait_of c m next ≡ true → IsCond c × IsMutex m
  unfolding encode syntax_of
  waits_for c m (nowhere frames body) is = absurd (false≢true is)
  waits_for c m (on_top frame below s at) is = by_statement s (on_top frame below s at) is
    where
      by_statement : {frames : List Frame} {body : List Stmt} (s : Stmt) → IsPlaced script frames body (StatementIn frame s) → is_cond_wait_of c m (StatementIn frame s) ≡ true → IsCond c × IsMutex m
      by_statement (statement.CondWait d mutex) placed is =
          let there = names_there script placed in
          let same = and_parts (nat_eq d c) (nat_eq mutex m) is in
          (subst IsCond (eqb-true d c same.0) there.0, subst IsMutex (eqb-true mutex m same.1) there.1.0)
      by_statement (statement.CondTimedWait result d mutex) placed is =
          let there = names_there script placed in
          let same = and_parts (nat_eq d c) (nat_eq mutex m) is in
          (subst IsCond (eqb-true d c same.0) there.1.0, subst IsMutex (eqb-true mutex m same.1) there.1.1.0)
      by_statement _ placed is = absurd (false≢true is)

  -- the next statement is a wait for a semaphore
  waits_for_sem : {frames : List Frame} {body : List Stmt} {next : NextStatement} (n : ℕ) → IsPlaced script frames body next → is_sem_wait_of n next ≡ true → IsSem n
  unfolding encode syntax_of
  waits_for_sem n (nowhere frames body) is = absurd (false≢true is)
  waits_for_sem n (on_top frame below s at) is = by_statement s (on_top frame below s at) is
    where
      by_statement : {frames : List Frame} {body : List Stmt} (s : Stmt) → IsPlaced script frames body (StatementIn frame s) → is_sem_wait_of n (StatementIn frame s) ≡ true → IsSem n
      by_statement (statement.SemWait sem) placed is = subst IsSem (eqb-true sem n is) (names_there script placed).0
      by_statement (statement.SemTimedWait result sem) placed is = subst IsSem (eqb-true sem n is) (names_there script placed).1.0
      by_statement _ placed is = absurd (false≢true is)

  reacquires : (c m : ℕ) (why : Cause) (next : NextStatement) → IsSuspendedAt next (status.Reacquire c m why) → is_cond_wait_of c m next ≡ true
  reacquires c m cause.TimedOut next is = (and_parts _ _ is).0
  reacquires c m cause.Signalled next is = is
  reacquires c m cause.Broadcast next is = is
  reacquires c m cause.Canceled next is = is

  -- ---- events that name no item

  abbrev names_nothing : What → Bool
  names_nothing (what.Emit v) = true
  names_nothing (what.Answer call v) = true
  names_nothing (what.Request id) = true
  names_nothing (what.Detached id) = true
  names_nothing (what.StateSet enable) = true
  names_nothing (what.ModeSet asynchronous) = true
  names_nothing (what.Joined id v) = true
  names_nothing (what.EndingExit v) = true
  names_nothing what.EndingCanceled = true
  names_nothing (what.PassBegun n) = true
  names_nothing (what.Leftover n) = true
  names_nothing (what.EndedWith v) = true
  names_nothing (what.KeyMade k) = true
  names_nothing (what.KeyGone k) = true
  names_nothing (what.ExitBegun v) = true
  names_nothing (what.ProcessEnded n) = true
  names_nothing (what.Reaped pid n) = true
  names_nothing (what.Stopped why) = true
  names_nothing _ = false

  abbrev Named : What → Type 0
  Named w = NamesItems (event_names script) w

  nothing_named : (w : What) → names_nothing w ≡ true → Named w
  nothing_named (what.Emit v) is = tt
  nothing_named (what.Answer call v) is = tt
  nothing_named (what.Request id) is = tt
  nothing_named (what.Detached id) is = tt
  nothing_named (what.StateSet enable) is = tt
  nothing_named (what.ModeSet asynchronous) is = tt
  nothing_named (what.Joined id v) is = tt
  nothing_named (what.EndingExit v) is = tt
  nothing_named what.EndingCanceled is = tt
  nothing_named (what.PassBegun n) is = tt
  nothing_named (what.Leftover n) is = tt
  nothing_named (what.EndedWith v) is = tt
  nothing_named (what.KeyMade k) is = tt
  nothing_named (what.KeyGone k) is = tt
  nothing_named (what.ExitBegun v) is = tt
  nothing_named (what.ProcessEnded n) is = tt
  nothing_named (what.Reaped pid n) is = tt
  nothing_named (what.Stopped why) is = tt
  nothing_named _ is = absurd (false≢true is)

  -- ---- functions

  function_named : (f : ℕ) → IsFunction script f → IsIndexOf (event_names script).functions f
  function_named f is = subst (λ (n : ℕ). f < n) (sym (length-map script.funcs (λ (g : Func). g.name))) is

  plain_named : (f : ℕ) → IsPlainFunction script f → IsIndexOf (event_names script).functions f
  plain_named f is = by_found (slice_get script.funcs f) refl is
    where
      by_found : (found : Option Func) → slice_get script.funcs f ≡ found → IsSomeAnd found (λ g. is_plain_body g ≡ true) → IsIndexOf (event_names script).functions f
      by_found (Some g) at plain = function_named f (slice_get_within script.funcs f g at)
      by_found None at plain = absurd plain

  -- ---- transitions

  module _ (passes : ℕ) (shared : SharedState) (t : Thread) (environment : Environment) (s : ThreadSummary)
      (kept : ThreadKept script shared.keys t s) (keys : KeysKept script shared.keys) (registered : RegistersPlain script shared)
      (controls : length shared.onces ≡ length script.onces) (routines : s.exiting ≡ false → IsInItsRoutines shared.onces t)
      (new_ids : (id : ℕ) → list_any (nat_eq id) environment.new_ids ≡ true → 0 < id)
      (new_pid : (pid : ℕ) → environment.family.new_pid ≡ Some pid → 0 < pid) where
    suspended : {next : NextStatement} {st : Status} → t.status ≡ st → next_of script t.frames ≡ next → IsSuspendedAt next st
    suspended status_is next_is = subst₂ IsSuspendedAt next_is status_is kept.suspended

    reacquired : {body : List Stmt} {next : NextStatement} (c m : ℕ) (why : Cause) → t.status ≡ status.Reacquire c m why → next_of script t.frames ≡ next → IsPlaced script t.frames body next → IsCond c × IsMutex m
    reacquired {next = next} c m why status_is next_is placed = waits_for c m placed (reacquires c m why next (suspended status_is next_is))

    -- the newest handler
    newest_named : (f a : ℕ) (handlers : List (ℕ × ℕ)) → t.handlers ≡ (f, a) ∷ handlers → IsIndexOf (event_names script).functions f
    newest_named f a handlers is =
        function_named f (All-head (λ (handler : ℕ × ℕ). IsFunction script handler.0) (f, a) handlers (subst (All (λ (handler : ℕ × ℕ). IsFunction script handler.0)) is kept.functions))

    -- the control of a routine that returns
    module _ (o : ℕ) where
      busy_control : (busy : Bool) → is_busy_with t.id (once_at shared.onces o) ≡ busy → (n : ℕ) → suc n ≡ cond busy 1 0 → o < length script.onces
      busy_control true busy n is = subst (λ (count : ℕ). o < count) controls (busy_within shared.onces o t.id (busy_is t.id (once_at shared.onces o) busy))
      busy_control false busy n is = absurd (omega (arith, is))

      of_top : (frame : Frame) (below : List Frame) → t.frames ≡ frame ∷ below → frame.kind ≡ kind.OnceFn o → s.exiting ≡ false → o < length script.onces
      of_top frame below frames_are kind_is alive =
          let is_routine : is_routine_of o frame ≡ true = ap (λ k. option_map_or (nat_eq o) (control_of k) false) kind_is ∙ eq-eqb o o refl in
          let count : suc (in_routine o below) ≡ cond (is_busy_with t.id (once_at shared.onces o)) 1 0 =
          sym (ap (λ (b : Bool). cond b (suc (in_routine o below)) (in_routine o below)) is_routine) ∙ sym (ap (in_routine o) frames_are) ∙ sym (counted o t.frames) ∙ routines alive o in
          busy_control (is_busy_with t.id (once_at shared.onces o)) refl (in_routine o below) count

      not_exiting : (frame : Frame) (below : List Frame) → frame.kind ≡ kind.OnceFn o → is_exiting status.Running (frame ∷ below) ≡ false
      not_exiting frame [] kind_is = ap is_exit_kind kind_is
      not_exiting frame (next ∷ below) kind_is = refl

      routine_named : {frames : List Frame} {body : List Stmt} {frame : Frame} {statement : Stmt} → t.status ≡ status.Running → t.frames ≡ frames → IsPlaced script frames body (StatementIn frame statement)
          → frame.kind ≡ kind.OnceFn o → o < length script.onces
      routine_named status_is frames_are (on_top frame below statement at) kind_is =
          of_top frame below frames_are kind_is
          (kept.exiting ∙ ap (λ (st : Status). is_exiting st t.frames) status_is ∙ ap (is_exiting status.Running) frames_are ∙ not_exiting frame below kind_is)

    -- what the events of a transition name
    pub case_named : {body : List Stmt} {next : NextStatement} {st : Status} {o : Transition} → t.status ≡ st → next_of script t.frames ≡ next → IsPlaced script t.frames body next
        → TransitionCase passes body shared t environment true next st o → AllByRecursion Named o.events
    unfolding encode syntax_of
    case_named status_is next_is placed (routine_left frame statement v o returns kind_is) = (routine_named o status_is refl placed kind_is, tt)
    case_named status_is next_is placed (thread_made frame result id f v detached new among) = (new_ids new (among refl), tt)
    case_named status_is next_is placed (join_begun frame id d target is other joinable alone unasked) = (fixed join_point refl, tt)
    case_named status_is next_is placed (cancel_tested frame unasked) = (fixed testcancel_point refl, tt)
    case_named status_is next_is placed (point_begun frame index required unasked) = (point_called frame index (statement_placed placed), tt)
    case_named status_is next_is placed (point_done frame index optional) = (point_called frame index (statement_placed placed), tt)
    case_named status_is next_is placed (point_passed frame index i) =
        (in_table index (required_some (point_kind index) (and_parts _ _ (sym (ap (is_call_of index) next_is) ∙ kept.at_point index status_is)).1), tt)
    case_named status_is next_is placed (mutex_locked frame m free) = ((names_there script placed).0, tt)
    case_named status_is next_is placed (mutex_unlocked frame m owns) = ((names_there script placed).0, tt)
    case_named status_is next_is placed (wait_begun frame c m owns one unasked) = (fixed cond_wait_point refl, ((names_there script placed).1.0, tt))
    case_named status_is next_is placed (timed_wait_begun frame result c m owns one unasked) = (fixed cond_timedwait_point refl, ((names_there script placed).1.1.0, tt))
    case_named status_is next_is placed (wait_ended frame other mutex c m why woken free) =
        let pair = reacquired c m why status_is next_is placed in (pair.1, (fixed cond_wait_point refl, tt))
    case_named status_is next_is placed (timed_wait_ended frame result other mutex c m why woken free) =
        let pair = reacquired c m why status_is next_is placed in (pair.1, (fixed cond_timedwait_point refl, tt))
    case_named status_is next_is placed (wait_expired next c m timed) = ((waits_for c m placed (suspended status_is next_is)).0, tt)
    case_named status_is next_is placed (wait_timed_out frame result other mutex c m free) =
        ((reacquired c m cause.TimedOut status_is next_is placed).1, (tt, tt))
    case_named status_is next_is placed (canceled_in_wait next c m asked) = ((waits_for c m placed (suspended status_is next_is)).0, tt)
    case_named status_is next_is placed (canceled_after_wait next c m why stays asked) = ((reacquired c m why status_is next_is placed).0, tt)
    case_named status_is next_is placed (signal_handed_on next c m u asked among) =
        let pair = reacquired c m cause.Signalled status_is next_is placed in (pair.0, (pair.0, tt))
    case_named status_is next_is placed (ended_in_wait next c m free) =
        let pair = reacquired c m cause.Canceled status_is next_is placed in (pair.1, (pair, tt))
    case_named status_is next_is placed (signal_sent frame c u among) = ((names_there script placed).0, tt)
    case_named status_is next_is placed (signal_lost frame c) = ((names_there script placed).0, tt)
    case_named status_is next_is placed (broadcast_sent frame c) = ((names_there script placed).0, tt)
    case_named status_is next_is placed (sem_wait_begun frame sem unasked) = (fixed sem_wait_point refl, tt)
    case_named status_is next_is placed (sem_taken frame n sem above) = (waits_for_sem sem placed (suspended status_is next_is), tt)
    case_named status_is next_is placed (timed_sem_wait_begun frame result sem unasked) = (fixed sem_timedwait_point refl, tt)
    case_named status_is next_is placed (timed_sem_taken frame result n sem above) = (waits_for_sem sem placed (suspended status_is next_is), tt)
    case_named status_is next_is placed (sem_posted frame sem) = ((names_there script placed).0, tt)
    case_named status_is next_is placed (routine_called frame o f fresh room) = (control_below script frame o f (statement_placed placed), tt)
    case_named status_is next_is placed (fork_handler_called next at call is) =
        let named = plain_named call.func (next_plain script shared.fork_handlers registered.fork_handlers at call is) in
        (of_each_phase Named call.func named named named at.phase, tt)
    case_named status_is next_is placed (process_forked next at new prepares is) = (new_pid new is, tt)
    case_named status_is next_is placed (waitpid_begun frame result d pid unasked) = (fixed waitpid_point refl, tt)
    case_named status_is next_is placed (handler_pushed frame f v room) = (function_named f ((names_functions script).pushed frame f v (statement_placed placed)), tt)
    case_named status_is next_is placed (handler_popped frame v f a handlers is unset) = (newest_named f a handlers is, tt)
    case_named status_is next_is placed (handler_called frame v f a handlers is room some) = (newest_named f a handlers is, tt)
    case_named status_is next_is placed (handler_run next f a handlers is) = (newest_named f a handlers is, tt)
    case_named status_is next_is placed (destructor_called next k f key none is named among) = (function_named f (destructor_in_script script shared.keys keys k key f is named), tt)
    case_named status_is next_is placed (exit_function_called next f functions is) = (plain_named f (subst (ArePlain script) is registered.exit_functions).0, tt)
    case_named {o = o} status_is next_is placed _ = each_passing Named names_nothing nothing_named o.events refl
