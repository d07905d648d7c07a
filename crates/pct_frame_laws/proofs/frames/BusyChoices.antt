-- A thread that is in a function always has something to do: each choice that it is offered goes on, acts, or has an event.
use Rattle.pct_names.proofs.Names.{◌&&◌, ◌++◌, [], acts_on_request, acts_or, adds, Alt, and_parts, begins_fork, begins_join}
use Rattle.pct_names.proofs.Names.{begins_sem_wait, begins_wait, begins_waitpid, Bool, broadcasts, Busy, calls, calls_handler, calls_once}
use Rattle.pct_names.proofs.Names.{calls_point, Cause, choices_at, cond, creates, creates_by, creates_key, creates_key_by, deletes_key}
use Rattle.pct_names.proofs.Names.{Dest, detaches, emits, ends_block, ends_by_exit, ends_join, ends_now, ends_sem_wait, Environment}
use Rattle.pct_names.proofs.Names.{exit_value_with, exits, expires, fails_to_create, fails_to_create_key, false, false≢true, finds_no_child}
use Rattle.pct_names.proofs.Names.{ForkAt, forks_by, Frame, FrameKind, gets_self, gets_specific, go_if, goes_on_after_handlers}
use Rattle.pct_names.proofs.Names.{goes_on_forking, HandlerCall, hands_on, has_no_frame, is_busy, is_deliverable, is_fork_kind}
use Rattle.pct_names.proofs.Names.{is_free_mutex, is_none, is_some, joins_at, jumps, leaves_handler, leaves_routine, leaves_wait, length}
use Rattle.pct_names.proofs.Names.{List, locks, MAX_FORK_HANDLERS, may_register, nat_eq, nat_lt, NextStatement, None, NoStatement, not}
use Rattle.pct_names.proofs.Names.{offers, once_at, OnceState, open_of, Operand, Option, Optional, Parent, passes_point, Phase, point_kind}
use Rattle.pct_names.proofs.Names.{PointKind, pops, posts, Prepare, pushes, Reacquire, reacquires, reaps, reaps_if, refl, registers_fork}
use Rattle.pct_names.proofs.Names.{registers_if, requests, Required, returns_by, returns_in_child, returns_in_parent, runs, sets, sets_mode}
use Rattle.pct_names.proofs.Names.{sets_specific, sets_state, SharedState, signals_by, Some, StatementIn, Status, Stmt, stop_at, stops_or}
use Rattle.pct_names.proofs.Names.{suc, sym, tests_cancel, Thread, Transition, transition_at, true, unlocks, waits_at, Why, ℕ, ◌∙◌, ◌∷◌}
use Rattle.pct_names.proofs.Names.{◌≡◌}
use Rattle.std.specs.Option.{option_map_or}
use Rattle.std.proofs.lemmas.Bool.{true≢false}
use Rattle.pct_model.specs.declared.process.Child.{Child}
use Rattle.pct_model.specs.declared.schedule.Alt.TheVariants as alt
use Rattle.pct_model.specs.declared.state.Cause.TheVariants as cause
use Rattle.pct_model.specs.declared.state.FrameKind.TheVariants as kind
use Rattle.pct_model.specs.declared.state.Phase.TheVariants.{Child as ChildPhase}
use Rattle.pct_model.specs.declared.state.Status.TheVariants as status
use Rattle.pct_model.specs.declared.statement.Stmt.TheVariants as statement
use Rattle.pct_model.specs.LineParsing.{is_empty}
use Rattle.pct_laws.specs.Kept.{is_call_of, is_join, IsSuspendedAt}
use Rattle.pct_transition_cases.proofs.CaseOfTransition.{no_stops}
use Rattle.pct_transition_cases.proofs.OfferedChoices.{is_acting, may_act, may_create, may_expire, may_go}
use Rattle.pct_transition_cases.proofs.OfferedChoices.{may_go_on_untimed, may_make_key, may_pick, not_busy, Offered, offered_of}
use Rattle.pct_frame_laws.proofs.frames.FrameCases.{is_idle}

-- ---- what a thread has, by its status and its next statement

-- a running thread has a handler at a pop, a point at a call of one, and the values of its fork where it returns from a fork handler; a thread in
-- a call is at this call
abbrev pub IsBusy : List (ℕ × ℕ) → Option ForkAt → Status → NextStatement → Type 0
IsBusy handlers kept status.Running (StatementIn frame (statement.Pop v)) = is_empty handlers ≡ false
IsBusy handlers kept status.Running (StatementIn frame (statement.PointCall index)) = is_some (point_kind index) ≡ true
IsBusy handlers kept status.Running (StatementIn frame (statement.Return v)) = is_fork_kind frame.kind ≡ true → is_some kept ≡ true
IsBusy handlers kept status.Running (StatementIn frame statement.End) = is_fork_kind frame.kind ≡ true → is_some kept ≡ true
IsBusy handlers kept status.Running next = Unit {0}
IsBusy handlers kept (status.AtPoint index) next = is_call_of index next ≡ true
IsBusy handlers kept (status.Joining id) next = is_join next ≡ true
IsBusy handlers kept s next = IsSuspendedAt next s

-- ---- its choices

-- the transition goes on, acts, or has an event
abbrev DoesSome : Transition → Type 0
DoesSome o = is_idle o ≡ false

-- each of two transitions does
either_does : (b : Bool) (first second : Transition) → DoesSome first → DoesSome second → DoesSome (cond b first second)
either_does true first second one other = one
either_does false first second one other = other

module _ (passes : ℕ) (body : List Stmt) (shared : SharedState) (t : Thread) (environment : Environment) where
  -- ---- a running thread

  leave_busy : (kept : Option ForkAt) → is_some kept ≡ true → DoesSome (leaves_handler kept)
  unfolding leaves_handler
  leave_busy (Some at) keeps = refl
  leave_busy None keeps = absurd (false≢true keeps)

  return_busy : (kept : Option ForkAt) (k : FrameKind) (v : ℕ) → (is_fork_kind k ≡ true → is_some kept ≡ true) → DoesSome (returns_by kept k v)
  unfolding returns_by exits ends_by_exit leaves_routine
  return_busy kept kind.ForkFn v keeps = leave_busy kept (keeps refl)
  return_busy kept _ v keeps = refl

  end_busy : (opened : Option ℕ) (kept : Option ForkAt) (frame : Frame) → (is_fork_kind frame.kind ≡ true → is_some kept ≡ true) → DoesSome (ends_block opened kept body frame)
  unfolding jumps
  end_busy (Some opening) kept frame keeps = refl
  end_busy None kept frame keeps = return_busy kept frame.kind 0 keeps

  pop_busy : (next v : ℕ) (handlers : List (ℕ × ℕ)) → is_empty handlers ≡ false → DoesSome (pops next v handlers)
  unfolding pops
  pop_busy next v [] some = absurd (true≢false some)
  pop_busy next v ((f, a) ∷ handlers) some = either_does (nat_eq v 0) _ _ refl refl

  point_busy : (next index : ℕ) (k : Option PointKind) → is_some k ≡ true → DoesSome (calls_point next index k)
  unfolding calls_point
  point_busy next index (Some Required) is = refl
  point_busy next index (Some Optional) is = refl
  point_busy next index None is = absurd (false≢true is)

  create_busy : {frame : Frame} {result id : Dest} {f : ℕ} {v : Operand} {detached : Bool} {choice : Alt} (next a : ℕ)
      → Offered shared t environment (StatementIn frame (statement.Create result id f v detached)) status.Running choice → is_acting choice ≡ false
      → DoesSome (creates_by choice next result id f a detached)
  unfolding creates fails_to_create
  create_busy next a (may_go _ _ goes) other = refl
  create_busy next a (may_act _ _ alive delivered where_it_may) other = absurd (true≢false other)
  create_busy next a (may_create _ _ _ _ _ _ n among) other = refl
  create_busy next a (may_expire _ _ timed can before) other = absurd (false≢true timed)

  create_key_busy : {frame : Frame} {result key : Dest} {destructor : Option ℕ} {choice : Alt} (next : ℕ)
      → Offered shared t environment (StatementIn frame (statement.KeyCreate result key destructor)) status.Running choice → is_acting choice ≡ false
      → DoesSome (creates_key_by choice next result key destructor)
  unfolding creates_key fails_to_create_key
  create_key_busy next (may_go _ _ goes) other = refl
  create_key_busy next (may_act _ _ alive delivered where_it_may) other = absurd (true≢false other)
  create_key_busy next (may_make_key _ _ _ _ n among) other = refl
  create_key_busy next (may_expire _ _ timed can before) other = absurd (false≢true timed)

  signal_busy : {frame : Frame} {c : ℕ} {choice : Alt} (next : ℕ)
      → Offered shared t environment (StatementIn frame (statement.Signal c)) status.Running choice → is_acting choice ≡ false → DoesSome (signals_by choice next c)
  unfolding signals_by
  signal_busy next (may_go _ _ goes) other = refl
  signal_busy next (may_act _ _ alive delivered where_it_may) other = absurd (true≢false other)
  signal_busy next (may_pick _ _ u among) other = refl
  signal_busy next (may_expire _ _ timed can before) other = absurd (false≢true timed)

  once_busy : (next o f : ℕ) (state : OnceState) → is_busy state ≡ false → DoesSome (calls_once next o f t.id state)
  unfolding calls_once
  once_busy next o f (Busy id) free = absurd (true≢false free)
  once_busy next o f _ free = refl

  waitpid_busy : (next pid : ℕ) (result : Dest) (found : Option Child) → DoesSome (begins_waitpid found pid next result)
  unfolding finds_no_child
  waitpid_busy next pid result (Some child) = refl
  waitpid_busy next pid result None = refl

  register_busy : (may : Bool) (next : ℕ) (result : Dest) (f : ℕ) → DoesSome (registers_if may next result f)
  unfolding registers_if
  register_busy true next result f = refl
  register_busy false next result f = refl

  runs_busy : (choice : Alt) (frame : Frame) (s : Stmt) → stop_at body shared t environment frame s ≡ None → offers (choices_at body shared t environment (StatementIn frame s) status.Running) choice ≡ true → is_acting choice ≡ false
      → IsBusy t.handlers t.kept status.Running (StatementIn frame s) → DoesSome (runs passes body shared t environment choice frame s)
  unfolding runs emits sets adds jumps calls gets_self ends_by_exit pushes requests detaches begins_join sets_state sets_mode tests_cancel deletes_key sets_specific gets_specific locks unlocks begins_wait broadcasts begins_sem_wait posts registers_fork begins_fork exits ends_now
  runs_busy choice frame statement.End none offered other busy = end_busy (open_of body frame.pc) t.kept frame busy
  runs_busy choice frame (statement.Return v) none offered other busy = return_busy t.kept frame.kind _ busy
  runs_busy choice frame (statement.Pop v) none offered other busy = pop_busy (suc frame.pc) _ t.handlers busy
  runs_busy choice frame (statement.PointCall index) none offered other busy = point_busy (suc frame.pc) index (point_kind index) busy
  runs_busy choice frame (statement.Create result id f v detached) none offered other busy = create_busy (suc frame.pc) _ (offered_of body shared t environment choice _ _ offered) other
  runs_busy choice frame (statement.KeyCreate result key destructor) none offered other busy = create_key_busy (suc frame.pc) (offered_of body shared t environment choice _ _ offered) other
  runs_busy choice frame (statement.Signal c) none offered other busy = signal_busy (suc frame.pc) (offered_of body shared t environment choice _ _ offered) other
  runs_busy choice frame (statement.CallOnce o f) none offered other busy =
      let allowed = no_stops body shared t environment frame (statement.CallOnce o f) none in
      once_busy (suc frame.pc) o f (once_at shared.onces o) (not_busy body shared t environment choice frame o f allowed.0 allowed.1.0 offered)
  runs_busy choice frame (statement.AtFork result prepare parent child) none offered other busy = either_does (nat_lt (length shared.fork_handlers) MAX_FORK_HANDLERS) _ _ refl refl
  runs_busy choice frame (statement.WaitPid result pid d) none offered other busy = waitpid_busy (suc frame.pc) _ result _
  runs_busy choice frame (statement.AtExit result f) none offered other busy = register_busy (may_register shared) (suc frame.pc) result f
  runs_busy choice frame _ none offered other busy = refl

  stop_busy : (stop : Option Why) (goes : Transition) → (stop ≡ None → DoesSome goes) → DoesSome (stops_or stop goes)
  stop_busy (Some why) goes does = refl
  stop_busy None goes does = does refl

  -- ---- a thread in a call

  join_busy : (v : Option ℕ) (id : ℕ) (next : NextStatement) → is_some v ≡ true → is_join next ≡ true → DoesSome (joins_at v id next)
  unfolding ends_join
  join_busy (Some v) id (StatementIn frame (statement.Join operand d)) some at = refl
  join_busy (Some v) id _ some at = absurd (false≢true at)
  join_busy None id next some at = absurd (false≢true some)

  reap_busy : (frame : Frame) (result d : Dest) (operand : Operand) (pid : ℕ) (found : Option Child)
      → not (option_map_or (λ (child : Child). is_none child.ended) found false) ≡ true → DoesSome (waits_at found pid (StatementIn frame (statement.WaitPid result operand d)))
  unfolding finds_no_child reaps
  reap_busy frame result d operand pid None ended = refl
  reap_busy frame result d operand pid (Some child) ended = by_end child.ended ended
    where
      by_end : (end : Option ℕ) → not (is_none end) ≡ true → DoesSome (reaps_if end pid (suc frame.pc) result d)
      by_end (Some n) ended = refl
      by_end None ended = absurd (false≢true ended)

  sem_wait_busy : (choice : Alt) (sem count : ℕ) (next : NextStatement) → IsSuspendedAt next (status.InSem sem) → DoesSome (ends_sem_wait choice sem count next)
  unfolding ends_sem_wait
  sem_wait_busy alt.Expire sem count (StatementIn frame (statement.SemTimedWait result s)) at = refl
  sem_wait_busy choice sem count (StatementIn frame (statement.SemTimedWait result s)) at = refl
  sem_wait_busy choice sem count (StatementIn frame (statement.SemWait s)) at = refl
  sem_wait_busy choice sem count _ at = absurd (false≢true at)

  wait_busy : (id c m : ℕ) (why : Cause) (next : NextStatement) → IsSuspendedAt next (status.Reacquire c m why) → DoesSome (reacquires id c m why next)
  unfolding reacquires
  wait_busy id c m cause.Canceled next at = refl
  wait_busy id c m cause.TimedOut (StatementIn frame (statement.CondTimedWait result cond mutex)) at = refl
  wait_busy id c m cause.TimedOut (StatementIn frame (statement.CondWait cond mutex)) at = absurd (false≢true (and_parts (nat_eq cond c && nat_eq mutex m) false at).1)
  wait_busy id c m cause.TimedOut _ at = absurd (false≢true at)
  wait_busy id c m why (StatementIn frame (statement.CondWait cond mutex)) at = refl
  wait_busy id c m why (StatementIn frame (statement.CondTimedWait result cond mutex)) at = refl
  wait_busy id c m why _ at = absurd (false≢true at)

  fork_by : (new : Option ℕ) (length : ℕ) → DoesSome (forks_by length new)
  unfolding forks_by
  fork_by (Some pid) length = refl
  fork_by None length = refl

  -- where no handler of the phase is left
  after_handlers_busy : (phase : Phase) (fork : ForkAt) (new : Option ℕ) (next : NextStatement) → IsSuspendedAt next (status.Forking fork) → DoesSome (goes_on_after_handlers phase fork new next)
  unfolding returns_in_parent returns_in_child
  after_handlers_busy Prepare fork new next at = fork_by new fork.length
  after_handlers_busy Parent fork new (StatementIn frame (statement.Fork result child)) at = either_does (nat_eq fork.answer 0) _ _ refl refl
  after_handlers_busy Parent fork new _ at = absurd (false≢true at)
  after_handlers_busy ChildPhase fork new (StatementIn frame (statement.Fork result child)) at = refl
  after_handlers_busy ChildPhase fork new _ at = absurd (false≢true at)

  fork_busy : (found : Option HandlerCall) (fork : ForkAt) (new : Option ℕ) (next : NextStatement) → IsSuspendedAt next (status.Forking fork) → DoesSome (goes_on_forking found fork new next)
  unfolding calls_handler
  fork_busy (Some call) fork new next at = refl
  fork_busy None fork new next at = after_handlers_busy fork.phase fork new next at

  -- a thread that acted upon a request in its wait acts upon no other one
  acts_once : (free delivered : Bool) (n : ℕ) → offers (go_if free ++ cond delivered [] []) (alt.Act n) ≡ false
  acts_once true true n = refl
  acts_once true false n = refl
  acts_once false true n = refl
  acts_once false false n = refl

  -- ---- any thread

  -- what the thread does by a choice
  abbrev does : Alt → NextStatement → Status → Transition
  does choice next s = acts_or choice s (transition_at passes body shared t environment choice next s)

  act_busy : (n : ℕ) (next : NextStatement) (s : Status) → offers (choices_at body shared t environment next s) (alt.Act n) ≡ true → has_no_frame s ≡ false → DoesSome (acts_on_request n s)
  unfolding acts_on_request choices_at leaves_wait hands_on
  act_busy n next status.Running offered inside = refl
  act_busy n next (status.AtPoint index) offered inside = refl
  act_busy n next (status.Joining id) offered inside = refl
  act_busy n next (status.InSem sem) offered inside = refl
  act_busy n next (status.InWaitPid pid) offered inside = refl
  act_busy n next (status.Waiting c m) offered inside = refl
  act_busy n next (status.Reacquire c m cause.Signalled) offered inside = either_does (nat_eq n 0) _ _ refl refl
  act_busy n next (status.Reacquire c m cause.Broadcast) offered inside = refl
  act_busy n next (status.Reacquire c m cause.TimedOut) offered inside = refl
  act_busy n next (status.Reacquire c m cause.Canceled) offered inside = absurd (true≢false (sym offered ∙ acts_once (is_free_mutex m shared) (is_deliverable t.state t.pending) n))
  act_busy n next (status.Forking at) offered inside = absurd (false≢true offered)
  act_busy n next _ offered inside = absurd (true≢false inside)

  go_busy : (choice : Alt) (next : NextStatement) (s : Status) → offers (choices_at body shared t environment next s) choice ≡ true → is_acting choice ≡ false → IsBusy t.handlers t.kept s next → has_no_frame s ≡ false
      → DoesSome (transition_at passes body shared t environment choice next s)
  unfolding transition_at passes_point expires choices_at
  go_busy choice (StatementIn frame s) status.Running offered other at inside = stop_busy (stop_at body shared t environment frame s) _ (λ none. runs_busy choice frame s none offered other at)
  go_busy choice NoStatement status.Running offered other at inside = absurd (false≢true offered)
  go_busy choice (StatementIn frame (statement.PointCall i)) (status.AtPoint index) offered other at inside = refl
  go_busy choice _ (status.AtPoint index) offered other at inside = absurd (false≢true at)
  go_busy choice next (status.Joining id) offered other at inside = join_busy (exit_value_with id environment) id next (may_go_on_untimed (offered_of body shared t environment choice next (status.Joining id) offered) other refl) at
  go_busy choice next (status.InSem sem) offered other at inside = sem_wait_busy choice sem _ next at
  go_busy choice (StatementIn frame (statement.WaitPid result operand d)) (status.InWaitPid pid) offered other at inside =
      reap_busy frame result d operand pid (environment.family.child pid) (may_go_on_untimed (offered_of body shared t environment choice (StatementIn frame (statement.WaitPid result operand d)) (status.InWaitPid pid) offered) other refl)
  go_busy choice _ (status.InWaitPid pid) offered other at inside = absurd (false≢true at)
  go_busy choice next (status.Waiting c m) offered other at inside = refl
  go_busy choice next (status.Reacquire c m why) offered other at inside = wait_busy t.id c m why next at
  go_busy choice next (status.Forking fork) offered other at inside = fork_busy _ fork environment.family.new_pid next at
  go_busy choice next _ offered other at inside = absurd (true≢false inside)

  pub always_busy : (choice : Alt) (next : NextStatement) (s : Status) → offers (choices_at body shared t environment next s) choice ≡ true → IsBusy t.handlers t.kept s next → has_no_frame s ≡ false
      → DoesSome (does choice next s)
  always_busy (alt.Act n) next s offered at inside = act_busy n next s offered inside
  always_busy choice next s offered at inside = go_busy choice next s offered refl at inside
