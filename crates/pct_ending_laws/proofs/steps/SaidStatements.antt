-- A running thread makes the events of its next statement, acts upon a request, or its statement is a stop.
use Rattle.pct_names.proofs.Names.{◌&&◌, [], acts_on_request, acts_or, adds, Alt, and_from, ap, begins_fork, begins_join, begins_sem_wait}
use Rattle.pct_names.proofs.Names.{begins_wait, begins_waitpid, body_at, Bool, broadcasts, called_kind, calls, calls_once, calls_point}
use Rattle.pct_names.proofs.Names.{choices_at, cond, Config, creates, creates_by, creates_key, creates_key_by, deletes_key, Dest, detaches}
use Rattle.pct_names.proofs.Names.{emits, ends_block, ends_by_exit, ends_now, Entry, Environment, environment_of, exits, fails_to_create}
use Rattle.pct_names.proofs.Names.{fails_to_create_key, false, false≢true, finds_no_child, ForkAt, Frame, FrameKind, free_ids, Fresh}
use Rattle.pct_names.proofs.Names.{gets_self, gets_specific, goes_on, is_none, is_optional, is_required, jumps, leaves_handler}
use Rattle.pct_names.proofs.Names.{leaves_routine, length, List, list_any, locks, MAX_FORK_HANDLERS, may_register, nat_eq, nat_lt, new_keys}
use Rattle.pct_names.proofs.Names.{new_or_go, next_of, NextStatement, None, NoStatement, not, offers, once_at, OnceState, open_of, Operand}
use Rattle.pct_names.proofs.Names.{Option, Optional, or_right, pick_or_go, point_kind, PointKind, pops, posts, Process, pushes, refl}
use Rattle.pct_names.proofs.Names.{registers_fork, registers_if, requests, Required, returns_by, Run, run, runs, same_choice, Script, sets}
use Rattle.pct_names.proofs.Names.{sets_mode, sets_specific, sets_state, SharedState, signals_by, Some, StatementIn, Status, Stmt, stop_at}
use Rattle.pct_names.proofs.Names.{stops_or, subst, suc, sym, tests_cancel, Thread, Transition, transition_at, true, unlocks, value_of}
use Rattle.pct_names.proofs.Names.{Waiter, What, Why, World, ◌||◌, ℕ, ◌∙◌, ◌∷◌, ◌≡◌}
use Rattle.std.proofs.lemmas.Bool.{true≢false}
use Rattle.pct_model.specs.declared.event.Caller.TheVariants as caller
use Rattle.pct_model.specs.declared.event.What.TheVariants as what
use Rattle.pct_model.specs.declared.process.Child.{Child}
use Rattle.pct_model.specs.declared.schedule.Alt.TheVariants as alt
use Rattle.pct_model.specs.declared.state.FrameKind.TheVariants as kind
use Rattle.pct_model.specs.declared.state.Status.TheVariants as status
use Rattle.pct_model.specs.declared.statement.Stmt.TheVariants as statement
use Rattle.pct_model.specs.declared.transition.OwnAction.TheVariants as own_action
use Rattle.pct_model.specs.declared.transition.SharedAction.TheVariants as shared_action
use Rattle.pct_model.specs.LineParsing.{is_empty}
use Rattle.pct_laws.specs.CancelLaw.{is_running, acts_or_stops}
use Rattle.pct_laws.specs.StatementLaw.{agree, of_return, of_pop, asked, asked_at, says_statement}
use Rattle.pct_thread_invariants.proofs.lift.TakenSteps.{IsTaken}
use Rattle.pct_cancel_laws.proofs.requests.ActingCalls.{its_status}
use Rattle.pct_wake_laws.proofs.OwnChoices.{among, not_among, own_choices}
use Rattle.pct_wake_laws.proofs.WaitingThreads.{no_free_slot, no_free_place}
use Rattle.pct_ending_laws.proofs.steps.NamedWaits.{same, both_same}
use Rattle.pct_thread_invariants.proofs.lift.MovedThreads.{EveryStep, step_of, every_step}

-- ---- tests

agrees : (b : Bool) → agree b b ≡ true
agrees true = refl
agrees false = refl

-- what follows from a test
unless : (a b c : Bool) → (a ≡ true → (b || c) ≡ true) → (not a || b || c) ≡ true
unless true b c then = then refl
unless false b c then = refl

-- ---- choices that name a number

-- a new number is one of those that are offered, and `go` is offered only if none is
new_among : (n : ℕ) (numbers : List ℕ) → offers (new_or_go numbers) (alt.New n) ≡ true → list_any (nat_eq n) numbers ≡ true
new_among n [] offered = absurd (false≢true offered)
new_among n (m ∷ numbers) offered = sym (among (λ k. alt.New k) (alt.New n) (nat_eq n) (λ k. refl) (m ∷ numbers)) ∙ offered

none_new : (numbers : List ℕ) → offers (new_or_go numbers) alt.Go ≡ true → is_empty numbers ≡ true
none_new [] offered = refl
none_new (m ∷ numbers) offered = absurd (true≢false (sym offered ∙ not_among (λ k. alt.New k) alt.Go (λ k. refl) (m ∷ numbers)))

only_new : (choice : Alt) → same_choice choice alt.Go ≡ false → ((k : ℕ) → same_choice choice (alt.New k) ≡ false) → (numbers : List ℕ) → offers (new_or_go numbers) choice ≡ false
only_new choice not_go differs [] = ap (λ (b : Bool). b || false) not_go
only_new choice not_go differs (m ∷ numbers) = not_among (λ k. alt.New k) choice differs (m ∷ numbers)

-- a signal has no other choices than to pick a thread that waits, and `go`
only_picks : (choice : Alt) → same_choice choice alt.Go ≡ false → ((k : ℕ) → same_choice choice (alt.Pick k) ≡ false) → (waiters : List Waiter) → offers (pick_or_go waiters) choice ≡ false
only_picks choice not_go differs [] = ap (λ (b : Bool). b || false) not_go
only_picks choice not_go differs (waiter ∷ waiters) = not_among (λ (w : Waiter). alt.Pick w.id) choice (λ w. differs w.id) (waiter ∷ waiters)

-- ---- returns and pops

of_leaving : (kept : Option ForkAt) → is_empty (leaves_handler kept).events ≡ true
unfolding leaves_handler
of_leaving (Some at) = refl
of_leaving None = refl

return_said : (kept : Option ForkAt) (k : FrameKind) (v : ℕ) → of_return k v (returns_by kept k v).events ≡ true
unfolding returns_by exits ends_by_exit leaves_routine
return_said kept kind.Main v = same v
return_said kept kind.Start v = same v
return_said kept kind.Call v = refl
return_said kept kind.PopHandler v = refl
return_said kept kind.Handler v = refl
return_said kept kind.Destructor v = refl
return_said kept kind.ExitFn v = refl
return_said kept kind.ForkFn v = of_leaving kept
return_said kept (kind.OnceFn o) v = same o

end_said : (body : List Stmt) (kept : Option ForkAt) (frame : Frame) (opened : Option ℕ)
    → cond (is_none opened) (of_return frame.kind 0 (ends_block opened kept body frame).events) (is_empty (ends_block opened kept body frame).events) ≡ true
unfolding jumps
end_said body kept frame (Some opened) = refl
end_said body kept frame None = return_said kept frame.kind 0

pop_by : (next v f a : ℕ) (handlers : List (ℕ × ℕ)) (zero : Bool) → nat_eq v 0 ≡ zero
    → of_pop v ((f, a) ∷ handlers) (cond zero (record (goes_on next (what.Popped f a false ∷ [])) { own = Some own_action.PopHandler }) (record (goes_on next (what.Popped f a true ∷ [])) { own = Some (own_action.CallHandler f a) })).events ≡ true
pop_by next v f a handlers true is = and_from (nat_eq f f && nat_eq a a) (agree false (not (nat_eq v 0))) (both_same f a) (ap (λ (b : Bool). not (not b)) is)
pop_by next v f a handlers false is = and_from (nat_eq f f && nat_eq a a) (agree true (not (nat_eq v 0))) (both_same f a) (ap not is)

pop_said : (next v : ℕ) (handlers : List (ℕ × ℕ)) → of_pop v handlers (pops next v handlers).events ≡ true
unfolding pops
pop_said next v [] = refl
pop_said next v ((f, a) ∷ handlers) = pop_by next v f a handlers (nat_eq v 0) refl

-- ---- a statement

module _ (slots passes : ℕ) (body : List Stmt) (shared : SharedState) (threads : List Thread) (t : Thread) (environment : Environment)
    (ids : environment.new_ids ≡ free_ids slots threads) where
  -- the events are those of the statement
  abbrev IsSaid : Frame → Stmt → List What → Type 0
  IsSaid frame s events = asked slots body shared threads t frame s events ≡ true

  abbrev value : Frame → Operand → ℕ
  value frame v = value_of shared.globals frame v

  -- pthread_create and pthread_key_create
  create_said : (choice : Alt) (frame : Frame) (result id : Dest) (f : ℕ) (v : Operand) (detached : Bool) → offers (new_or_go (free_ids slots threads)) choice ≡ true
      → IsSaid frame (statement.Create result id f v detached) (creates_by choice (suc frame.pc) result id f (value frame v) detached).events
  unfolding creates fails_to_create
  create_said (alt.New n) frame result id f v detached offered = and_from (list_any (nat_eq n) (free_ids slots threads)) (agree detached detached) (new_among n (free_ids slots threads) offered) (agrees detached)
  create_said alt.Go frame result id f v detached offered = no_free_slot slots threads (none_new (free_ids slots threads) offered)
  create_said (alt.Act n) frame result id f v detached offered = absurd (true≢false (sym offered ∙ only_new (alt.Act n) refl (λ k. refl) (free_ids slots threads)))
  create_said (alt.Pick n) frame result id f v detached offered = absurd (true≢false (sym offered ∙ only_new (alt.Pick n) refl (λ k. refl) (free_ids slots threads)))
  create_said (alt.Dtor n) frame result id f v detached offered = absurd (true≢false (sym offered ∙ only_new (alt.Dtor n) refl (λ k. refl) (free_ids slots threads)))
  create_said alt.Expire frame result id f v detached offered = absurd (true≢false (sym offered ∙ only_new alt.Expire refl (λ k. refl) (free_ids slots threads)))

  create_key_said : (choice : Alt) (frame : Frame) (result key : Dest) (destructor : Option ℕ) → offers (new_or_go (new_keys shared.keys)) choice ≡ true
      → IsSaid frame (statement.KeyCreate result key destructor) (creates_key_by choice (suc frame.pc) result key destructor).events
  unfolding creates_key fails_to_create_key
  create_key_said (alt.New n) frame result key destructor offered = new_among n (new_keys shared.keys) offered
  create_key_said alt.Go frame result key destructor offered = no_free_place shared.keys (none_new (new_keys shared.keys) offered)
  create_key_said (alt.Act n) frame result key destructor offered = absurd (true≢false (sym offered ∙ only_new (alt.Act n) refl (λ k. refl) (new_keys shared.keys)))
  create_key_said (alt.Pick n) frame result key destructor offered = absurd (true≢false (sym offered ∙ only_new (alt.Pick n) refl (λ k. refl) (new_keys shared.keys)))
  create_key_said (alt.Dtor n) frame result key destructor offered = absurd (true≢false (sym offered ∙ only_new (alt.Dtor n) refl (λ k. refl) (new_keys shared.keys)))
  create_key_said alt.Expire frame result key destructor offered = absurd (true≢false (sym offered ∙ only_new alt.Expire refl (λ k. refl) (new_keys shared.keys)))

  -- pthread_cond_signal
  signal_said : (choice : Alt) (frame : Frame) (c : ℕ) → offers (pick_or_go (environment.waiters c)) choice ≡ true → IsSaid frame (statement.Signal c) (signals_by choice (suc frame.pc) c).events
  unfolding signals_by
  signal_said (alt.Pick u) frame c offered = same c
  signal_said alt.Go frame c offered = same c
  signal_said (alt.Act n) frame c offered = absurd (true≢false (sym offered ∙ only_picks (alt.Act n) refl (λ k. refl) (environment.waiters c)))
  signal_said (alt.New n) frame c offered = absurd (true≢false (sym offered ∙ only_picks (alt.New n) refl (λ k. refl) (environment.waiters c)))
  signal_said (alt.Dtor n) frame c offered = absurd (true≢false (sym offered ∙ only_picks (alt.Dtor n) refl (λ k. refl) (environment.waiters c)))
  signal_said alt.Expire frame c offered = absurd (true≢false (sym offered ∙ only_picks alt.Expire refl (λ k. refl) (environment.waiters c)))

  -- pthread_once, by the state of the control
  once_said : (frame : Frame) (o f : ℕ) (state : OnceState)
      → IsSaid frame (statement.CallOnce o f) (calls_once (suc frame.pc) o f t.id state).events
  unfolding calls_once
  once_said frame o f Fresh = same o
  once_said frame o f _ = refl

  -- pthread_atfork and atexit, by whether there is room
  register_fork_said : (frame : Frame) (result : Dest) (prepare parent child : Option ℕ) (room : Bool) → nat_lt (length shared.fork_handlers) MAX_FORK_HANDLERS ≡ room
      → IsSaid frame (statement.AtFork result prepare parent child)
      (cond room (record (goes_on (suc frame.pc) []) { writes = (result, 0) ∷ []; shared = Some (shared_action.AddForkHandlers (record { prepare = prepare; parent = parent; child = child })) }) (record (goes_on (suc frame.pc) (what.Answer caller.AtFork 2 ∷ [])) { writes = (result, 2) ∷ [] })).events
  register_fork_said frame result prepare parent child true is = is
  register_fork_said frame result prepare parent child false is = ap not is

  register_said : (frame : Frame) (result : Dest) (f : ℕ) (may : Bool) → may_register shared ≡ may → IsSaid frame (statement.AtExit result f) (registers_if may (suc frame.pc) result f).events
  unfolding registers_if
  register_said frame result f true is = is
  register_said frame result f false is = ap not is

  -- waitpid, and generic points
  waitpid_said : (frame : Frame) (result d : Dest) (pid : Operand) (found : Option Child) → IsSaid frame (statement.WaitPid result pid d) (begins_waitpid found (value frame pid) (suc frame.pc) result).events
  unfolding finds_no_child
  waitpid_said frame result d pid (Some child) = refl
  waitpid_said frame result d pid None = refl

  point_said : (frame : Frame) (index : ℕ) (k : Option PointKind) → point_kind index ≡ k → IsSaid frame (statement.PointCall index) (calls_point (suc frame.pc) index k).events
  unfolding calls_point
  point_said frame index (Some Required) is = and_from (nat_eq index index) (is_required (point_kind index)) (same index) (ap is_required is)
  point_said frame index (Some Optional) is = and_from (nat_eq index index) (is_optional (point_kind index)) (same index) (ap is_optional is)
  point_said frame index None is = ap is_none is

  -- a statement that does not stop
  runs_said : (choice : Alt) (frame : Frame) (s : Stmt) → offers (choices_at body shared t environment (StatementIn frame s) status.Running) choice ≡ true → stop_at body shared t environment frame s ≡ None
      → IsSaid frame s (runs passes body shared t environment choice frame s).events
  unfolding runs emits sets adds jumps calls gets_self ends_by_exit pushes requests detaches begins_join sets_state sets_mode tests_cancel deletes_key sets_specific gets_specific locks unlocks begins_wait broadcasts begins_sem_wait posts registers_fork begins_fork exits ends_now called_kind
  runs_said choice frame (statement.Emit v) offered none = same (value frame v)
  runs_said choice frame statement.End offered none = end_said body t.kept frame (open_of body frame.pc)
  runs_said choice frame (statement.Return v) offered none = return_said t.kept frame.kind (value frame v)
  runs_said choice frame (statement.Create result id f v detached) offered none =
      create_said choice frame result id f v detached (subst (λ (numbers : List ℕ). offers (new_or_go numbers) choice ≡ true) ids (own_choices body shared t environment choice frame (statement.Create result id f v detached) refl refl none offered))
  runs_said choice frame (statement.Detach id) offered none = same (value frame id)
  runs_said choice frame (statement.CancelThread id) offered none = same (value frame id)
  runs_said choice frame (statement.ThreadExit v) offered none = same (value frame v)
  runs_said choice frame (statement.SetState enable old) offered none = agrees enable
  runs_said choice frame (statement.SetMode asynchronous old) offered none = agrees asynchronous
  runs_said choice frame (statement.Push f v) offered none = both_same f (value frame v)
  runs_said choice frame (statement.Pop v) offered none = pop_said (suc frame.pc) (value frame v) t.handlers
  runs_said choice frame (statement.KeyCreate result key destructor) offered none = create_key_said choice frame result key destructor (own_choices body shared t environment choice frame (statement.KeyCreate result key destructor) refl refl none offered)
  runs_said choice frame (statement.KeyDelete key) offered none = same (value frame key)
  runs_said choice frame (statement.Lock m) offered none = same m
  runs_said choice frame (statement.Unlock m) offered none = same m
  runs_said choice frame (statement.CondWait c m) offered none = same m
  runs_said choice frame (statement.CondTimedWait result c m) offered none = same m
  runs_said choice frame (statement.Signal c) offered none =
      signal_said choice frame c (own_choices body shared t environment choice frame (statement.Signal c) refl refl none offered)
  runs_said choice frame (statement.Broadcast c) offered none = same c
  runs_said choice frame (statement.SemPost sem) offered none = same sem
  runs_said choice frame (statement.CallOnce o f) offered none = once_said frame o f (once_at shared.onces o)
  runs_said choice frame (statement.AtFork result prepare parent child) offered none = register_fork_said frame result prepare parent child (nat_lt (length shared.fork_handlers) MAX_FORK_HANDLERS) refl
  runs_said choice frame (statement.WaitPid result pid d) offered none = waitpid_said frame result d pid (environment.family.child (value frame pid))
  runs_said choice frame (statement.AtExit result f) offered none = register_said frame result f (may_register shared) refl
  runs_said choice frame (statement.ProcExit v) offered none = same (value frame v)
  runs_said choice frame (statement.ProcExitNow v) offered none = same _
  runs_said choice frame (statement.PointCall index) offered none = point_said frame index (point_kind index) refl
  runs_said choice frame _ offered none = refl

  -- a statement that may stop
  stop_said : (frame : Frame) (s : Stmt) (stop : Option Why) (other : Transition) → (stop ≡ None → IsSaid frame s other.events) → (acts_or_stops (stops_or stop other).events || asked slots body shared threads t frame s (stops_or stop other).events) ≡ true
  stop_said frame s (Some why) other said = refl
  stop_said frame s None other said = or_right (acts_or_stops other.events) (asked slots body shared threads t frame s other.events) (said refl)

  -- a running thread
  at_statement : (choice : Alt) (next : NextStatement) → offers (choices_at body shared t environment next status.Running) choice ≡ true
      → (acts_or_stops (acts_or choice status.Running (transition_at passes body shared t environment choice next status.Running)).events || asked_at slots body shared threads t next (acts_or choice status.Running (transition_at passes body shared t environment choice next status.Running)).events) ≡ true
  unfolding transition_at acts_on_request choices_at
  at_statement choice NoStatement offered = absurd (false≢true offered)
  at_statement (alt.Act n) (StatementIn frame s) offered = refl
  at_statement choice (StatementIn frame s) offered = stop_said frame s (stop_at body shared t environment frame s) (runs passes body shared t environment choice frame s) (runs_said choice frame s offered)

-- ---- steps

-- what a thread sees of the others, as the law has it
seen_ids : (config : Config) (w : World) (p : Process) (id : ℕ) → (environment_of config w p id).new_ids ≡ free_ids config.slots p.threads
unfolding environment_of
seen_ids config w p id = refl

module _ (script : Script) (config : Config) where
  -- so it is of the step of an entry that moves a thread
  says_statement_of_step : (before : List Entry) (r : Run) → run script config before ≡ Some r → (e : Entry) (p : Process) (t : Thread) → IsTaken script config r.world e p t → says_statement config.slots script (step_of script config r p e t) ≡ true
  says_statement_of_step before r is e p t taken = unless (is_running t.status) _ _ (λ running.
      let body : List Stmt = body_at script t.frames in
      let environment : Environment = environment_of config r.world p t.id in
      let next : NextStatement = next_of script t.frames in
      subst (λ (s : Status). offers (choices_at body p.shared t environment next s) e.alt ≡ true
      → (acts_or_stops (acts_or e.alt s (transition_at config.passes body p.shared t environment e.alt next s)).events || asked_at config.slots body p.shared p.threads t next (acts_or e.alt s (transition_at config.passes body p.shared t environment e.alt next s)).events) ≡ true) (sym (its_status t.status running))
      (at_statement config.slots config.passes body p.shared p.threads t environment (seen_ids config r.world p t.id) e.alt next) taken.offered)

  -- each running thread of a run makes the events of its next statement
  pub says_statements_of_run : EveryStep script config (λ s. says_statement config.slots script s ≡ true)
  says_statements_of_run = every_step script config (λ s. says_statement config.slots script s ≡ true) says_statement_of_step
