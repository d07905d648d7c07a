-- The law of results: what each step of a run stores is what its statement stores, by the table.
use Rattle.pct_names.proofs.Names.{◌&&◌, ◌-◌, [], acts_on_request, acts_or, adds, Alt, ap, ap₂, arith, at_pc, body_at, Bool, calls_handler}
use Rattle.pct_names.proofs.Names.{Cause, choices_at, cond, Config, Dest, drop, drop_all, EAGAIN, encode, Entry, Environment}
use Rattle.pct_names.proofs.Names.{environment_of, false, false≢true, ForkAt, forks_by, Frame, frames_written, gets_self, gets_specific}
use Rattle.pct_names.proofs.Names.{goes_on, goes_on_after_handlers, goes_on_forking, handler_event, HandlerCall, has_no_frame, has_valid_id}
use Rattle.pct_names.proofs.Names.{is_forking, length, length-map, List, MAX_FORK_HANDLERS, may_register, moved, nat_eq, nat_lt, next_of}
use Rattle.pct_names.proofs.Names.{NextStatement, None, NoStatement, not, offers, Option, option_map, own_after, OwnAction, Parent, Phase}
use Rattle.pct_names.proofs.Names.{Prepare, Process, refl, registers_fork, registers_if, returns_in_child, returns_in_parent, Run, run}
use Rattle.pct_names.proofs.Names.{runs, Script, sets, SharedState, slice_index, Some, StatementIn, Status, Stmt, stop_at, stops_or, subst}
use Rattle.pct_names.proofs.Names.{suc, sym, syntax_of, Thread, thread_at, thread_moved, Transition, transition_at, transition_by, true}
use Rattle.pct_names.proofs.Names.{What, Why, without_first, written, ◌||◌, ℕ, ◌∙◌, ◌∷◌, ◌≡◌}
use Rattle.pct_names.proofs.Names.{Asynchronous, Deferred, Disable, Enable, Mode, mode_number, State, state_number}
use Rattle.std.proofs.lemmas.Bool.{cond_both, true≢false}
use Rattle.std.proofs.lemmas.List.{drop-map}
use Rattle.pct_model.specs.declared.event.Caller.TheVariants as caller
use Rattle.pct_model.specs.declared.event.What.TheVariants as what
use Rattle.pct_model.specs.declared.schedule.Alt.TheVariants as alt
use Rattle.pct_model.specs.declared.state.Cause.TheVariants as cause
use Rattle.pct_model.specs.declared.state.Phase.TheVariants.{Child as ChildPhase}
use Rattle.pct_model.specs.declared.state.Status.TheVariants as status
use Rattle.pct_model.specs.declared.statement.Dest.TheVariants as destination
use Rattle.pct_model.specs.declared.statement.Stmt.TheVariants as statement
use Rattle.pct_model.specs.declared.transition.OwnAction.TheVariants as own_action
use Rattle.pct_model.specs.LineParsing.{is_empty}
use Rattle.pct_laws.specs.CancelLaw.{acts_or_stops}
use Rattle.pct_laws.specs.ResultLaw.{all_locals, left_of, Store, stored_at, stored_by_fork, stored_by, stored, after_stores, local_on_top}
use Rattle.pct_laws.specs.ResultLaw.{number_of_mode, number_of_state, StoresResults}
use Rattle.pct_transition_cases.proofs.TransitionCases.{TransitionCase, Leads, Returns, past_if, by_return, by_end, rests, jumped}
use Rattle.pct_transition_cases.proofs.TransitionCases.{main_returned, start_returned, call_left, handler_left, exit_function_left}
use Rattle.pct_transition_cases.proofs.TransitionCases.{fork_handler_called, fork_handler_left, process_forked, process_not_forked}
use Rattle.pct_transition_cases.proofs.TransitionCases.{fork_failed, fork_returned, canceled_after_wait, signal_handed_on}
use Rattle.pct_transition_cases.proofs.TransitionCases.{ended_in_wait, mode_set, routine_left, state_set}
use Rattle.pct_transition_cases.proofs.PlacedStatements.{IsPlaced, is_placed}
use Rattle.pct_thread_invariants.proofs.ThreadsOfRun.{threads_kept}
use Rattle.pct_thread_invariants.proofs.lift.ChangedThreads.{either_keeps, named_keeps, changed_shared}
use Rattle.pct_thread_invariants.proofs.lift.EveryProcess.{moves_of_run, process_taken}
use Rattle.pct_thread_invariants.proofs.lift.MadeThreads.{HasValidId}
use Rattle.pct_thread_invariants.proofs.lift.TakenSteps.{IsTaken}
use Rattle.pct_thread_invariants.proofs.lift.ThreadsAfter.{Moves, mover}
use Rattle.pct_ending_laws.proofs.results.NamedVariables.{names_variables}
use Rattle.pct_ending_laws.proofs.results.Stores.{stays, frames_moved, below_with, InVariables, globals_after, HaveLocals, local_with}
use Rattle.pct_ending_laws.proofs.results.KeptVariables.{HaveVariables, start_has, variables_of_run}
use Rattle.pct_thread_invariants.proofs.lift.MovedThreads.{EveryStep, step_of, case_of_step, every_step}

-- ---- the locals of the functions that go on

-- the new frame of the action is to be the only one
abbrev is_alone : Option OwnAction → Bool
is_alone (Some (own_action.RunHandler f a)) = true
is_alone (Some (own_action.RunDestructor k f v)) = true
is_alone (Some (own_action.RunExitFunction f)) = true
is_alone _ = false

-- the oldest of some items, at most as many as there are others
abbrev left : {T : Type 0} → List T → List T → List T
left xs ys = drop (length xs - length ys) xs

locals_left : (xs ys : List Frame) → all_locals (left_of xs ys) ≡ left (all_locals xs) (all_locals ys)
locals_left xs ys =
    let locals : Frame → List ℕ = λ frame. frame.locals in
    sym (drop-map locals (length xs - length ys) xs)
    ∙ ap₂ (λ (m n : ℕ). drop (m - n) (all_locals xs)) (sym (length-map xs locals)) (sym (length-map ys locals))

-- the same are left of both
abbrev Leave : {T : Type 0} → List T → List T → Type 0
Leave xs ys = left xs ys ≡ left ys xs

module _ {T : Type 0} where
  emptied : (xs : List T) → Leave [] xs
  emptied xs = drop_all (0 - length xs) [] (omega arith) ∙ sym (drop_all (length xs - 0) xs (omega arith))

  deepened : (new : T) (xs : List T) → Leave (new ∷ xs) xs
  deepened new xs =
      let one : suc (length xs) - length xs ≡ 1 = omega arith in
      let none : length xs - suc (length xs) ≡ 0 = omega arith in
      ap (λ (n : ℕ). drop n (new ∷ xs)) one ∙ sym (ap (λ (n : ℕ). drop n xs) none)

  alone : (new : T) (xs : List T) → is_empty xs ≡ true → Leave (new ∷ []) xs
  alone new [] none = deepened new []
  alone new (x ∷ xs) none = absurd (false≢true none)

shortened : (frames : List Frame) → Leave (all_locals (without_first frames)) (all_locals frames)
shortened [] = refl
shortened (frame ∷ below) = sym (deepened frame.locals (all_locals below))

-- an action leaves the locals of the functions that go on
own_leaves : (a : Option OwnAction) (t : Thread) → (not (is_alone a) || is_empty (all_locals t.frames)) ≡ true
    → Leave (all_locals (own_after a t).frames) (all_locals t.frames)
unfolding own_after
own_leaves (Some (own_action.Call f a kind)) t none = deepened _ (all_locals t.frames)
own_leaves (Some (own_action.CallHandler f a)) t none = deepened _ (all_locals t.frames)
own_leaves (Some (own_action.CallForkHandler at f)) t none = deepened _ (all_locals t.frames)
own_leaves (Some (own_action.RunHandler f a)) t none = alone _ (all_locals t.frames) none
own_leaves (Some (own_action.RunDestructor k f v)) t none = alone _ (all_locals t.frames) none
own_leaves (Some (own_action.RunExitFunction f)) t none = alone _ (all_locals t.frames) none
own_leaves (Some (own_action.Leave status)) t none = shortened t.frames
own_leaves (Some (own_action.BeginEnd why)) t none = emptied (all_locals t.frames)
own_leaves (Some own_action.BeginExit) t none = emptied (all_locals t.frames)
own_leaves (Some own_action.EndLast) t none = emptied (all_locals t.frames)
own_leaves _ t none = refl

-- the numbers of states and types are those of the law
same_state : (s : State) → state_number s ≡ number_of_state s
same_state Enable = refl
same_state Disable = refl

same_mode : (m : Mode) → mode_number m ≡ number_of_mode m
same_mode Deferred = refl
same_mode Asynchronous = refl

-- a transition that neither writes nor has an event
abbrev is_nothing : Transition → Bool
is_nothing o = is_empty o.writes && is_empty o.events

module _ (passes : ℕ) (body : List Stmt) (shared : SharedState) (t : Thread) (environment : Environment) where
  -- a transition of the thread, with a status and its next statement, stores what the table has
  abbrev pub StoresIts : NextStatement → Status → Transition → Type 0
  StoresIts next s o = o.writes ≡ cond (acts_or_stops o.events) [] (stored_by shared t next s o.events)

  -- what the thread does by a choice
  abbrev does : Alt → NextStatement → Status → Transition
  does choice next s = acts_or choice s (transition_at passes body shared t environment choice next s)

  -- ---- a thread that does nothing, where the table has something without an event

  -- atexit is something, whether there is room or not
  runs_something : (room : Bool) (next : ℕ) (result : Dest) (f : ℕ) → is_nothing (registers_if room next result f) ≡ false
  unfolding registers_if
  runs_something true next result f = refl
  runs_something false next result f = refl

  runs_nothing : (choice : Alt) (frame : Frame) (s : Stmt) → is_nothing (runs passes body shared t environment choice frame s) ≡ true
      → stored_at shared t frame s [] ≡ []
  unfolding runs sets adds gets_self gets_specific registers_fork
  runs_nothing choice frame (statement.Set d v) is = absurd (false≢true is)
  runs_nothing choice frame (statement.Add d v) is = absurd (false≢true is)
  runs_nothing choice frame (statement.SelfId d) is = absurd (false≢true is)
  runs_nothing choice frame (statement.GetSpecific d key) is = absurd (false≢true is)
  runs_nothing choice frame (statement.AtFork result prepare parent child) is =
      let room : Bool = nat_lt (length shared.fork_handlers) MAX_FORK_HANDLERS in
      absurd (false≢true (sym (either_keeps is_nothing room _ _ (gets_self 0 result 0) refl refl) ∙ is))
  runs_nothing choice frame (statement.AtExit result f) is =
      absurd (false≢true (sym (runs_something (may_register shared) (suc frame.pc) result f) ∙ is))
  runs_nothing choice frame _ is = refl

  stops_nothing : (frame : Frame) (s : Stmt) (stop : Option Why) (goes : Transition)
      → (is_nothing goes ≡ true → stored_at shared t frame s [] ≡ []) → is_nothing (stops_or stop goes) ≡ true → stored_at shared t frame s [] ≡ []
  stops_nothing frame s (Some why) goes none is = absurd (false≢true is)
  stops_nothing frame s None goes none is = none is

  does_nothing : (choice : Alt) (next : NextStatement) (s : Status) → is_forking s ≡ false → is_nothing (does choice next s) ≡ true
      → stored_by shared t next s [] ≡ []
  unfolding transition_at acts_on_request
  does_nothing choice NoStatement s other is = refl
  does_nothing (alt.Act n) (StatementIn frame st) status.Running other is = absurd (false≢true is)
  does_nothing choice (StatementIn frame st) status.Running other is =
      stops_nothing frame st (stop_at body shared t environment frame st) _ (runs_nothing choice frame st) is
  does_nothing choice (StatementIn frame (statement.Join id d)) (status.Joining target) other is = refl
  does_nothing choice (StatementIn frame _) (status.Joining target) other is = refl
  does_nothing choice (StatementIn frame (statement.WaitPid result pid d)) (status.InWaitPid child) other is = refl
  does_nothing choice (StatementIn frame _) (status.InWaitPid child) other is = refl
  does_nothing choice (StatementIn frame (statement.SemTimedWait result sem)) (status.InSem n) other is = refl
  does_nothing choice (StatementIn frame _) (status.InSem n) other is = refl
  does_nothing choice (StatementIn frame (statement.CondTimedWait result c m)) (status.Reacquire cond mutex why) other is = refl
  does_nothing choice (StatementIn frame _) (status.Reacquire cond mutex why) other is = refl
  does_nothing choice (StatementIn frame st) (status.Forking at) other is = absurd (true≢false other)
  does_nothing choice (StatementIn frame st) _ other is = refl

  -- ---- a thread that is not in fork

  leads_nothing : {frame : Frame} {s : Stmt} {pc : ℕ} → Leads body shared.globals frame s pc → stored_at shared t frame s [] ≡ []
  leads_nothing (past_if v) = refl
  leads_nothing _ = refl

  returns_nothing : {frame : Frame} {s : Stmt} {v : ℕ} → Returns body shared.globals frame s v → (events : List What)
      → stored_at shared t frame s events ≡ []
  returns_nothing (by_return v) events = refl
  returns_nothing (by_end none) events = refl

  -- a thread that acts upon a request in its wait, after it was unblocked
  leaves_nothing : (frame : Frame) (s : Stmt) (c m : ℕ) (why : Cause) (later : List What) → stored_by shared t (StatementIn frame s) (status.Reacquire c m why) (what.WaitCanceled c ∷ later) ≡ []
  leaves_nothing frame (statement.CondTimedWait result cond mutex) c m why later = refl
  leaves_nothing frame _ c m why later = refl

  -- and one that begins to end after that
  ends_nothing : (frame : Frame) (s : Stmt) (c m : ℕ) → stored_by shared t (StatementIn frame s) (status.Reacquire c m cause.Canceled) (what.Acquired m ∷ what.EndingInWait c m ∷ []) ≡ []
  ends_nothing frame (statement.CondTimedWait result cond mutex) c m = refl
  ends_nothing frame _ c m = refl

  case_stores : (next : NextStatement) {s : Status} {o : Transition} → TransitionCase passes body shared t environment true next s o
      → is_forking s ≡ false → (is_nothing o ≡ true → stored_by shared t next s [] ≡ []) → StoresIts next s o
  case_stores NoStatement (rests next s alive) other nothing = refl
  case_stores NoStatement (fork_handler_called next at call is) other nothing = absurd (true≢false other)
  case_stores NoStatement _ other nothing = refl
  case_stores next (rests _ s alive) other nothing = sym (nothing refl)
  case_stores next (jumped frame s pc leads) other nothing = sym (leads_nothing leads)
  case_stores next (main_returned frame s v returns is once) other nothing = sym (returns_nothing returns _)
  case_stores next (start_returned frame s v returns is) other nothing = sym (returns_nothing returns _)
  case_stores next (call_left frame s v returns is) other nothing = sym (returns_nothing returns [])
  case_stores next (handler_left frame s v returns is) other nothing = sym (returns_nothing returns [])
  case_stores next (exit_function_left frame s v returns is) other nothing = sym (returns_nothing returns [])
  case_stores next (routine_left frame s v o returns is) other nothing = sym (returns_nothing returns _)
  case_stores next (fork_handler_left frame s v at returns is kept) other nothing = sym (returns_nothing returns [])
  case_stores next (fork_handler_called _ at call is) other nothing = absurd (true≢false other)
  case_stores next (process_forked _ at new prepares is) other nothing = absurd (true≢false other)
  case_stores next (process_not_forked _ at prepares) other nothing = absurd (true≢false other)
  case_stores next (fork_failed frame result child at returns) other nothing = absurd (true≢false other)
  case_stores next (fork_returned frame result child at value) other nothing = absurd (true≢false other)
  case_stores (StatementIn frame s) (canceled_after_wait _ c m why in_wait asked) other nothing = sym (leaves_nothing frame s c m why [])
  case_stores (StatementIn frame s) (signal_handed_on _ c m u asked among) other nothing = sym (leaves_nothing frame s c m cause.Signalled (what.HandedOn c u ∷ []))
  case_stores (StatementIn frame s) (ended_in_wait _ c m free) other nothing = sym (ends_nothing frame s c m)
  case_stores next (state_set frame enable old allowed) other nothing = ap (λ (n : ℕ). (old, n) ∷ []) (same_state t.state)
  case_stores next (mode_set frame asynchronous old) other nothing = ap (λ (n : ℕ). (old, n) ∷ []) (same_mode t.mode)
  case_stores (StatementIn frame s) _ other nothing = refl

  -- ---- a thread in fork

  -- the table has nothing for one event
  with_event : (at : ForkAt) (w : What) (next : NextStatement)
      → ◌≡◌ {A = List Store} [] (cond (acts_or_stops (w ∷ [])) [] (stored_by shared t next (status.Forking at) (w ∷ [])))
  with_event at w next =
      sym (cond_both (acts_or_stops (w ∷ [])) [] _ (λ (stores : List Store). stores ≡ []) (λ acts. refl) (λ acts. by_statement next))
    where
      by_statement : (next : NextStatement) → stored_by shared t next (status.Forking at) (w ∷ []) ≡ []
      by_statement NoStatement = refl
      by_statement (StatementIn frame (statement.Fork result child)) = refl
      by_statement (StatementIn frame _) = refl

  returned_in_parent : (frame : Frame) (result child : Dest) (at : ForkAt) → at.phase ≡ Parent
      → StoresIts (StatementIn frame (statement.Fork result child)) (status.Forking at) (returns_in_parent at.answer (suc frame.pc) result child)
  unfolding returns_in_parent
  returned_in_parent frame result child at returns = by_pid (nat_eq at.answer 0) refl
    where
      stores : (failed : Bool) → nat_eq at.answer 0 ≡ failed → cond failed ((result, EAGAIN) ∷ []) ((result, 0) ∷ (child, at.answer) ∷ []) ≡ stored_by_fork at.phase at.answer result child
      stores failed is =
          sym (ap (λ (phase : Phase). stored_by_fork phase at.answer result child) returns ∙ ap (λ (b : Bool). cond b ((result, EAGAIN) ∷ []) ((result, 0) ∷ (child, at.answer) ∷ [])) is)

      by_pid : (failed : Bool) → nat_eq at.answer 0 ≡ failed
          → StoresIts (StatementIn frame (statement.Fork result child)) (status.Forking at) (cond failed (record (goes_on (suc frame.pc) []) { writes = (result, EAGAIN) ∷ [] }) (record (goes_on (suc frame.pc) []) { writes = (result, 0) ∷ (child, at.answer) ∷ [] }))
      by_pid true is = stores true is
      by_pid false is = stores false is

  -- no handler of the phase is left
  after_handlers : (phase : Phase) (at : ForkAt) → at.phase ≡ phase → (new : Option ℕ) (next : NextStatement)
      → StoresIts next (status.Forking at) (goes_on_after_handlers phase at new next)
  unfolding forks_by returns_in_child
  after_handlers Prepare at is (Some pid) next = with_event at (what.Forked pid) next
  after_handlers Prepare at is None next = with_event at (what.Answer caller.Fork EAGAIN) next
  after_handlers Parent at is new (StatementIn frame (statement.Fork result child)) = returned_in_parent frame result child at is
  after_handlers ChildPhase at is new (StatementIn frame (statement.Fork result child)) = sym (ap (λ (phase : Phase). stored_by_fork phase at.answer result child) is)
  after_handlers Parent at is new NoStatement = refl
  after_handlers Parent at is new (StatementIn frame _) = refl
  after_handlers ChildPhase at is new NoStatement = refl
  after_handlers ChildPhase at is new (StatementIn frame _) = refl

  forking : (found : Option HandlerCall) (at : ForkAt) (new : Option ℕ) (next : NextStatement) → StoresIts next (status.Forking at) (goes_on_forking found at new next)
  unfolding calls_handler
  forking (Some call) at new next = with_event at (handler_event at.phase call.func) next
  forking None at new next = after_handlers at.phase at refl new next

  in_fork : (choice : Alt) (at : ForkAt) (next : NextStatement) → offers (choices_at body shared t environment next (status.Forking at)) choice ≡ true
      → StoresIts next (status.Forking at) (does choice next (status.Forking at))
  unfolding transition_at choices_at
  in_fork (alt.Act n) at next offered = absurd (false≢true offered)
  in_fork _ at NoStatement offered = forking _ at environment.family.new_pid NoStatement
  in_fork _ at (StatementIn frame s) offered = forking _ at environment.family.new_pid (StatementIn frame s)

  stores_its : (choice : Alt) (next : NextStatement) (s : Status) → offers (choices_at body shared t environment next s) choice ≡ true
      → TransitionCase passes body shared t environment true next s (does choice next s) → StoresIts next s (does choice next s)
  stores_its choice next (status.Forking at) offered case = in_fork choice at next offered
  stores_its choice next s offered case = case_stores next case refl (does_nothing choice next s refl)

  -- ---- what is stored, and where

  -- a transition stores numbers in variables of the script
  case_named : (script : Script) {frames : List Frame} {next : NextStatement} {s : Status} {o : Transition}
      → IsPlaced script frames body next → TransitionCase passes body shared t environment true next s o
      → InVariables script o.writes
  unfolding encode syntax_of
  case_named script placed (rests next s alive) = tt
  case_named script {next = NoStatement} placed _ = tt
  case_named script {next = StatementIn frame s} {o = o} placed _ = names_variables script (length o.writes) placed

  -- one that stores a number keeps the frames of the thread
  case_stays : {next : NextStatement} {s : Status} {o : Transition} → TransitionCase passes body shared t environment true next s o
      → (is_empty o.writes || stays o.own) ≡ true
  case_stays (rests next s alive) = refl
  case_stays _ = refl

  -- a frame that is to be the only one is made for a thread without a frame
  case_alone : {next : NextStatement} {s : Status} {o : Transition} → TransitionCase passes body shared t environment true next s o
      → (not (is_alone o.own) || has_no_frame s) ≡ true
  case_alone (rests next s alive) = refl
  case_alone _ = refl

-- ---- each step of a run

-- what does not see a pc is the same of a thread that goes on
started : {V : Type 0} (view : List Frame → V)
    → ((pc : ℕ) (frame : Frame) (below : List Frame) → view (record frame { pc = pc } ∷ below) ≡ view (frame ∷ below))
    → (next : Option ℕ) (t : Thread) → view (thread_at next t).frames ≡ view t.frames
unfolding thread_at
started view same None t = refl
started view same (Some pc) t = by_frames t.frames
  where
    by_frames : (frames : List Frame) → view (at_pc pc frames) ≡ view frames
    by_frames [] = refl
    by_frames (frame ∷ below) = same pc frame below

module _ (script : Script) (config : Config) where
  module _ (before : List Entry) (r : Run) (is : run script config before ≡ Some r) (e : Entry) (p : Process) (t : Thread) (taken : IsTaken script config r.world e p t) where
    abbrev o : Transition
    o = transition_by script config r.world p t e.alt

    abbrev its : List Store
    its = stored script (step_of script config r p e t)

    moves : Moves script config r.world p e t
    moves = moves_of_run script config before r is e p t taken

    case : TransitionCase config.passes (body_at script t.frames) p.shared t (environment_of config r.world p t.id) true (next_of script t.frames) t.status o
    case = case_of_step script config r.world p e t moves

    have : HaveVariables script p
    have = variables_of_run script config before r is e.pid p (process_taken script config before r is e p t taken)

    stores_are : o.writes ≡ its
    stores_are = stores_its config.passes (body_at script t.frames) p.shared t (environment_of config r.world p t.id) e.alt (next_of script t.frames) t.status taken.offered case

    in_variables : InVariables script o.writes
    in_variables = case_named config.passes (body_at script t.frames) p.shared t (environment_of config r.world p t.id) script (is_placed script t.frames) case

    -- the frames are those after its own actions
    frames_are : (thread_moved e.tid o t).frames ≡ (moved o t).frames
    frames_are =
        named_keeps (λ (u : Thread). u.frames) (λ t joined pending detached specific s same. refl) o.named (cond (has_valid_id e.tid t) (moved o t) t)
        ∙ ap (λ (b : Bool). (cond b (moved o t) t).frames) (mover script config r.world p e t moves).valid

    global_after : (i : ℕ)
        → slice_index (step_of script config r p e t).process_after.shared.globals i ≡ after_stores (destination.Global i) its (slice_index p.shared.globals i)
    global_after i =
        ap (λ (s : SharedState). slice_index s.globals i) (changed_shared e.tid o p)
        ∙ globals_after script e.tid o p.shared in_variables have.globals i
        ∙ ap (λ (stores : List Store). after_stores (destination.Global i) stores (slice_index p.shared.globals i)) stores_are

    -- a step that stores a number keeps the frames of its thread
    frames_stay : is_empty its ≡ false → (thread_moved e.tid o t).frames ≡ written frames_written o.writes (thread_at o.next t).frames
    frames_stay some =
        let kept : stays o.own ≡ true =
        sym (ap (λ (none : Bool). none || stays o.own) (ap (λ (stores : List Store). is_empty stores) stores_are ∙ some))
        ∙ case_stays config.passes (body_at script t.frames) p.shared t (environment_of config r.world p t.id) case in
        frames_are ∙ frames_moved o kept t

    local_after : is_empty its ≡ false → (i : ℕ)
        → local_on_top i (thread_moved e.tid o t).frames ≡ option_map (after_stores (destination.Local i) its) (local_on_top i t.frames)
    local_after some i =
        let locals : HaveLocals script t.frames = (have.threads e.tid t (mover script config r.world p e t moves).found).locals in
        ap (local_on_top i) (frames_stay some)
        ∙ local_with script o.writes (thread_at o.next t).frames in_variables (start_has script o.next t locals) i
        ∙ ap₂ (λ (stores : List Store) (v : Option ℕ). option_map (after_stores (destination.Local i) stores) v) stores_are
        (started (local_on_top i) (λ pc frame below. refl) o.next t)

    callers_after : is_empty its ≡ false → all_locals (without_first (thread_moved e.tid o t).frames) ≡ all_locals (without_first t.frames)
    callers_after some =
        ap (λ (frames : List Frame). all_locals frames)
        (ap (λ (frames : List Frame). without_first frames) (frames_stay some) ∙ below_with o.writes (thread_at o.next t).frames
        ∙ started (λ (frames : List Frame). without_first frames) (λ pc frame below. refl) o.next t)

    -- one that stores nothing leaves the locals of the functions that go on
    leaves : is_empty its ≡ true → Leave (all_locals (moved o t).frames) (all_locals t.frames)
    leaves none =
        let it : HasValidId p e.tid t = mover script config r.world p e t moves in
        let is_process = process_taken script config before r is e p t taken in
        let at : Thread = thread_at o.next t in
        let frames : List Frame = written frames_written o.writes at.frames in
        let same : all_locals frames ≡ all_locals t.frames =
        ap (λ (stores : List Store). all_locals (written frames_written stores at.frames)) (stores_are ∙ no_stores its none)
        ∙ started (λ (frames : List Frame). all_locals frames) (λ pc frame below. refl) o.next t in
        let has : is_empty (all_locals frames) ≡ has_no_frame t.status =
        ap (λ (locals : List (List ℕ)). is_empty locals) same ∙ no_locals t.frames
        ∙ (threads_kept script config before r is e.pid e.tid p t is_process it.found it.here).frames in
        subst (λ (locals : List (List ℕ)). Leave (all_locals (moved o t).frames) locals) same (own_leaves o.own (record at { frames = frames })
        (ap (λ (none : Bool). not (is_alone o.own) || none) has
        ∙ case_alone config.passes (body_at script t.frames) p.shared t (environment_of config r.world p t.id) case))
      where
        no_stores : (stores : List Store) → is_empty stores ≡ true → stores ≡ []
        no_stores [] is = refl
        no_stores (store ∷ later) is = absurd (false≢true is)

        no_locals : (frames : List Frame) → is_empty (all_locals frames) ≡ is_empty frames
        no_locals [] = refl
        no_locals (frame ∷ below) = refl

    kept_after : is_empty its ≡ true
        → all_locals (left_of (thread_moved e.tid o t).frames t.frames) ≡ all_locals (left_of t.frames (thread_moved e.tid o t).frames)
    kept_after none =
        subst (λ (frames : List Frame). all_locals (left_of frames t.frames) ≡ all_locals (left_of t.frames frames)) (sym frames_are)
        (locals_left (moved o t).frames t.frames ∙ leaves none ∙ sym (locals_left t.frames (moved o t).frames))

    results_of_step : StoresResults script (step_of script config r p e t)
    results_of_step = record { globals = global_after; locals = local_after; callers = callers_after; kept = kept_after }

  -- each step stores what its statement stores
  pub results_of_run : EveryStep script config (StoresResults script)
  results_of_run = every_step script config (StoresResults script) results_of_step
