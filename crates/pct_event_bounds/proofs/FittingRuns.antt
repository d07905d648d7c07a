-- The numbers in the events of every run have 32 bits: the budget limits how many processes, threads and keys are made.
use Rattle.pct_names.proofs.Names.{◌&&◌, ◌*◌, ◌+◌, ◌≤◌, [], All, All-append, All-cons, All-filter, All-from_recursion, All-head, All-map, All-nil, All-tail, All-weaker, Alt, and_parts, ap, arith}
use Rattle.pct_names.proofs.Names.{body_at, Bool, by_slot, cond, Config, count_by, count_by-le-length, due_keys, Entry, Environment, environment_of, event_of, false, false≢true, family_among, filter}
use Rattle.pct_names.proofs.Names.{find, flat_map, ForkAt, get_or, get_or_from_slice_get, HandlerCall, holds_slot, inl, inr, is_on, IsPermutation-reverse, KeyPlace, left_keys, length, length-filter}
use Rattle.pct_names.proofs.Names.{length-range_with_len, List, list_any, made_process, map, MAX_BUDGET, MAX_PASSES, MAX_SLOTS, MIN_PASSES, mul-le-mul, nat_eq, nat_le, new_keys, next_of, NextStatement, None}
use Rattle.pct_names.proofs.Names.{Option, option_and_then, option_map, or_cases, Parent, Phase, position_or_len, Prepare, Process, range_with_len, refl, relative_of, Relative, reverse, Run, run, Script, SharedState, slice_get_within}
use Rattle.pct_names.proofs.Names.{Some, StatementIn, Status, Stmt, subst, suc, sym, Thread, thread_with, Transition, transition_by, true, waiter_by, Waiter, waiters_among, ℕ, ◌∙◌, ◌∷◌, ◌≡◌}
use Rattle.std.proofs.Common.{eqb-true, length-append}
use Rattle.std.proofs.Math.Nat.{suc-mul}
use Rattle.std.proofs.lemmas.Bool.{leb-true}
use Rattle.std.proofs.lemmas.Map.Views.{All-map-IsPermutation}
use Rattle.pct_model.specs.CancelCalls.{acts_on_request}
use Rattle.pct_model.specs.Keys.{due_places, is_due}
use Rattle.pct_model.specs.NextStatement.{NoStatement}
use Rattle.pct_model.specs.Transitions.{goes_on}
use Rattle.pct_model.specs.declared.numbers.TheConstants.{EAGAIN}
use Rattle.pct_model.specs.ForkCalls.{calls_handler, forks_by, goes_on_after_handlers, goes_on_forking, returns_in_child, returns_in_parent}
use Rattle.pct_model.specs.TransitionTable.{acts_or, transition_at}
use Rattle.pct_model.specs.declared.process.Child.{Child}
use Rattle.pct_model.specs.declared.schedule.Alt.TheVariants as alt
use Rattle.pct_model.specs.declared.state.Phase.TheVariants.{Child as ChildPhase}
use Rattle.pct_model.specs.declared.state.Status.TheVariants as status
use Rattle.pct_model.specs.declared.statement.Dest.{Dest}
use Rattle.pct_model.specs.declared.statement.Stmt.TheVariants as statement
use Rattle.pct_model.specs.OtherProcesses.{is_unreaped}
use Rattle.pct_model.specs.World.{ProcessEnd}
use Rattle.pct_transition_cases.proofs.PlacedStatements.{is_placed}
use Rattle.pct_engine_laws.proofs.KeyNumbers.{new_keys_within, left_keys_within}
use Rattle.pct_engine_laws.proofs.ListFacts.{All-flat_map, any-map}
use Rattle.pct_engine_laws.proofs.LongerRuns.{run_parts}
use Rattle.pct_engine_laws.proofs.ProcessNumbers.{new_pid_is_next}
use Rattle.pct_engine_laws.proofs.RunNumbers.{HasFewIn, run_limited, run_within}
use Rattle.pct_thread_invariants.proofs.ThreadsOfRun.{threads_fit}
use Rattle.pct_thread_invariants.proofs.lift.EveryProcess.{moves_of_run, process_taken}
use Rattle.pct_thread_invariants.proofs.lift.EveryThread.{of_made_thread}
use Rattle.pct_thread_invariants.proofs.lift.KeyedLists.{found_at, found_passes, mapped_some}
use Rattle.pct_thread_invariants.proofs.lift.MadeThreads.{HasValidId}
use Rattle.pct_thread_invariants.proofs.lift.MovedThreads.{case_of_step}
use Rattle.pct_thread_invariants.proofs.lift.TakenSteps.{every_run, IsTaken, with_step}
use Rattle.pct_thread_invariants.proofs.lift.ThreadIds.{is_next_id}
use Rattle.pct_thread_invariants.proofs.lift.ThreadsAfter.{Moves, mover}
use Rattle.pct_thread_invariants.proofs.thread.ThreadRule.{FitsAny, summary}
use Rattle.pct_event_bounds.specs.EventNumbers.{EventNumbersFit, Fits, NumbersFit}
use Rattle.pct_event_bounds.proofs.FittingStates.{first_fits, ProcessFits, world_fits}
use Rattle.pct_event_bounds.proofs.FittingSteps.{case_fits, EnvironmentFits}
use Rattle.pct_event_bounds.proofs.FittingTransitions.{zero_fits, StatusFits, ThreadFits, TransitionFits, WritesFit}

-- ---- lists

found_in : {A : Type 0} (P : A → Type 0) (test : A → Bool) (xs : List A) (y : A) → All P xs → find test xs ≡ Some y → P y
found_in P test xs y all is =
    let at = found_at test xs y is in
    subst P (get_or_from_slice_get xs (position_or_len test xs) y y at) (all (position_or_len test xs) y (slice_get_within xs (position_or_len test xs) y at))

all_among : (P : ℕ → Type 0) (n : ℕ) (numbers : List ℕ) → All P numbers → list_any (nat_eq n) numbers ≡ true → P n
all_among P n [] all among = absurd (false≢true among)
all_among P n (k ∷ numbers) all among = elim (or_cases (nat_eq n k) (list_any (nat_eq n) numbers) among) [
  | inl here ↦ subst P (sym (eqb-true n k here)) (All-head P k numbers all)
  | inr later ↦ all_among P n numbers (All-tail P k numbers all) later
]

-- joined lists of at most k items each
joined_length : {A B : Type 0} (f : A → List B) (k : ℕ) → ((x : A) → length (f x) ≤ k) → (xs : List A) → length (flat_map f xs) ≤ length xs * k
joined_length f k few [] = omega arith
joined_length f k few (x ∷ xs) =
    let rest = joined_length f k few xs in
    let one = few x in
    omega (arith, rest, one, length-append (f x) (flat_map f xs), suc-mul (length xs) k)

-- the keys that are due
few_due : (keys : List KeyPlace) (t : Thread) → Fits (due_keys keys t)
unfolding due_places
few_due keys t =
    let counted = count_by-le-length (is_due keys t.specific) (range_with_len 0 128) in
    let most = length-range_with_len 0 128 in
    omega (arith, length-filter (is_due keys t.specific) (range_with_len 0 128), counted, most)

-- ---- waiters

waiter_if : (id m : ℕ) (waits : Bool) → Fits id → All (λ (w : Waiter). Fits w.id) (cond waits (record { id = id; mutex = m } ∷ []) [])
waiter_if id m true fit = All-cons (λ (w : Waiter). Fits w.id) _ [] fit (All-nil (λ (w : Waiter). Fits w.id))
waiter_if id m false fit = All-nil (λ (w : Waiter). Fits w.id)

waiter_fits : (c id : ℕ) (s : Status) → Fits id → All (λ (w : Waiter). Fits w.id) (waiter_by c id s)
waiter_fits c id (status.Waiting k m) fit = waiter_if id m (nat_eq k c) fit
waiter_fits c id _ fit = All-nil (λ (w : Waiter). Fits w.id)

one_waiter : (c id : ℕ) (s : Status) → length (waiter_by c id s) ≤ 1
one_waiter c id (status.Waiting k m) = by_test (nat_eq k c)
  where
    by_test : (waits : Bool) → length {A = Waiter} (cond waits (record { id = id; mutex = m } ∷ []) []) ≤ 1
    by_test true = omega arith
    by_test false = omega arith
one_waiter c id _ = omega arith

module _ (slots c : ℕ) (threads : List Thread) where
  waiters_fit : All (λ (t : Thread). Fits t.id) threads → All (λ (w : Waiter). Fits w.id) (waiters_among c (by_slot slots threads))
  waiters_fit all =
      let holds_on : ℕ → Thread → Bool = λ s t. is_on slots s t && holds_slot t in
      All-flat_map (λ (w : Waiter). Fits w.id) (λ (t : Thread). waiter_by c t.id t.status) (by_slot slots threads)
      (All-weaker (λ (t : Thread). Fits t.id) (λ t. All (λ (w : Waiter). Fits w.id) (waiter_by c t.id t.status)) (λ t fit. waiter_fits c t.id t.status fit) (by_slot slots threads)
      (All-flat_map (λ (t : Thread). Fits t.id) (λ s. filter (holds_on s) threads) (range_with_len 0 slots) (λ i d low. All-filter (holds_on (get_or (range_with_len 0 slots) i d)) (λ (t : Thread). Fits t.id) threads all)))

  few_waiters : slots ≤ 64 → length threads ≤ 200001 → Fits (length (waiters_among c (by_slot slots threads)))
  few_waiters few made =
      let holds_on : ℕ → Thread → Bool = λ s t. is_on slots s t && holds_slot t in
      let held = joined_length (λ s. filter (holds_on s) threads) (length threads) (λ s. subst (λ (n : ℕ). n ≤ length threads) (sym (length-filter (holds_on s) threads)) (count_by-le-length (holds_on s) threads)) (range_with_len 0 slots) in
      let all = joined_length (λ (t : Thread). waiter_by c t.id t.status) 1 (λ t. one_waiter c t.id t.status) (by_slot slots threads) in
      let most : length (range_with_len 0 slots) * length threads ≤ 64 * 200001 = mul-le-mul (subst (λ (n : ℕ). n ≤ 64) (sym (length-range_with_len 0 slots)) few) made in
      omega (arith, held, all, most)

-- ---- a return from fork

module _ (at : ForkAt) (fit : Fits at.answer) where
  after_handlers : (phase : Phase) (new : Option ℕ) (next : NextStatement) → WritesFit (goes_on_after_handlers phase at new next).writes
  unfolding forks_by returns_in_parent returns_in_child
  after_handlers Prepare (Some pid) next = tt
  after_handlers Prepare None next = tt
  after_handlers Parent new (StatementIn frame (statement.Fork result child)) = by_answer frame.pc result child (nat_eq at.answer 0)
    where
      by_answer : (pc : ℕ) (result child : Dest) (failed : Bool) → WritesFit (cond failed (record (goes_on (suc pc) []) { writes = (result, EAGAIN) ∷ [] }) (record (goes_on (suc pc) []) { writes = (result, 0) ∷ (child, at.answer) ∷ [] })).writes
      by_answer pc result child true = (omega arith, tt)
      by_answer pc result child false = (zero_fits, (fit, tt))
  after_handlers ChildPhase new (StatementIn frame (statement.Fork result child)) = (zero_fits, (zero_fits, tt))
  after_handlers Parent new NoStatement = tt
  after_handlers Parent new (StatementIn frame _) = tt
  after_handlers ChildPhase new NoStatement = tt
  after_handlers ChildPhase new (StatementIn frame _) = tt

  forking : (found : Option HandlerCall) (new : Option ℕ) (next : NextStatement) → WritesFit (goes_on_forking found at new next).writes
  unfolding calls_handler
  forking (Some call) new next = tt
  forking None new next = after_handlers at.phase new next

  module _ (passes : ℕ) (body : List Stmt) (shared : SharedState) (t : Thread) (environment : Environment) where
    in_fork : (choice : Alt) (next : NextStatement) → WritesFit (acts_or choice (status.Forking at) (transition_at passes body shared t environment choice next (status.Forking at))).writes
    unfolding transition_at acts_on_request
    in_fork (alt.Act n) next = tt
    in_fork _ NoStatement = forking _ environment.family.new_pid NoStatement
    in_fork _ (StatementIn frame s) = forking _ environment.family.new_pid (StatementIn frame s)

-- ---- runs

passes_fit : (script : Script) (config : Config) (entries : List Entry) (r : Run) → run script config entries ≡ Some r → Fits config.passes
passes_fit script config entries r is =
    let b1 : Bool = nat_le 1 config.budget in
    let b2 : Bool = nat_le config.budget MAX_BUDGET in
    let b3 : Bool = nat_le MIN_PASSES config.passes in
    let b4 : Bool = nat_le config.passes MAX_PASSES in
    let b5 : Bool = nat_le 1 config.slots in
    let b6 : Bool = nat_le config.slots MAX_SLOTS in
    let p6 = and_parts (b1 && b2 && b3 && b4 && b5) b6 (run_parts script config entries r is).limits in
    let p5 = and_parts (b1 && b2 && b3 && b4) b5 p6.0 in
    let p4 = and_parts (b1 && b2 && b3) b4 p5.0 in
    let few = leb-true config.passes MAX_PASSES p4.1 in
    omega (arith, few)

module _ (script : Script) (config : Config) where
  module _ (before : List Entry) (r : Run) (is : run script config before ≡ Some r) (e : Entry) (p : Process) (t : Thread) (taken : IsTaken script config r.world e p t) (all : All ProcessFits r.world.processes) where
    abbrev o : Transition
    o = transition_by script config r.world p t e.alt

    abbrev environment : Environment
    environment = environment_of config r.world p t.id

    -- a process and a thread for each entry, beside the first
    abbrev n : ℕ
    n = 1 + length before

    few_entries : length before ≤ 200000
    few_entries = (run_limited script config before r is).budget

    few_slots : config.slots ≤ 64
    few_slots = (run_limited script config before r is).slots

    moves : Moves script config r.world p e t
    moves = moves_of_run script config before r is e p t taken

    made : made_process e.pid r.world ≡ Some p
    made = process_taken script config before r is e p t taken

    it : HasValidId p e.tid t
    it = mover script config r.world p e t moves

    has : HasFewIn n p
    has = found_in (HasFewIn n) (λ q. nat_eq q.pid e.pid) r.world.processes p (run_within script config before r is).state.each made

    process : ProcessFits p
    process = found_in ProcessFits (λ q. nat_eq q.pid e.pid) r.world.processes p all made

    id_fits : (id : ℕ) → id ≤ 64 + 64 * n → Fits id
    id_fits id low = omega (arith, low, few_entries)

    key_fits : (k : ℕ) → k ≤ 128 + 128 * n → Fits k
    key_fits k low = omega (arith, low, few_entries)

    ids : All (λ (u : Thread). Fits u.id) p.threads
    ids = λ k d low. id_fits _ (has.ids k d low)

    thread : ThreadFits t
    thread = found_in ThreadFits (λ u. nat_eq u.id e.tid) p.threads t process.threads it.found

    own_id : Fits t.id
    own_id = found_in (λ (u : Thread). Fits u.id) (λ u. nat_eq u.id e.tid) p.threads t ids it.found

    own_pass : Fits t.pass
    own_pass =
        let fits = of_made_thread summary (FitsAny script config.passes) r (threads_fit script config before r is) e.pid e.tid t (ap (option_and_then (thread_with e.tid)) made ∙ it.found) it.here in
        let limit = passes_fit script config before r is in
        omega (arith, fits.in_passes.within, limit)

    -- the status of a child
    ended_relative : (found : Option ProcessEnd) (m : ℕ) → ((end : ProcessEnd) → found ≡ Some end → Fits end.status) → option_map (λ (end : ProcessEnd). end.status) found ≡ Some m → Fits m
    ended_relative found m fit is = let end = mapped_some (λ (end : ProcessEnd). end.status) found m is in subst Fits end.2 (fit end.0 end.1)

    relatives_fit : All (λ (x : Relative). (m : ℕ) → x.ended ≡ Some m → Fits m) (map relative_of (filter is_unreaped r.world.processes))
    relatives_fit =
        All-map (λ (x : Relative). (m : ℕ) → x.ended ≡ Some m → Fits m) relative_of (filter is_unreaped r.world.processes)
        (All-weaker ProcessFits (λ (q : Process). (m : ℕ) → (relative_of q).ended ≡ Some m → Fits m) (λ q fit m it_is. ended_relative q.ended m fit.ended it_is) (filter is_unreaped r.world.processes)
        (All-filter is_unreaped ProcessFits r.world.processes all))

    child_fits : (pid m : ℕ) (c : Child) → environment.family.child pid ≡ Some c → c.ended ≡ Some m → Fits m
    unfolding environment_of family_among
    child_fits pid m c is_child ended =
        let test : Relative → Bool = λ x. nat_eq x.pid pid && nat_eq x.parent p.pid in
        let from = mapped_some (λ (x : Relative). record { ended = x.ended }) (find test (map relative_of (filter is_unreaped r.world.processes))) c is_child in
        found_in (λ (x : Relative). (m : ℕ) → x.ended ≡ Some m → Fits m) test (map relative_of (filter is_unreaped r.world.processes)) from.0 relatives_fit from.1 m (ap (λ (x : Child). x.ended) from.2 ∙ ended)

    others : EnvironmentFits p.shared t environment
    unfolding environment_of family_among
    others = record {
      ended = λ id v target named status_is. subst StatusFits status_is (found_in ThreadFits _ p.threads target process.threads named).status;
      child = child_fits;
      new_id = λ id among.
          let next = is_next_id config.slots p.threads id among in
          let counted = count_by-le-length (is_on config.slots next.0) p.threads in
          let few : count_by (is_on config.slots next.0) p.threads ≤ 200001 = omega (arith, counted, has.few, few_entries) in
          let many : config.slots * count_by (is_on config.slots next.0) p.threads ≤ 64 * 200001 = mul-le-mul few_slots few in
          omega (arith, next.2, next.1, few_slots, many);
      new_pid = λ pid new_is.
          let next = new_pid_is_next (length r.world.processes) pid (map relative_of (filter is_unreaped r.world.processes)) new_is in
          let few = (run_within script config before r is).state.few in
          omega (arith, next, few, few_entries);
      new_key = λ k among. key_fits k (all_among (λ (k : ℕ). k ≤ 128 + 128 * n) k (new_keys p.shared.keys) (new_keys_within n p.shared.keys has.keys_few) among);
      left_key = λ k among. key_fits k (all_among (λ (k : ℕ). k ≤ 128 + 128 * n) k (left_keys p.shared.keys t.specific) (left_keys_within n p.shared.keys has.keys_few t.specific) among);
      waiter = λ c u among. all_among Fits u (map (λ (w : Waiter). w.id) (environment.waiters c)) (All-map Fits (λ (w : Waiter). w.id) (environment.waiters c) (waiters_fit config.slots c p.threads ids)) (any-map (nat_eq u) (λ (w : Waiter). w.id) (environment.waiters c) ∙ among);
      waiters = λ c. few_waiters config.slots c p.threads few_slots (omega (arith, has.few, few_entries));
      due = few_due p.shared.keys t;
    }

    step_fits : TransitionFits o
    step_fits =
        case_fits script config.passes p.shared t environment own_id own_pass thread process.globals process.exits (passes_fit script config before r is) others refl (is_placed script t.frames)
        (λ at status_is. subst (λ (st : Status). WritesFit (acts_or e.alt st (transition_at config.passes (body_at script t.frames) p.shared t environment e.alt (next_of script t.frames) st)).writes) (sym status_is)
        (in_fork at (subst StatusFits status_is thread.status) config.passes (body_at script t.frames) p.shared t environment e.alt (next_of script t.frames)))
        (case_of_step script config r.world p e t moves)

    -- the run after the step
    run_fits : All EventNumbersFit r.events → All ProcessFits (with_step e o r).world.processes × All EventNumbersFit (with_step e o r).events
    run_fits earlier =
        let pid : p.pid ≡ e.pid = eqb-true p.pid e.pid (found_passes (λ (q : Process). nat_eq q.pid e.pid) r.world.processes p made) in
        let numbers : All NumbersFit o.events = All-from_recursion NumbersFit o.events step_fits.events in
        let events : All (λ w. EventNumbersFit (event_of e w)) o.events =
        λ k d low. record { pid = omega (arith, pid, has.pid_few, few_entries); tid = subst Fits it.number own_id; what = numbers k d low } in (
          world_fits e.pid e.tid o step_fits r.world all,
          All-append EventNumbersFit (map (event_of e) (reverse o.events)) r.events
              (All-map-IsPermutation (event_of e) EventNumbersFit o.events (reverse o.events) (IsPermutation-reverse o.events) (All-map EventNumbersFit (event_of e) o.events events)) earlier,
        )

-- the numbers in the events of every run
pub runs_numbers_fit : (script : Script) (config : Config) (entries : List Entry) (r : Run) → run script config entries ≡ Some r → All EventNumbersFit r.events
runs_numbers_fit script config entries r is =
    (every_run script config (λ r. All ProcessFits r.world.processes × All EventNumbersFit r.events) (λ before r is e p t taken so_far. run_fits script config before r is e p t taken so_far.0 so_far.1)
    (λ some. (first_fits script, All-nil EventNumbersFit)) entries r is).1
