-- The law of creation: steps that keep it, and steps that do not. Each thread or process that does not keep it differs from one that does in
-- one thing, and has the name of the sentence that it breaks.
use Rattle.pct_names.proofs.Names.{[], All-from_recursion, ap, arith, Asynchronous, Bool, codes, cond, Deferred, Disable, Enable, false}
use Rattle.pct_names.proofs.Names.{false≢true, first_process, Forked, Frame, Func, IsTrue, length, List, list_any, Main, map, new_frame}
use Rattle.pct_names.proofs.Names.{new_shared, new_thread, None, none-some, not, Option, Parent, Phase, Prepare, Process, refl, Running}
use Rattle.pct_names.proofs.Names.{same_Some, Script, SharedState, slice_index, Some, Start, Status, sym, Thread, true, ℕ, ◌∙◌, ◌∷◌, ◌≡◌}
use Rattle.pct_model.specs.declared.event.What.TheVariants as what
use Rattle.pct_model.specs.declared.state.FrameKind.TheVariants as kind
use Rattle.pct_model.specs.declared.state.Phase.TheVariants as phase
use Rattle.pct_model.specs.declared.state.Status.TheVariants as status
use Rattle.pct_model.specs.declared.statement.Dest.TheVariants as destination
use Rattle.pct_model.specs.declared.statement.Operand.TheVariants as operand
use Rattle.pct_model.specs.declared.statement.Stmt.TheVariants as statement
use Rattle.pct_laws.specs.CreationLaw.{CreatesProcesses, CreatesThreads, IsChild, IsCreated, IsReplica, status_in_child}
use Rattle.pct_laws.specs.ThreadSteps.{ThreadStep}
use Rattle.pct_rows.proofs.ExampleScripts.{are_static, forking, function}
use Rattle.pct_rows.proofs.OnLiterals.{checks_on_literals, runs_on_literals}

-- ---- a script whose `main` creates a thread, which executes `f` with the argument 9, and forks

abbrev funcs : List Func
funcs =
    function (codes "f") []
    ∷ function (codes "main") (statement.Create destination.Drop (destination.Local 0) 0 (operand.Num 9) true ∷ statement.Fork destination.Drop destination.Drop ∷ [])
    ∷ []

passes : IsTrue (are_static funcs)
unfolding checks_on_literals
passes = refl

abbrev script : Script
script = record { globals = []; mutexes = []; conds = []; sems = []; onces = []; funcs = funcs; passes_checks = passes }

-- ---- pthread_create

-- the number of some items
abbrev count : {A : Type 0} → List A → ℕ
count items = length items

-- thread 1, at a statement of `main`
abbrev first_at : ℕ → Thread
first_at pc = new_thread 1 false (record (new_frame 1 0 kind.Main) { pc = pc })

-- a process with these threads, the first of two mutexes of which thread 2 owns
abbrev with_threads : List Thread → Process
with_threads threads = record (first_process script) { threads = threads; shared = record (new_shared script) { owners = 2 ∷ 0 ∷ [] } }

-- a step in which thread 1 creates a thread, after which these threads are there
abbrev step_to : List Thread → ThreadStep
step_to threads = record {
  pid = 1;
  tid = 1;
  earlier = [];
  process = with_threads (first_at 0 ∷ []);
  before = first_at 0;
  process_after = with_threads threads;
  after = first_at 1;
  events = what.Created 2 true ∷ [];
}

-- the new thread
abbrev created : Thread
created = new_thread 2 true (new_frame 0 9 kind.Start)

-- the step creates it
abbrev creates : ThreadStep
creates = step_to (first_at 1 ∷ created ∷ [])

starts_in_its_routine : IsCreated script creates created
unfolding runs_on_literals
starts_in_its_routine = record {
  start = refl;
  runs = refl;
  enabled = refl;
  deferred = refl;
  no_handlers = refl;
  at_start = record { no_request = refl; not_ending = refl; no_pass = refl; not_ended = refl; not_joined = refl };
  is_there = refl;
}

creates_one_thread : CreatesThreads script creates
creates_one_thread = record { kept = refl; reported = refl; created = All-from_recursion (IsCreated script creates) (created ∷ []) (starts_in_its_routine, tt) }

-- a thread that differs is not one that the step creates
abbrev Refuses : Thread → Type 0
Refuses t = IsCreated script creates t → ⊥

it_starts_enabled : Refuses (record created { state = Disable })
it_starts_enabled law = let is : Disable ≡ Enable = law.enabled in absurd (cc)

it_starts_deferred : Refuses (record created { mode = Asynchronous })
it_starts_deferred law = let is : Asynchronous ≡ Deferred = law.deferred in absurd (cc)

it_has_no_handlers_of_its_creator : Refuses (record created { handlers = (1, 10) ∷ [] })
it_has_no_handlers_of_its_creator law = let n : ◌≡◌ {A = ℕ} 1 0 = ap count law.no_handlers in omega (arith, n)

it_has_no_request : Refuses (record created { pending = true })
it_has_no_request law = false≢true (sym law.at_start.no_request)

it_runs : Refuses (record created { status = status.Ending })
it_runs law = let is : status.Ending ≡ Running = law.runs in absurd (cc)

it_was_not_joined : Refuses (record created { joined = true })
it_was_not_joined law = false≢true (sym law.at_start.not_joined)

-- the function, the argument and the pc of the newest frame
abbrev newest : Option (List Frame) → ℕ × ℕ × ℕ
newest None = (0, 0, 0)
newest (Some []) = (0, 0, 0)
newest (Some (frame ∷ below)) = (frame.func, slice_index frame.locals 0, frame.pc)

it_gets_the_argument : Refuses (record created { frames = new_frame 0 0 kind.Start ∷ [] })
unfolding runs_on_literals
it_gets_the_argument law = let n : ◌≡◌ {A = ℕ} 9 0 = ap (λ f. (newest f).1) law.start in omega (arith, n)

it_starts_in_the_function_that_is_named : Refuses (record created { frames = new_frame 1 9 kind.Start ∷ [] })
unfolding runs_on_literals
it_starts_in_the_function_that_is_named law = let n : ◌≡◌ {A = ℕ} 0 1 = ap (λ f. (newest f).0) law.start in omega (arith, n)

at_its_first_statement : Refuses (record created { frames = record (new_frame 0 9 kind.Start) { pc = 1 } ∷ [] })
unfolding runs_on_literals
at_its_first_statement law = let n : ◌≡◌ {A = ℕ} 0 1 = ap (λ f. (newest f).2) law.start in omega (arith, n)

it_is_made : CreatesThreads script (step_to (first_at 1 ∷ [])) → ⊥
it_is_made law = let n : ◌≡◌ {A = ℕ} 0 1 = ap count law.reported in omega (arith, n)

no_other_one_is : CreatesThreads script (step_to (first_at 1 ∷ created ∷ new_thread 3 true (new_frame 0 9 kind.Start) ∷ [])) → ⊥
no_other_one_is law = let n : ◌≡◌ {A = ℕ} 2 1 = ap count law.reported in omega (arith, n)

nor_by_another_step : CreatesThreads script (record creates { events = [] }) → ⊥
nor_by_another_step law = let n : ◌≡◌ {A = ℕ} 1 0 = ap count law.reported in omega (arith, n)

it_is_detached_as_the_event_says : CreatesThreads script (step_to (first_at 1 ∷ record created { detached = false } ∷ [])) → ⊥
it_is_detached_as_the_event_says law = false≢true (ap (λ (threads : List (ℕ × Bool)). list_any (λ (t : ℕ × Bool). t.1) threads) law.reported)

each_thread_stays : CreatesThreads script (step_to (created ∷ [])) → ⊥
each_thread_stays law = let n : ◌≡◌ {A = ℕ} 2 1 = ap (λ (ids : List ℕ). slice_index ids 0) law.kept in omega (arith, n)

-- ---- fork

-- thread 1 in fork, with a handler and with a request that it does not act upon, and thread 2
abbrev forker : Thread
forker = record (first_at 1) { status = forking phase.Prepare 0 3 0; state = Disable; pending = true; handlers = (1, 10) ∷ [] }

-- a step in which thread 1 makes process 2
abbrev forks : ThreadStep
forks = record {
  pid = 1;
  tid = 1;
  earlier = [];
  process = with_threads (forker ∷ created ∷ []);
  before = forker;
  process_after = with_threads (record forker { status = forking phase.Parent 0 3 2 } ∷ created ∷ []);
  after = record forker { status = forking phase.Parent 0 3 2 };
  events = what.Forked 2 ∷ [];
}

-- the replica of thread 1
abbrev replica : Thread
replica = record forker { status = forking phase.Child 0 3 0; pending = false }

-- the process with it
abbrev child_with : Thread → Process
child_with t = record {
  pid = 2;
  parent = 1;
  ended = None;
  threads = t ∷ record created { gone = true } ∷ [];
  shared = record (new_shared script) { owners = 2 ∷ 0 ∷ []; restricted = true };
}

is_a_replica : IsReplica forker replica
is_a_replica = record {
  id = refl;
  frames = refl;
  in_fork = refl;
  handlers = refl;
  state = refl;
  mode = refl;
  detached = refl;
  at_start = record { no_request = refl; not_ending = refl; no_pass = refl; not_ended = refl; not_joined = refl };
}

-- a replica is made before the parent handlers are called, and has each child handler of the same registrations left
its_fork : map (λ at. status_in_child (forking at 1 3 2)) (phase.Prepare ∷ phase.Parent ∷ phase.Child ∷ []) ≡ Some (forking phase.Child 0 3 0) ∷ None ∷ None ∷ []
its_fork = refl

-- the phase of a thread in fork
abbrev phase_of : Status → Phase
phase_of (status.Forking at) = at.phase
phase_of _ = phase.Prepare

it_has_no_parent_handler_left : IsReplica forker (record replica { status = forking phase.Parent 0 3 0 }) → ⊥
it_has_no_parent_handler_left law = let is : phase.Child ≡ phase.Parent = ap phase_of (same_Some _ _ law.in_fork) in absurd (cc)

is_a_child : IsChild forks (child_with replica)
is_a_child = record {
  parent = refl;
  runs = refl;
  copy = refl;
  thread = replica;
  alone = refl;
  is_replica = is_a_replica;
}

makes_one_process : CreatesProcesses forks (forks.process ∷ []) (forks.process_after ∷ child_with replica ∷ [])
makes_one_process = record { kept = refl; reported = refl; created = All-from_recursion (IsChild forks) (child_with replica ∷ []) (is_a_child, tt) }

-- its thread, if it has this one alone
its_thread : (t : Thread) → t.gone ≡ false → (law : IsChild forks (child_with t)) → t ≡ law.thread
its_thread t here law = same_first t law.thread (sym (ap (λ (b : Bool). cond b (t ∷ []) []) (ap not here)) ∙ law.alone)
  where
    first_of : List Thread → Thread
    first_of [] = t
    first_of (u ∷ threads) = u

    same_first : (t u : Thread) → (t ∷ []) ≡ (u ∷ []) → t ≡ u
    same_first t u same = ap first_of same

-- what its thread has, if the child is made by the step
of_its_thread : {V : Type 0} (view : Thread → V) (t : Thread) → t.gone ≡ false → ((u : Thread) → IsReplica forker u → view u ≡ view forker) → IsChild forks (child_with t) → view t ≡ view forker
of_its_thread view t here same law = ap view (its_thread t here law) ∙ same law.thread law.is_replica

its_thread_has_no_request : IsChild forks (child_with (record replica { pending = true })) → ⊥
its_thread_has_no_request law =
    false≢true (sym (ap (λ (t : Thread). t.pending) (its_thread (record replica { pending = true }) refl law) ∙ law.is_replica.at_start.no_request))

it_has_the_handlers : IsChild forks (child_with (record replica { handlers = [] })) → ⊥
it_has_the_handlers law =
    let n : ◌≡◌ {A = ℕ} 0 1 = of_its_thread (λ (t : Thread). length t.handlers) (record replica { handlers = [] }) refl (λ u is. ap length is.handlers) law in omega (arith, n)

and_the_frames : IsChild forks (child_with (record replica { frames = [] })) → ⊥
and_the_frames law =
    let n : ◌≡◌ {A = ℕ} 0 1 = of_its_thread (λ (t : Thread). length t.frames) (record replica { frames = [] }) refl (λ u is. ap length is.frames) law in omega (arith, n)

and_the_state_of_its_cancelability : IsChild forks (child_with (record replica { state = Enable })) → ⊥
and_the_state_of_its_cancelability law =
    let is : Enable ≡ Disable = of_its_thread (λ (t : Thread). t.state) (record replica { state = Enable }) refl (λ u is. is.state) law in absurd (cc)

and_its_number : IsChild forks (child_with (record replica { id = 2 })) → ⊥
and_its_number law =
    let n : ◌≡◌ {A = ℕ} 2 1 = of_its_thread (λ (t : Thread). t.id) (record replica { id = 2 }) refl (λ u is. is.id) law in omega (arith, n)

it_has_one_thread : IsChild forks (record (child_with replica) { threads = replica ∷ created ∷ [] }) → ⊥
it_has_one_thread law = let n : ◌≡◌ {A = ℕ} 2 1 = ap count law.alone in omega (arith, n)

a_child_has_the_owners : IsChild forks (record (child_with replica) { shared = record (child_with replica).shared { owners = 0 ∷ 0 ∷ [] } }) → ⊥
a_child_has_the_owners law = let n : ◌≡◌ {A = ℕ} 0 2 = ap (λ (shared : SharedState). slice_index shared.owners 0) law.copy in omega (arith, n)

a_child_of_two_threads_is_restricted : IsChild forks (record (child_with replica) { shared = record (child_with replica).shared { restricted = false } }) → ⊥
a_child_of_two_threads_is_restricted law = false≢true (ap (λ (shared : SharedState). shared.restricted) law.copy)

a_child_of_one_is_not : IsChild (record forks { process = with_threads (forker ∷ []) }) (child_with replica) → ⊥
a_child_of_one_is_not law = false≢true (sym (ap (λ (shared : SharedState). shared.restricted) law.copy))

exit_has_not_begun_in_it : IsChild forks (record (child_with replica) { shared = record (child_with replica).shared { exit_value = Some 3 } }) → ⊥
exit_has_not_begun_in_it law = none-some 3 (sym (ap (λ (shared : SharedState). shared.exit_value) law.copy))

it_is_a_child_of_the_process : IsChild forks (record (child_with replica) { parent = 0 }) → ⊥
it_is_a_child_of_the_process law = let n : ◌≡◌ {A = ℕ} 0 1 = law.parent in omega (arith, n)

a_fork_makes_a_process : CreatesProcesses forks (forks.process ∷ []) (forks.process_after ∷ []) → ⊥
a_fork_makes_a_process law = let n : ◌≡◌ {A = ℕ} 0 1 = ap count law.reported in omega (arith, n)

no_other_step_does : CreatesProcesses creates (creates.process ∷ []) (creates.process_after ∷ child_with replica ∷ []) → ⊥
no_other_step_does law = let n : ◌≡◌ {A = ℕ} 1 0 = ap count law.reported in omega (arith, n)
