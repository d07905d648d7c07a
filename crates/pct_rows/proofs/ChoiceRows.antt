-- The order of the scheduler's candidates, how two numbers choose among them, and the choices of a thread that creates a thread or a key.
use Rattle.pct_names.proofs.Names.{◌++◌, [], Alt, by_slot, Candidate, candidates, chosen, Config, Entry, Environment, environment_of, false}
use Rattle.pct_names.proofs.Names.{first_process, Frame, KeyPlace, List, map, new_frame, new_shared, new_thread, None, Process, refl}
use Rattle.pct_names.proofs.Names.{replicate, running_choices, SharedState, slot_of, Some, Status, Stmt, Thread, true, World, ℕ, ◌∷◌, ◌≡◌}
use Rattle.pct_model.specs.declared.schedule.Alt.TheVariants as alt
use Rattle.pct_model.specs.declared.schedule.Format.TheVariants as format
use Rattle.pct_model.specs.declared.state.FrameKind.TheVariants as kind
use Rattle.pct_model.specs.declared.state.Status.TheVariants as status
use Rattle.pct_model.specs.declared.statement.Dest.TheVariants as destination
use Rattle.pct_model.specs.declared.statement.Operand.TheVariants as operand
use Rattle.pct_model.specs.declared.statement.Stmt.TheVariants as statement
use Rattle.pct_model.specs.declared.stop.Why.TheVariants as why
use Rattle.pct_rows.proofs.OnLiterals.{runs_on_literals}
use Rattle.pct_rows.proofs.ExampleScripts.{smallest}

-- four thread slots, in format 1
abbrev pub config : Config
config = record { budget = 100; passes = 4; slots = 4; format = format.One }

-- a frame at the first statement of `main`, and a thread with it
abbrev pub start : Frame
start = new_frame 0 0 kind.Start

abbrev pub ready : ℕ → Thread
ready id = new_thread id false start

-- a thread in a status
abbrev pub in_status : ℕ → Status → Thread
in_status id status = record (ready id) { status = status; frames = [] }

-- a process with these threads
abbrev pub process : ℕ → List Thread → Process
process pid threads = record (first_process smallest) { pid = pid; threads = threads }

-- the worker, process, thread and choice of an entry
abbrev entry : ℕ → ℕ → ℕ → Entry
entry worker pid tid = record { worker = worker; pid = pid; tid = tid; alt = alt.Go }

-- ---- slots

-- the slots of thread ids, with four slots
slots_of_ids : map (slot_of 4) (1 ∷ 2 ∷ 3 ∷ 4 ∷ 5 ∷ 8 ∷ 9 ∷ []) ≡ 0 ∷ 1 ∷ 2 ∷ 3 ∷ 0 ∷ 3 ∷ 0 ∷ []
slots_of_ids = refl

-- threads by rising slot, whatever the order in which they were created; a thread that was reclaimed has no slot
threads_by_slot : map (λ t. t.id) (by_slot 4 (ready 1 ∷ ready 4 ∷ ready 3 ∷ record (in_status 2 (status.Ended 0)) { joined = true } ∷ ready 6 ∷ [])) ≡ 1 ∷ 6 ∷ 3 ∷ 4 ∷ []
threads_by_slot = refl

-- an ended thread that is neither joined nor detached holds its slot; a thread that a child did not inherit has none
ended_and_gone : map (λ t. t.id) (by_slot 4 (in_status 1 (status.Ended 0) ∷ record (ready 2) { gone = true } ∷ record (in_status 3 (status.Ended 0)) { detached = true } ∷ [])) ≡ 1 ∷ []
ended_and_gone = refl

-- ---- candidates

-- two processes that have not ended, with one between them that has
abbrev world : World
world = record { processes = process 1 (ready 1 ∷ ready 3 ∷ ready 2 ∷ in_status 4 (status.Ended 0) ∷ []) ∷ record (process 2 (ready 1 ∷ [])) { ended = Some (record { status = 0; reaped = false }) } ∷ process 3 (ready 6 ∷ in_status 5 status.Exiting ∷ []) ∷ []; stop = None }

abbrev fields_of : Candidate → ℕ × ℕ × List Alt
fields_of c = (c.pid, c.tid, c.choices)

-- by rising process id, then by rising slot; each has the choice `go`
in_order : map fields_of (candidates smallest config world) ≡ (1, 1, alt.Go ∷ []) ∷ (1, 2, alt.Go ∷ []) ∷ (1, 3, alt.Go ∷ []) ∷ (3, 5, alt.Go ∷ []) ∷ (3, 6, alt.Go ∷ []) ∷ []
unfolding runs_on_literals
in_order = refl

-- the first number chooses the thread, modulo the number of candidates; the second chooses among its choices
first_number : (chosen smallest config world 5 0 0 ≡ Some (entry 5 1 1)) × (chosen smallest config world 5 1 7 ≡ Some (entry 5 1 2)) × (chosen smallest config world 5 2 0 ≡ Some (entry 5 1 3)) × (chosen smallest config world 5 3 0 ≡ Some (entry 5 3 5)) × (chosen smallest config world 5 4 0 ≡ Some (entry 5 3 6)) × (chosen smallest config world 5 5 0 ≡ Some (entry 5 1 1)) × (chosen smallest config world 5 4294967294 4294967295 ≡ Some (entry 5 3 6))
unfolding runs_on_literals
first_number = (refl, refl, refl, refl, refl, refl, refl)

-- without a thread that is ready there is no entry, and none after a stop
nobody_ready : (chosen smallest config (record { processes = process 1 (in_status 1 (status.Ended 0) ∷ []) ∷ []; stop = None }) 1 0 0 ≡ None) × (chosen smallest config (record { processes = []; stop = None }) 1 0 0 ≡ None) × (chosen smallest config (record world { stop = Some why.StackFull }) 1 0 0 ≡ None)
unfolding runs_on_literals
nobody_ready = (refl, refl, refl)

-- ---- creations

-- a state with these processes
abbrev pub state_of : List Process → World
state_of processes = record { processes = processes; stop = None }

-- a thread sees no others
abbrev pub nobody : Environment
nobody = environment_of (record config { slots = 0 }) (state_of []) (process 1 []) 1

-- the choices of a running thread at a statement of `main`
abbrev pub choices_before : SharedState → Thread → Environment → Stmt → List Alt
choices_before shared t environment s = running_choices [] shared t environment start s

-- a new thread gets one of the ids of the free slots, by rising slot; without one the call fails
new_thread_ids : map (λ ids. choices_before (new_shared smallest) (ready 1) (record nobody { new_ids = ids }) (statement.Create destination.Drop destination.Drop 0 (operand.Num 0) false)) ((5 ∷ 2 ∷ []) ∷ [] ∷ []) ≡ (alt.New 5 ∷ alt.New 2 ∷ []) ∷ (alt.Go ∷ []) ∷ []
unfolding runs_on_literals
new_thread_ids = refl

-- a place with a key; and all places but the last
abbrev place_with : ℕ → KeyPlace
place_with number = record { made = 1; key = Some (record { number = number; destructor = None }) }

abbrev all_but_the_last : List KeyPlace
all_but_the_last = replicate 127 (place_with 1) ++ record { made = 2; key = None } ∷ []

-- a new key is on the last place, with its third number; with no place left the call fails
creates_the_last_key : map (λ keys. choices_before (record (new_shared smallest) { keys = keys }) (ready 1) nobody (statement.KeyCreate destination.Drop destination.Drop None)) (all_but_the_last ∷ replicate 128 (place_with 1) ∷ []) ≡ (alt.New 384 ∷ []) ∷ (alt.Go ∷ []) ∷ []
unfolding runs_on_literals
creates_the_last_key = refl
