-- Processes that are made, that end and that are reaped, and threads that exit, some of them in states that no run of a script reaches (XSH
-- exit, atexit, fork, waitpid).
use Rattle.pct_names.proofs.Names.{[], acts, after_transition, Bool, child_of, default_config, Disable, drop, false, family_of}
use Rattle.pct_names.proofs.Names.{first_process, goes_on, goes_on_exiting, List, map, may_register, new_frame, new_shared, new_thread}
use Rattle.pct_names.proofs.Names.{no_change, None, Option, option_map, Prepare, Process, ProcessEnd, refl, registers_if, replicate}
use Rattle.pct_names.proofs.Names.{shared_after, SharedState, Some, Status, step, Thread, Transition, true, was_reaped, What, World, ℕ, ◌∷◌}
use Rattle.pct_names.proofs.Names.{◌≡◌}
use Rattle.pct_model.specs.declared.event.Caller.TheVariants as caller
use Rattle.pct_model.specs.declared.event.What.TheVariants as what
use Rattle.pct_model.specs.declared.process.Child.{Child}
use Rattle.pct_model.specs.declared.state.FrameKind.TheVariants as kind
use Rattle.pct_model.specs.declared.state.Phase.TheVariants.{Child as ChildPhase}
use Rattle.pct_model.specs.declared.state.Reason.TheVariants as reason
use Rattle.pct_model.specs.declared.state.Status.TheVariants as status
use Rattle.pct_model.specs.declared.statement.Dest.TheVariants as destination
use Rattle.pct_model.specs.declared.transition.OwnAction.TheVariants as own_action
use Rattle.pct_model.specs.declared.transition.ProcessAction.TheVariants as process_action
use Rattle.pct_model.specs.declared.transition.SharedAction.TheVariants as shared_action
use Rattle.pct_rows.proofs.OnLiterals.{runs_on_literals}
use Rattle.pct_rows.proofs.ExampleScripts.{smallest}
use Rattle.pct_rows.specs.Examples.{first_goes}

-- ---- the end of a process

-- a process with this id, parent and exit status
abbrev child : ℕ → ℕ → Option ℕ → Process
child pid parent status = record (first_process smallest) { pid = pid; parent = parent; ended = option_map (λ (n : ℕ). record { status = n; reaped = false }) status }

abbrev family : World
family = record { processes = child 1 0 None ∷ child 2 1 None ∷ child 3 2 (Some 5) ∷ child 4 2 None ∷ child 5 1 (Some 6) ∷ []; stop = None }

abbrev ends_with_7 : Transition
ends_with_7 = record (acts []) { process = Some (process_action.End 7) }

-- the parent and the exit status of a process, and whether it was reaped
abbrev parent_and_end : Process → ℕ × Option ℕ × Bool
parent_and_end p = (p.parent, option_map (λ (end : ProcessEnd). end.status) p.ended, was_reaped p.ended)

-- as a process ends, its ended children are reaped, its other children lose their parent, and other processes are unchanged
end_of_a_process : map parent_and_end (after_transition 2 1 ends_with_7 family).processes ≡ (0, None, false) ∷ (1, Some 7, false) ∷ (2, Some 5, true) ∷ (0, None, false) ∷ (1, Some 6, false) ∷ []
unfolding runs_on_literals
end_of_a_process = refl

-- a process without a parent is reaped as it ends
end_of_the_first : map parent_and_end (after_transition 1 1 ends_with_7 family).processes ≡ (0, Some 7, true) ∷ (0, None, false) ∷ (2, Some 5, false) ∷ (2, None, false) ∷ (1, Some 6, true) ∷ []
unfolding runs_on_literals
end_of_the_first = refl

-- a child that is waited for is reaped, and no other process
reaping : map parent_and_end (after_transition 1 1 (record (acts []) { process = Some (process_action.Reap 5) }) family).processes ≡ (0, None, false) ∷ (1, None, false) ∷ (2, Some 5, false) ∷ (2, None, false) ∷ (1, Some 6, true) ∷ []
unfolding runs_on_literals
reaping = refl

-- ---- fork

-- a child is the last one of the processes, with the process that forked as its parent
abbrev pid_and_parent : Process → ℕ × ℕ
pid_and_parent p = (p.pid, p.parent)

forking : map pid_and_parent (after_transition 2 1 (record (acts []) { process = Some (process_action.Make 6) }) family).processes ≡ (1, 0) ∷ (2, 1) ∷ (3, 2) ∷ (4, 2) ∷ (5, 1) ∷ (6, 2) ∷ []
unfolding runs_on_literals
forking = refl

-- thread 2 is in a fork that uses 3 registrations, in a process whose thread 1 has not ended: it has a handler, disabled cancelability and a
-- request, and is detached
abbrev forks : Thread
forks = record (new_thread 2 true (new_frame 3 7 kind.Start)) { status = status.Forking (record { phase = Prepare; next = 0; length = 3; answer = 0 }); state = Disable; pending = true; handlers = (4, 5) ∷ [] }

abbrev made : Process
made = child_of 2 6 (record (first_process smallest) { threads = new_thread 1 false (new_frame 0 0 kind.Main) ∷ forks ∷ []; shared = record (new_shared smallest) { owners = 1 ∷ 2 ∷ []; exit_functions = 8 ∷ []; exit_value = Some 3 } })

-- the child has thread 2 alone, without the request; thread 1 is gone
threads_of_the_child : map (λ (t : Thread). t.gone) made.threads ≡ true ∷ false ∷ []
unfolding runs_on_literals
threads_of_the_child = refl

replica : drop 1 made.threads ≡ record forks { status = status.Forking (record { phase = ChildPhase; next = 0; length = 3; answer = 0 }); pending = false } ∷ []
unfolding runs_on_literals
replica = refl

-- it has what the threads share; exit has not begun in it; and it is the child of a process with several threads
rest_of_the_child : (made.shared.owners ≡ 1 ∷ 2 ∷ []) × (made.shared.exit_functions ≡ 8 ∷ []) × (made.shared.exit_value ≡ None) × (made.shared.restricted ≡ true)
unfolding runs_on_literals
rest_of_the_child = (refl, refl, refl, refl)

-- seven processes that were not reaped leave room for one more, and eight do not; ended ones count
next_ids : map (λ n. (family_of (record { processes = replicate n (child 1 0 (Some 5)); stop = None }) 1).new_pid) (0 ∷ 7 ∷ 8 ∷ []) ≡ Some 1 ∷ Some 8 ∷ None ∷ []
unfolding runs_on_literals
next_ids = refl

-- process 2 has the children 3 and 4, of which 3 has ended; process 5 is none of its children
children : map (λ pid. option_map (λ (c : Child). c.ended) ((family_of family 2).child pid)) (3 ∷ 4 ∷ 5 ∷ 2 ∷ []) ≡ Some (Some 5) ∷ Some None ∷ None ∷ None ∷ []
unfolding runs_on_literals
children = refl

-- ---- the end of the last thread

-- a thread that has begun to end with the value 5
abbrev ending : ℕ → Thread
ending id = record (new_thread id false (new_frame 0 0 kind.Start)) { status = status.Ending; frames = []; reason = reason.Exit 5 }

-- process 1 with these threads
abbrev world : List Thread → World
world threads = record { processes = record (first_process smallest) { threads = threads } ∷ []; stop = None }

-- the status and the end of each thread, and the events, after a step of thread 1
abbrev after_a_step : World → Option (List (List (Status × Bool)) × List What)
after_a_step w = option_map (λ s. (map (λ p. map (λ t. (t.status, t.ended)) p.threads) s.world.processes, s.events)) (step smallest default_config w first_goes)

-- the last thread exits the process with 0; threads that were not inherited do not count
ends_last : after_a_step (world (ending 1 ∷ record (ending 2) { gone = true } ∷ [])) ≡ Some (((status.Exiting, true) ∷ (status.Ending, false) ∷ []) ∷ [], what.EndedWith 5 ∷ what.ExitBegun 0 ∷ [])
unfolding runs_on_literals
ends_last = refl

-- ---- exit and atexit

-- the state of a process with this number of exit functions, where exit has begun with this value
abbrev registered : ℕ → Option ℕ → SharedState
registered n value = record (new_shared smallest) { exit_functions = replicate n 2; exit_value = value }

-- atexit of function 5 in a process in which exit has not begun, and in one in which it has
abbrev at_exit : ℕ → List Transition
at_exit n = map (λ value. registers_if (may_register (registered n value)) 7 (destination.Local 1) 5) (None ∷ Some 3 ∷ [])

abbrev is_registered : Transition
is_registered = record (goes_on 7 []) { writes = (destination.Local 1, 0) ∷ []; shared = Some (shared_action.AddExit 5) }

abbrev is_refused : Transition
is_refused = record (goes_on 7 (what.Answer caller.AtExit 1 ∷ [])) { writes = (destination.Local 1, 1) ∷ [] }

-- one function can be registered if there are 31, none if there are 32 or more, and none after exit has begun
registrations : map at_exit (0 ∷ 31 ∷ 32 ∷ 33 ∷ []) ≡ (is_registered ∷ is_refused ∷ []) ∷ (is_registered ∷ is_refused ∷ []) ∷ (is_refused ∷ is_refused ∷ []) ∷ (is_refused ∷ is_refused ∷ []) ∷ []
unfolding runs_on_literals
registrations = refl

-- the newest function is removed and called, also where exit has no value; without functions and without a value nothing changes
exits_without_value : (goes_on_exiting (4 ∷ 2 ∷ []) None ≡ record (acts (what.ExitRun 4 ∷ [])) { own = Some (own_action.RunExitFunction 4); shared = Some shared_action.TakeExit }) × (goes_on_exiting [] None ≡ no_change)
unfolding runs_on_literals
exits_without_value = (refl, refl)

-- from an empty list no function is removed
no_function_is_left : (shared_after (Some shared_action.TakeExit) (registered 0 None)).exit_functions ≡ []
unfolding runs_on_literals
no_function_is_left = refl
