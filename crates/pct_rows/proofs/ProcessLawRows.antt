-- Lists of events that keep the law of processes, and lists that do not, each with the name of the sentence that it breaks. They are listed
-- newest first. Where nothing else is said, the events are those of thread 1 of process 1.
use Rattle.pct_names.proofs.Names.{[], Bool, Event, false, List, refl, true, What, ℕ, ◌∷◌, ◌≡◌}
use Rattle.pct_model.specs.declared.event.What.TheVariants as what
use Rattle.pct_model.specs.declared.stop.Why.TheVariants as why
use Rattle.pct_laws.specs.Each.{each}
use Rattle.pct_rows.proofs.Refusals.{refuses}
use Rattle.pct_laws.specs.ProcessLaw.{allows}

-- an event of thread 1 of process 1, of another thread of it, and of a thread of process 2
abbrev event : What → Event
event w = record { pid = 1; tid = 1; what = w }

abbrev other : ℕ → What → Event
other tid w = record { pid = 1; tid = tid; what = w }

abbrev elsewhere : ℕ → What → Event
elsewhere tid w = record { pid = 2; tid = tid; what = w }

-- the events keep the law
abbrev keeps : List Event → Bool
keeps events = each allows events

-- they do not: the newest is refused
abbrev refused : List Event → Bool
refused events = refuses allows events

-- thread 1 creates thread 2
abbrev created : List Event
created = event (what.Created 2 false) ∷ []

created_comes : keeps created ≡ true
created_comes = refl

-- thread 1 makes process 2
abbrev forked : List Event
forked = event (what.Forked 2) ∷ []

forked_comes : keeps forked ≡ true
forked_comes = refl

-- process 2 ends with 5
abbrev child_ended : List Event
child_ended = elsewhere 1 (what.ProcessEnded 5) ∷ forked

-- ---- stops and ends

-- a stop is the last event, and so is the end of the process
stopped : keeps (event (what.Stopped why.ThreadId) ∷ event (what.Emit 5) ∷ []) ≡ true
stopped = refl

after_a_stop_no_event_comes : refused (event (what.Emit 5) ∷ event (what.Stopped why.ThreadId) ∷ []) ≡ true
after_a_stop_no_event_comes = refl

nor_one_of_another_process : refused (elsewhere 1 (what.Emit 5) ∷ event (what.Stopped why.ThreadId) ∷ forked) ≡ true
nor_one_of_another_process = refl

after_the_end_of_its_process_no_event_comes : refused (event (what.Emit 5) ∷ event (what.ProcessEnded 0) ∷ []) ≡ true
after_the_end_of_its_process_no_event_comes = refl

nor_one_of_another_thread : refused (other 2 (what.Emit 5) ∷ event (what.ProcessEnded 0) ∷ created) ≡ true
nor_one_of_another_thread = refl

nor_a_second_end : refused (event (what.ProcessEnded 0) ∷ event (what.ProcessEnded 0) ∷ []) ≡ true
nor_a_second_end = refl

-- the other process goes on, whichever of them ends
the_child_goes_on : keeps (elsewhere 1 (what.Emit 5) ∷ event (what.ProcessEnded 0) ∷ forked) ≡ true
the_child_goes_on = refl

the_parent_goes_on : keeps (event (what.Emit 5) ∷ child_ended) ≡ true
the_parent_goes_on = refl

-- ---- threads

-- the initial thread, one that was created, and the replica of one that called fork
known_threads : keeps (elsewhere 2 (what.Emit 5) ∷ other 2 (what.Forked 2) ∷ other 2 (what.Emit 5) ∷ created) ≡ true
known_threads = refl

the_thread_of_an_event_was_created : refused (other 2 (what.Emit 5) ∷ []) ≡ true
the_thread_of_an_event_was_created = refl

it_was_created_before_the_event : keeps (event (what.Created 2 false) ∷ other 2 (what.Emit 5) ∷ []) ≡ false
it_was_created_before_the_event = refl

its_process_was_made : refused (elsewhere 1 (what.Emit 5) ∷ []) ≡ true
its_process_was_made = refl

a_thread_is_created_in_its_process : refused (elsewhere 2 (what.Emit 5) ∷ elsewhere 1 (what.Emit 5) ∷ event (what.Created 2 false) ∷ forked) ≡ true
a_thread_is_created_in_its_process = refl

a_child_has_the_thread_that_called_fork_alone : refused (elsewhere 2 (what.Emit 5) ∷ event (what.Forked 2) ∷ created) ≡ true
a_child_has_the_thread_that_called_fork_alone = refl

nor_has_it_an_initial_thread : refused (elsewhere 1 (what.Emit 5) ∷ other 2 (what.Forked 2) ∷ created) ≡ true
nor_has_it_an_initial_thread = refl

-- ---- forks

-- a parent makes two children, and a child makes one
forks : keeps (elsewhere 1 (what.Forked 4) ∷ event (what.Forked 3) ∷ forked) ≡ true
forks = refl

a_process_is_made_by_one_fork : refused (event (what.Forked 2) ∷ forked) ≡ true
a_process_is_made_by_one_fork = refl

not_by_its_own : refused (elsewhere 1 (what.Forked 2) ∷ forked) ≡ true
not_by_its_own = refl

no_fork_makes_the_first_process : refused (event (what.Forked 1) ∷ []) ≡ true
no_fork_makes_the_first_process = refl

-- an event of the child before it is made also breaks the sentence on known threads
a_child_had_no_event : keeps (event (what.Forked 2) ∷ elsewhere 1 (what.Emit 5) ∷ []) ≡ false
a_child_had_no_event = refl

-- ---- exit

-- the thread that exits its process ends it with the low eight bits of its value
exits : keeps (event (what.ProcessEnded 1) ∷ event (what.ExitBegun 257) ∷ []) ≡ true
exits = refl

-- another one ends it with any status
another_thread_ends_it : keeps (other 2 (what.ProcessEnded 7) ∷ event (what.ExitBegun 1) ∷ created) ≡ true
another_thread_ends_it = refl

-- exit begins in a child also if it has begun in its parent
exit_begins_in_each : keeps (elsewhere 2 (what.ExitBegun 2) ∷ other 2 (what.Forked 2) ∷ event (what.ExitBegun 1) ∷ created) ≡ true
exit_begins_in_each = refl

exit_begins_once : refused (event (what.ExitBegun 1) ∷ event (what.ExitBegun 1) ∷ []) ≡ true
exit_begins_once = refl

also_by_another_thread : refused (other 2 (what.ExitBegun 1) ∷ event (what.ExitBegun 1) ∷ created) ≡ true
also_by_another_thread = refl

a_status_has_8_bits : refused (event (what.ProcessEnded 256) ∷ []) ≡ true
a_status_has_8_bits = refl

the_status_is_that_of_exit : refused (event (what.ProcessEnded 2) ∷ event (what.ExitBegun 257) ∷ []) ≡ true
the_status_is_that_of_exit = refl

-- ---- waitpid

-- the parent gets the status of each of two children
reaped : keeps (event (what.Reaped 3 6) ∷ event (what.Reaped 2 5) ∷ record { pid = 3; tid = 1; what = what.ProcessEnded 6 } ∷ elsewhere 1 (what.ProcessEnded 5) ∷ event (what.Forked 3) ∷ forked) ≡ true
reaped = refl

waitpid_is_for_a_child : refused (event (what.Reaped 3 6) ∷ record { pid = 3; tid = 1; what = what.ProcessEnded 6 } ∷ elsewhere 1 (what.Forked 3) ∷ forked) ≡ true
waitpid_is_for_a_child = refl

waitpid_waits_for_the_end : refused (event (what.Reaped 2 0) ∷ forked) ≡ true
waitpid_waits_for_the_end = refl

waitpid_gives_the_status : refused (event (what.Reaped 2 6) ∷ child_ended) ≡ true
waitpid_gives_the_status = refl

waitpid_gives_it_once : refused (event (what.Reaped 2 5) ∷ event (what.Reaped 2 5) ∷ child_ended) ≡ true
waitpid_gives_it_once = refl

-- ---- joins

-- of a thread that is known, by another one that has not ended
joined : keeps (event (what.Joined 2 7) ∷ other 2 (what.EndedWith 7) ∷ created) ≡ true
joined = refl

a_join_is_of_a_known_thread : refused (event (what.Joined 3 7) ∷ created) ≡ true
a_join_is_of_a_known_thread = refl

a_join_is_of_another_thread : refused (event (what.Joined 1 7) ∷ []) ≡ true
a_join_is_of_another_thread = refl

a_thread_that_has_ended_joins_none : refused (event (what.Joined 2 7) ∷ event (what.EndedWith 0) ∷ created) ≡ true
a_thread_that_has_ended_joins_none = refl
