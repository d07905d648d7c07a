-- Lists of events that keep the law of thread ids and slots, and lists that do not, each with the name of the sentence that it breaks. They
-- are listed newest first. A process has two slots: the threads 1 and 3 are on one of them, the threads 2 and 4 on the other. Where nothing
-- else is said, threads are those of process 1.
use Rattle.pct_names.proofs.Names.{◌++◌, [], Bool, Event, false, join_point, List, refl, true, What, ℕ, ◌∷◌, ◌≡◌}
use Rattle.pct_model.specs.declared.event.What.TheVariants as what
use Rattle.pct_laws.specs.Each.{each}
use Rattle.pct_rows.proofs.Refusals.{refuses}
use Rattle.pct_laws.specs.SlotLaw.{allows}

-- the events keep the law
abbrev keeps : List Event → Bool
keeps events = each (allows 2) events

-- they do not: the newest is refused
abbrev refused : List Event → Bool
refused events = refuses (allows 2) events

-- ---- lists of events

-- an event of a thread of process 1, and of process 2
abbrev event : ℕ → What → Event
event tid w = record { pid = 1; tid = tid; what = w }

abbrev elsewhere : ℕ → What → Event
elsewhere tid w = record { pid = 2; tid = tid; what = w }

-- thread 1 creates a joinable thread with this id
abbrev create : ℕ → Event
create id = event 1 (what.Created id false)

-- thread 2 is created and ends
abbrev ended : List Event
ended = event 2 (what.EndedWith 7) ∷ event 2 (what.EndingExit 7) ∷ create 2 ∷ []

-- thread 1 joins it, or detaches it
abbrev joined : List Event
joined = event 1 (what.Joined 2 7) ∷ event 1 (what.Called join_point) ∷ ended

abbrev detached : List Event
detached = event 1 (what.Detached 2) ∷ ended

-- thread 2 of process 1 forks; its replica creates thread 3, these events follow, and the replica ends
abbrev replica_ended_after : List Event → List Event → List Event
replica_ended_after later earlier = elsewhere 2 (what.EndedWith 7) ∷ elsewhere 2 (what.EndingExit 7) ∷ later ++ elsewhere 2 (what.Created 3 false) ∷ event 2 (what.Forked 2) ∷ earlier

-- ---- allowed

on_a_free_slot : keeps (create 2 ∷ []) ≡ true
on_a_free_slot = refl

on_the_slot_of_a_joined_thread : keeps (create 4 ∷ joined) ≡ true
on_the_slot_of_a_joined_thread = refl

on_the_slot_of_a_thread_that_was_detached : keeps (create 4 ∷ detached) ≡ true
on_the_slot_of_a_thread_that_was_detached = refl

-- the thread may also be detached before its end, or be created so; and its slot is free for a third thread once the second has gone, too
on_one_slot_in_turn : keeps (create 6 ∷ event 4 (what.EndedWith 0) ∷ event 4 (what.EndingExit 0) ∷ event 1 (what.Created 4 true) ∷ event 2 (what.EndedWith 7) ∷ event 2 (what.EndingExit 7) ∷ event 2 (what.Detached 2) ∷ create 2 ∷ []) ≡ true
on_one_slot_in_turn = refl

-- the ids of a new process are its own: thread 2 of process 1 takes no slot of process 2, which has the replica of thread 1 alone
in_a_new_process : keeps (elsewhere 1 (what.Created 2 false) ∷ event 1 (what.Forked 2) ∷ create 2 ∷ []) ≡ true
in_a_new_process = refl

-- nor has process 2 an initial thread, if thread 2 called fork
beside_the_replica : keeps (elsewhere 2 (what.Created 1 false) ∷ event 2 (what.Forked 2) ∷ create 2 ∷ []) ≡ true
beside_the_replica = refl

-- the replica of a detached thread is detached
on_the_slot_of_a_detached_replica : keeps (elsewhere 3 (what.Created 4 false) ∷ replica_ended_after [] (event 1 (what.Created 2 true) ∷ [])) ≡ true
on_the_slot_of_a_detached_replica = refl

-- ---- refused

-- the initial thread, a running thread, and one that was joined have had their ids
the_initial_thread_has_its_id : refused (create 1 ∷ []) ≡ true
the_initial_thread_has_its_id = refl

an_id_is_given_once : refused (create 2 ∷ create 2 ∷ []) ≡ true
an_id_is_given_once = refl

and_not_again_after_a_join : refused (create 2 ∷ joined) ≡ true
and_not_again_after_a_join = refl

the_initial_thread_holds_its_slot : refused (create 3 ∷ []) ≡ true
the_initial_thread_holds_its_slot = refl

a_thread_holds_its_slot : refused (create 4 ∷ create 2 ∷ []) ≡ true
a_thread_holds_its_slot = refl

a_detached_thread_holds_its_slot_until_its_end : refused (create 4 ∷ event 2 (what.EndingExit 7) ∷ event 1 (what.Created 2 true) ∷ []) ≡ true
a_detached_thread_holds_its_slot_until_its_end = refl

a_thread_that_has_ended_holds_its_slot : refused (create 4 ∷ ended) ≡ true
a_thread_that_has_ended_holds_its_slot = refl

-- thread 2 is canceled while it joins thread 1, and its handler creates a thread after the end of thread 1
a_canceled_join_frees_no_slot : refused (event 2 (what.Created 3 false) ∷ event 2 (what.HandlerRun 0 0) ∷ event 1 (what.EndedWith 7) ∷ event 1 (what.EndingExit 7) ∷ event 2 what.EndingCanceled ∷ event 1 (what.Request 2) ∷ event 2 (what.Called join_point) ∷ event 2 (what.Pushed 0 0) ∷ create 2 ∷ []) ≡ true
a_canceled_join_frees_no_slot = refl

-- of the threads on a slot the last one counts, whatever became of the others
the_last_thread_of_a_slot_holds_it : refused (create 6 ∷ create 4 ∷ joined) ≡ true
the_last_thread_of_a_slot_holds_it = refl

-- each event counts, not the newest one alone
no_event_is_passed_over : keeps (event 1 (what.Joined 4 7) ∷ event 4 (what.EndedWith 7) ∷ create 4 ∷ ended) ≡ false
no_event_is_passed_over = refl

-- the replica of thread 1 has its id and its slot in process 2
a_replica_has_its_id : refused (elsewhere 1 (what.Created 1 false) ∷ event 1 (what.Forked 2) ∷ []) ≡ true
a_replica_has_its_id = refl

a_replica_holds_its_slot : refused (elsewhere 1 (what.Created 3 false) ∷ event 1 (what.Forked 2) ∷ []) ≡ true
a_replica_holds_its_slot = refl

-- threads of process 2 that were created after the fork are on slots of process 2
a_thread_of_a_new_process_holds_its_slot : refused (elsewhere 1 (what.Created 4 false) ∷ elsewhere 1 (what.Created 2 false) ∷ event 1 (what.Forked 2) ∷ joined) ≡ true
a_thread_of_a_new_process_holds_its_slot = refl

-- what becomes of thread 2 of process 1 after the fork frees no slot of process 2: its end, a detach, and a join
no_end_in_another_process_counts : refused (elsewhere 2 (what.Created 4 false) ∷ event 1 (what.Joined 2 7) ∷ event 2 (what.EndedWith 7) ∷ event 2 (what.Forked 2) ∷ create 2 ∷ []) ≡ true
no_end_in_another_process_counts = refl

nor_does_a_detach : refused (elsewhere 3 (what.Created 4 false) ∷ replica_ended_after (event 1 (what.Detached 2) ∷ []) (create 2 ∷ [])) ≡ true
nor_does_a_detach = refl

nor_does_a_join : refused (elsewhere 3 (what.Created 4 false) ∷ replica_ended_after (event 1 (what.Joined 2 7) ∷ event 2 (what.EndedWith 7) ∷ event 2 (what.EndingExit 7) ∷ event 1 (what.Called join_point) ∷ []) (create 2 ∷ [])) ≡ true
nor_does_a_join = refl
