-- Lists of events that keep the law of joins, and lists that do not, each with the name of the sentence that it breaks. They are listed
-- newest first. Where nothing else is said, threads are those of process 1.
use Rattle.pct_names.proofs.Names.{[], Bool, Event, false, join_point, List, refl, true, What, ℕ, ◌∷◌, ◌≡◌}
use Rattle.pct_model.specs.declared.event.What.TheVariants as what
use Rattle.pct_laws.specs.Each.{each}
use Rattle.pct_laws.specs.JoinLaw.{allows}
use Rattle.pct_rows.proofs.Refusals.{refuses}

-- the events keep the law
abbrev keeps : List Event → Bool
keeps events = each allows events

-- they do not: the newest is refused
abbrev refused : List Event → Bool
refused events = refuses allows events

-- an event of a thread of process 1
abbrev event : ℕ → What → Event
event tid w = record { pid = 1; tid = tid; what = w }

-- thread 1 creates thread 2, joinable or detached
abbrev created : List Event
created = event 1 (what.Created 2 false) ∷ []

abbrev created_detached : List Event
created_detached = event 1 (what.Created 2 true) ∷ []

-- thread 2 ends with 7 after these events
abbrev ended_after : List Event → List Event
ended_after earlier = event 2 (what.EndedWith 7) ∷ event 2 (what.EndingExit 7) ∷ earlier

-- thread 1 is suspended in pthread_join after these events
abbrev suspended_after : List Event → List Event
suspended_after earlier = event 1 (what.Called join_point) ∷ earlier

-- thread 1 has joined thread 2
abbrev joined : List Event
joined = event 1 (what.Joined 2 7) ∷ ended_after (suspended_after created)

-- ---- joins

-- the thread ends before the call, or after it
ended_first : keeps (event 1 (what.Joined 2 7) ∷ suspended_after (ended_after created)) ≡ true
ended_first = refl

called_first : keeps joined ≡ true
called_first = refl

a_join_waits_for_the_end : refused (event 1 (what.Joined 2 7) ∷ suspended_after (event 2 (what.EndingExit 7) ∷ created)) ≡ true
a_join_waits_for_the_end = refl

-- the thread that ends is another one, or one of another process
a_join_waits_for_its_own_thread : refused (event 1 (what.Joined 3 7) ∷ suspended_after (ended_after (event 1 (what.Created 3 false) ∷ created))) ≡ true
a_join_waits_for_its_own_thread = refl

a_join_waits_for_a_thread_of_its_process : refused (record { pid = 2; tid = 1; what = what.Joined 2 7 } ∷ record { pid = 2; tid = 1; what = what.Called join_point } ∷ record { pid = 1; tid = 1; what = what.Forked 2 } ∷ ended_after created) ≡ true
a_join_waits_for_a_thread_of_its_process = refl

a_join_gets_the_value_of_its_thread : refused (event 1 (what.Joined 2 8) ∷ suspended_after (ended_after created)) ≡ true
a_join_gets_the_value_of_its_thread = refl

a_thread_is_joined_once : refused (event 1 (what.Joined 2 7) ∷ suspended_after joined) ≡ true
a_thread_is_joined_once = refl

-- by another thread, which called pthread_join before the first join returned
a_thread_is_joined_by_one : refused (event 3 (what.Joined 2 7) ∷ event 1 (what.Joined 2 7) ∷ ended_after (event 3 (what.Called join_point) ∷ suspended_after (event 1 (what.Created 3 false) ∷ created))) ≡ true
a_thread_is_joined_by_one = refl

-- the thread is created detached, or detached before its end
a_detached_thread_is_not_joined : refused (event 1 (what.Joined 2 7) ∷ suspended_after (ended_after created_detached)) ≡ true
a_detached_thread_is_not_joined = refl

a_thread_is_not_joined_once_it_was_detached : refused (event 1 (what.Joined 2 7) ∷ ended_after (event 3 (what.Detached 2) ∷ suspended_after (event 1 (what.Created 3 false) ∷ created))) ≡ true
a_thread_is_not_joined_once_it_was_detached = refl

-- without the event of its call, and with another event since then
a_join_returns_from_a_call : refused (event 1 (what.Joined 2 7) ∷ ended_after created) ≡ true
a_join_returns_from_a_call = refl

a_thread_does_nothing_while_it_joins : refused (event 1 (what.Joined 2 7) ∷ event 1 (what.Emit 5) ∷ suspended_after (ended_after created)) ≡ true
a_thread_does_nothing_while_it_joins = refl

-- the newest event is that of a call of `read`
a_join_returns_from_pthread_join : refused (event 1 (what.Joined 2 7) ∷ event 1 (what.Called 25) ∷ ended_after created) ≡ true
a_join_returns_from_pthread_join = refl

-- ---- requests and detaches

-- of a running thread, and of one that has ended and was neither joined nor detached
requested : keeps (event 1 (what.Request 2) ∷ ended_after (event 1 (what.Request 2) ∷ event 2 (what.Request 1) ∷ created)) ≡ true
requested = refl

detached : keeps (event 1 (what.Detached 2) ∷ ended_after created) ≡ true
detached = refl

-- of a detached thread that has not ended
requested_while_detached : keeps (event 1 (what.Request 2) ∷ event 2 (what.EndingExit 7) ∷ created_detached) ≡ true
requested_while_detached = refl

-- of the replica of the thread that called fork, by its own number
requested_by_a_replica : keeps (record { pid = 2; tid = 2; what = what.Request 2 } ∷ record { pid = 1; tid = 2; what = what.Forked 2 } ∷ created) ≡ true
requested_by_a_replica = refl

a_request_names_a_known_thread : refused (event 1 (what.Request 3) ∷ created) ≡ true
a_request_names_a_known_thread = refl

a_detach_names_a_known_thread : refused (event 1 (what.Detached 3) ∷ created) ≡ true
a_detach_names_a_known_thread = refl

-- a new process has the replica of the thread that called fork alone
a_request_names_a_thread_of_its_process : refused (record { pid = 2; tid = 1; what = what.Request 2 } ∷ record { pid = 1; tid = 1; what = what.Forked 2 } ∷ created) ≡ true
a_request_names_a_thread_of_its_process = refl

-- the lifetime of an id is over once its thread has ended and was joined, or is detached
no_request_for_a_thread_that_was_joined : refused (event 1 (what.Request 2) ∷ joined) ≡ true
no_request_for_a_thread_that_was_joined = refl

no_request_for_a_detached_thread_that_has_ended : refused (event 1 (what.Request 2) ∷ ended_after created_detached) ≡ true
no_request_for_a_detached_thread_that_has_ended = refl

no_detach_of_a_thread_that_was_joined : refused (event 1 (what.Detached 2) ∷ joined) ≡ true
no_detach_of_a_thread_that_was_joined = refl

no_detach_of_a_thread_that_has_ended_detached : refused (event 1 (what.Detached 2) ∷ event 1 (what.Detached 2) ∷ ended_after created) ≡ true
no_detach_of_a_thread_that_has_ended_detached = refl
