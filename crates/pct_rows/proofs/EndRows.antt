-- The laws of the end of a thread. Lists of events that keep the law of handlers that ran, the law of what follows the end of a thread and the
-- law of the event that values are left, and lists that do not, each with the name of the sentence that it breaks; they are listed newest
-- first. Where nothing else is said, the events are those of thread 1 of process 1.
use Rattle.pct_names.proofs.Names.{◌&&◌, [], ap, Event, false, List, map, refl, replicate, true, What, ◌∷◌, ◌≡◌}
use Rattle.pct_model.specs.declared.event.What.TheVariants as what
use Rattle.pct_model.specs.declared.stop.Why.TheVariants as why
use Rattle.pct_laws.specs.AfterEnd.{begins_exit_with_0, is_of_exit}
use Rattle.pct_laws.specs.AfterEnd as AfterEnd
use Rattle.pct_laws.specs.Each.{each}
use Rattle.pct_laws.specs.Ends.{is_leftover}
use Rattle.pct_laws.specs.FollowedEvents.{newest_passes, follows}
use Rattle.pct_laws.specs.KnownThreads.{reports_end}
use Rattle.pct_laws.specs.RanAll as RanAll
use Rattle.pct_rows.proofs.Refusals.{refuses}

-- an event of thread 1 of process 1, of its thread 2, and of the replica of thread 1 in process 2
abbrev event : What → Event
event w = record { pid = 1; tid = 1; what = w }

abbrev other : What → Event
other w = record { pid = 1; tid = 2; what = w }

abbrev replica : What → Event
replica w = record { pid = 2; tid = 1; what = w }

-- thread 1 makes process 2
abbrev fork : Event
fork = event (what.Forked 2)

-- ---- handlers that ran

-- the thread pushes 1 with 10 and then 2 with 20, and calls pthread_exit with 5
abbrev pushed : List Event
pushed = event (what.Pushed 2 20) ∷ event (what.Pushed 1 10) ∷ []

abbrev begun : List Event
begun = event (what.EndingExit 5) ∷ pushed

abbrev ended : Event
ended = event (what.EndedWith 5)

-- the newest runs first
all_ran : each RanAll.allows (ended ∷ event (what.HandlerRun 1 10) ∷ event (what.HandlerRun 2 20) ∷ begun) ≡ true
all_ran = refl

-- a handler that was popped before counts no longer, and one that a handler pushes and pops is none of them
no_popped_handler_ran : each RanAll.allows (ended ∷ event (what.HandlerRun 1 10) ∷ event (what.EndingExit 5) ∷ event (what.Popped 2 20 true) ∷ pushed) ≡ true
no_popped_handler_ran = refl

nor_one_that_a_handler_pushed : each RanAll.allows (ended ∷ event (what.HandlerRun 1 10) ∷ event (what.Popped 3 30 true) ∷ event (what.Pushed 3 30) ∷ event (what.HandlerRun 2 20) ∷ begun) ≡ true
nor_one_that_a_handler_pushed = refl

-- nor one of another thread
each_thread_ran_its_own : each RanAll.allows (other (what.EndedWith 6) ∷ ended ∷ other (what.HandlerRun 3 30) ∷ event (what.HandlerRun 1 10) ∷ other (what.EndingExit 6) ∷ event (what.HandlerRun 2 20) ∷ other (what.Pushed 3 30) ∷ begun) ≡ true
each_thread_ran_its_own = refl

-- a thread that has not ended has time
not_yet : each RanAll.allows (event (what.HandlerRun 2 20) ∷ begun) ≡ true
not_yet = refl

-- a replica runs the handlers that were open in its thread at the fork, and those that it pushed
replica_ran_all : each RanAll.allows (replica (what.EndedWith 7) ∷ replica (what.HandlerRun 1 10) ∷ replica (what.HandlerRun 2 20) ∷ replica (what.HandlerRun 3 30) ∷ replica (what.EndingExit 7) ∷ replica (what.Pushed 3 30) ∷ event (what.Popped 2 20 true) ∷ fork ∷ pushed) ≡ true
replica_ran_all = refl

a_thread_that_has_ended_began_to_end : refuses RanAll.allows (ended ∷ []) ≡ true
a_thread_that_has_ended_began_to_end = refl

no_open_handler_is_left_out : refuses RanAll.allows (ended ∷ event (what.HandlerRun 2 20) ∷ begun) ≡ true
no_open_handler_is_left_out = refl

nor_by_a_request : refuses RanAll.allows (event (what.EndedWith 4294967295) ∷ event what.EndingCanceled ∷ pushed) ≡ true
nor_by_a_request = refl

nor_in_a_wait : refuses RanAll.allows (event (what.EndedWith 4294967295) ∷ event (what.EndingInWait 1 0) ∷ pushed) ≡ true
nor_in_a_wait = refl

the_newest_ran_first : refuses RanAll.allows (ended ∷ event (what.HandlerRun 2 20) ∷ event (what.HandlerRun 1 10) ∷ begun) ≡ true
the_newest_ran_first = refl

no_handler_ran_twice : refuses RanAll.allows (ended ∷ event (what.HandlerRun 1 10) ∷ event (what.HandlerRun 2 20) ∷ event (what.HandlerRun 2 20) ∷ begun) ≡ true
no_handler_ran_twice = refl

no_other_handler_ran : refuses RanAll.allows (ended ∷ event (what.HandlerRun 1 10) ∷ event (what.HandlerRun 3 20) ∷ begun) ≡ true
no_other_handler_ran = refl

with_no_other_argument : refuses RanAll.allows (ended ∷ event (what.HandlerRun 1 10) ∷ event (what.HandlerRun 2 21) ∷ begun) ≡ true
with_no_other_argument = refl

no_handler_that_was_popped_ran : refuses RanAll.allows (ended ∷ event (what.HandlerRun 1 10) ∷ event (what.EndingExit 5) ∷ event (what.Popped 1 10 false) ∷ event (what.Pushed 1 10) ∷ []) ≡ true
no_handler_that_was_popped_ran = refl

-- a thread begins to end at its first ending event
no_handler_is_popped_before_a_second_one : refuses RanAll.allows (event (what.EndedWith 0) ∷ event (what.EndingExit 0) ∷ event (what.Popped 1 10 false) ∷ event (what.EndingExit 0) ∷ event (what.Pushed 1 10) ∷ []) ≡ true
no_handler_is_popped_before_a_second_one = refl

nor_pushed_before_it : refuses RanAll.allows (event (what.EndedWith 0) ∷ event (what.HandlerRun 1 10) ∷ event (what.EndingExit 0) ∷ event (what.Pushed 1 10) ∷ event (what.EndingExit 0) ∷ []) ≡ true
nor_pushed_before_it = refl

a_handler_does_not_run_for_another_thread : refuses RanAll.allows (ended ∷ other (what.HandlerRun 1 10) ∷ other (what.HandlerRun 2 20) ∷ begun) ≡ true
a_handler_does_not_run_for_another_thread = refl

-- the law asks it of each thread that has ended, not of the newest alone
each_thread_runs_its_handlers : each RanAll.allows (other (what.EndedWith 6) ∷ other (what.EndingExit 6) ∷ ended ∷ begun) ≡ false
each_thread_runs_its_handlers = refl

a_replica_runs_those_of_its_thread : refuses RanAll.allows (replica (what.EndedWith 7) ∷ replica (what.EndingExit 7) ∷ fork ∷ pushed) ≡ true
a_replica_runs_those_of_its_thread = refl

also_where_they_ran_in_the_thread : refuses RanAll.allows (replica (what.EndedWith 7) ∷ event (what.HandlerRun 1 10) ∷ event (what.HandlerRun 2 20) ∷ replica (what.EndingExit 7) ∷ fork ∷ pushed) ≡ true
also_where_they_ran_in_the_thread = refl

not_those_that_the_thread_pushed_after_the_fork : refuses RanAll.allows (replica (what.EndedWith 7) ∷ replica (what.HandlerRun 1 10) ∷ replica (what.EndingExit 7) ∷ event (what.Pushed 1 10) ∷ fork ∷ []) ≡ true
not_those_that_the_thread_pushed_after_the_fork = refl

-- ---- what follows an end

-- the events of a thread that exits its process, and some that it does not have
of_exit : map is_of_exit (what.Emit 5 ∷ what.ExitRun 6 ∷ what.Acquired 0 ∷ what.Released 0 ∷ what.ProcessEnded 0 ∷ what.Stopped why.ThreadId ∷ []) ≡ replicate 6 true
of_exit = refl

not_of_exit : map is_of_exit (what.Called 25 ∷ what.Done 25 ∷ what.Created 2 false ∷ what.Joined 2 7 ∷ what.Request 1 ∷ what.StateSet true ∷ what.Forked 2 ∷ what.KeyMade 1 ∷ what.OnceCalled 0 ∷ what.OnceDone 0 ∷ what.ExitBegun 0 ∷ []) ≡ replicate 11 false
not_of_exit = refl

-- the events of the life of a thread: of its handlers, its destructors, and its end. It has none of them as it exits its process, or after its
-- end
abbrev life : List What
life = what.Pushed 1 10 ∷ what.Popped 1 10 true ∷ what.HandlerRun 1 10 ∷ what.PassBegun 1 ∷ what.DtorRun 1 1 4 7 ∷ what.Leftover 1 ∷ what.EndedWith 5 ∷ what.EndingExit 5 ∷ what.EndingCanceled ∷ what.EndingInWait 1 0 ∷ []

no_life_while_it_exits : map is_of_exit life ≡ replicate 10 false
no_life_while_it_exits = refl

no_life_after_its_end : map begins_exit_with_0 life ≡ replicate 10 false
no_life_after_its_end = refl

-- the last thread exits its process directly after its end, where another process goes on between the two
abbrev alone_at_its_end : List Event
alone_at_its_end = replica (what.Emit 5) ∷ ended ∷ event (what.EndingExit 5) ∷ fork ∷ []

last_exits : each AfterEnd.allows (event (what.ProcessEnded 0) ∷ event (what.ExitRun 6) ∷ event (what.ExitBegun 0) ∷ alone_at_its_end) ≡ true
last_exits = refl

-- thread 1 creates thread 2, which ends before it
abbrev created : Event
created = event (what.Created 2 false)

abbrev both_at_their_end : List Event
both_at_their_end = ended ∷ event (what.EndingExit 5) ∷ other (what.EndedWith 6) ∷ other (what.EndingExit 6) ∷ created ∷ []

last_of_two_exits : each AfterEnd.allows (event (what.ExitBegun 0) ∷ both_at_their_end) ≡ true
last_of_two_exits = refl

-- a thread that has not ended exits its process with any value
exits_before_its_end : each AfterEnd.allows (event (what.ProcessEnded 7) ∷ event (what.Emit 5) ∷ event (what.ExitBegun 7) ∷ event (what.HandlerRun 2 20) ∷ begun) ≡ true
exits_before_its_end = refl

-- the other threads and the replica go on after the end of thread 1
others_go_on : each AfterEnd.allows (replica (what.Pushed 1 10) ∷ other (what.Pushed 1 10) ∷ ended ∷ event (what.EndingExit 5) ∷ fork ∷ []) ≡ true
others_go_on = refl

-- after its end an event is that it begins to exit its process with 0; while it exits its process, and after both, one of the exit
only_an_exit_after_its_end : (w : What) → begins_exit_with_0 w ≡ false → AfterEnd.allows (event w) (ended ∷ event (what.EndingExit 5) ∷ []) ≡ false
only_an_exit_after_its_end w other = ap (λ b. b && true) other

only_of_the_exit_while_it_exits : (w : What) → is_of_exit w ≡ false → AfterEnd.allows (event w) (event (what.ExitBegun 7) ∷ []) ≡ false
only_of_the_exit_while_it_exits w other = other

and_after_both : (w : What) → is_of_exit w ≡ false → AfterEnd.allows (event w) (event (what.ExitBegun 0) ∷ ended ∷ event (what.EndingExit 5) ∷ []) ≡ false
and_after_both w other = other

-- also where others had events since then
whatever_others_do : refuses AfterEnd.allows (event (what.Pushed 1 10) ∷ other (what.Emit 5) ∷ replica (what.Emit 5) ∷ ended ∷ event (what.EndingExit 5) ∷ fork ∷ []) ≡ true
whatever_others_do = refl

a_replica_ends_once : refuses AfterEnd.allows (replica (what.EndedWith 5) ∷ replica (what.EndedWith 5) ∷ replica (what.EndingExit 5) ∷ fork ∷ []) ≡ true
a_replica_ends_once = refl

-- each event counts, not the newest one alone
no_event_is_passed_over : each AfterEnd.allows (other (what.Emit 5) ∷ event (what.Emit 5) ∷ ended ∷ event (what.EndingExit 5) ∷ []) ≡ false
no_event_is_passed_over = refl

a_thread_that_has_ended_only_exits : refuses AfterEnd.allows (event (what.Emit 5) ∷ ended ∷ event (what.EndingExit 5) ∷ []) ≡ true
a_thread_that_has_ended_only_exits = refl

it_exits_with_0 : refuses AfterEnd.allows (event (what.ExitBegun 5) ∷ ended ∷ event (what.EndingExit 5) ∷ []) ≡ true
it_exits_with_0 = refl

-- an event between the two also breaks the sentence before
it_exits_directly : each AfterEnd.allows (event (what.ExitBegun 0) ∷ event (what.Emit 5) ∷ ended ∷ event (what.EndingExit 5) ∷ []) ≡ false
it_exits_directly = refl

another_thread_has_not_ended : refuses AfterEnd.allows (event (what.ExitBegun 0) ∷ ended ∷ event (what.EndingExit 5) ∷ created ∷ []) ≡ true
another_thread_has_not_ended = refl

it_calls_no_read : refuses AfterEnd.allows (event (what.Called 25) ∷ event (what.ExitBegun 7) ∷ []) ≡ true
it_calls_no_read = refl

-- the other threads of its process go on
others_call_read : each AfterEnd.allows (other (what.Called 25) ∷ event (what.ExitBegun 7) ∷ created ∷ []) ≡ true
others_call_read = refl

-- ---- values that are left

-- the end of its thread follows, and then events of any kind
left : each (follows is_leftover reports_end) (event (what.ExitBegun 0) ∷ ended ∷ event (what.Leftover 2) ∷ event (what.EndingExit 5) ∷ []) ≡ true
left = refl

-- also in each of two threads
left_by_two : each (follows is_leftover reports_end) (other (what.EndedWith 6) ∷ other (what.Leftover 1) ∷ ended ∷ event (what.Leftover 2) ∷ []) ≡ true
left_by_two = refl

an_end_follows : newest_passes is_leftover (event (what.Leftover 2) ∷ event (what.EndingExit 5) ∷ []) ≡ true
an_end_follows = refl

not_another_event : each (follows is_leftover reports_end) (event (what.Emit 5) ∷ event (what.Leftover 2) ∷ []) ≡ false
not_another_event = refl

directly : each (follows is_leftover reports_end) (ended ∷ event (what.Emit 5) ∷ event (what.Leftover 2) ∷ []) ≡ false
directly = refl

values_are_left_once : each (follows is_leftover reports_end) (ended ∷ event (what.Leftover 2) ∷ event (what.Leftover 2) ∷ []) ≡ false
values_are_left_once = refl

the_end_is_that_of_its_thread : each (follows is_leftover reports_end) (other (what.EndedWith 5) ∷ event (what.Leftover 2) ∷ []) ≡ false
the_end_is_that_of_its_thread = refl

in_its_process : each (follows is_leftover reports_end) (replica (what.EndedWith 5) ∷ event (what.Leftover 2) ∷ fork ∷ []) ≡ false
in_its_process = refl
