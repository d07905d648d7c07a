-- Lists of events that keep the law of cleanup handlers and destructors with a limit of four passes, and lists that do not, each with
-- the name of the sentence that it breaks. They are listed newest first.
use Rattle.pct_names.proofs.Names.{[], Bool, Event, false, List, refl, true, What, ◌∷◌, ◌≡◌}
use Rattle.pct_model.specs.declared.event.What.TheVariants as what
use Rattle.pct_laws.specs.Each.{each}
use Rattle.pct_rows.proofs.Refusals.{refuses}
use Rattle.pct_laws.specs.Once.{allows}

-- the events keep the law
abbrev keeps : List Event → Bool
keeps events = each (allows 4) events

-- they do not: the newest is refused
abbrev refused : List Event → Bool
refused events = refuses (allows 4) events

-- an event of thread 1 of process 1
abbrev of : What → Event
of w = record { pid = 1; tid = 1; what = w }

-- the thread pushes 1 with 10 and then 2 with 20, and calls pthread_exit with 5
abbrev pushed : List Event
pushed = of (what.Pushed 2 20) ∷ of (what.Pushed 1 10) ∷ []

abbrev begun : List Event
begun = of (what.EndingExit 5) ∷ pushed

-- ---- handlers that a pop removes

-- before the ending event, and in a handler that runs after it
popped_in_order : keeps (of (what.Popped 1 10 true) ∷ of (what.Popped 2 20 false) ∷ pushed) ≡ true
popped_in_order = refl

pushed_within : keeps (of (what.EndedWith 5) ∷ of (what.HandlerRun 1 10) ∷ of (what.Popped 3 30 true) ∷ of (what.Pushed 3 30) ∷ of (what.HandlerRun 2 20) ∷ begun) ≡ true
pushed_within = refl

a_pop_removes_the_newest : refused (of (what.Popped 1 10 true) ∷ pushed) ≡ true
a_pop_removes_the_newest = refl

no_handler_is_popped_twice : refused (of (what.Popped 1 10 true) ∷ of (what.Popped 1 10 true) ∷ of (what.Pushed 1 10) ∷ []) ≡ true
no_handler_is_popped_twice = refl

a_handler_that_ran_is_not_popped : refused (of (what.Popped 2 20 true) ∷ of (what.HandlerRun 2 20) ∷ begun) ≡ true
a_handler_that_ran_is_not_popped = refl

after_the_ending_event_a_pop_removes_one_pushed_since : refused (of (what.Popped 2 20 true) ∷ begun) ≡ true
after_the_ending_event_a_pop_removes_one_pushed_since = refl

-- ---- handlers that run as the thread ends

-- both run, the newest first
all_run : keeps (of (what.EndedWith 5) ∷ of (what.HandlerRun 1 10) ∷ of (what.HandlerRun 2 20) ∷ begun) ≡ true
all_run = refl

the_newest_runs_first : refused (of (what.HandlerRun 1 10) ∷ begun) ≡ true
the_newest_runs_first = refl

no_handler_runs_twice : refused (of (what.HandlerRun 2 20) ∷ of (what.HandlerRun 2 20) ∷ begun) ≡ true
no_handler_runs_twice = refl

a_handler_that_was_popped_does_not_run : refused (of (what.HandlerRun 1 10) ∷ of (what.EndingExit 5) ∷ of (what.Popped 1 10 true) ∷ of (what.Pushed 1 10) ∷ []) ≡ true
a_handler_that_was_popped_does_not_run = refl

handlers_run_after_the_ending_event : refused (of (what.HandlerRun 1 10) ∷ of (what.Pushed 1 10) ∷ []) ≡ true
handlers_run_after_the_ending_event = refl

a_handler_that_a_handler_pushed_is_popped : refused (of (what.HandlerRun 3 30) ∷ of (what.Pushed 3 30) ∷ of (what.HandlerRun 2 20) ∷ begun) ≡ true
a_handler_that_a_handler_pushed_is_popped = refl

-- ---- ending events, and the end

-- the value of a thread that acts upon a request is PTHREAD_CANCELED
canceled : keeps (of (what.EndedWith 4294967295) ∷ of what.EndingCanceled ∷ []) ≡ true
canceled = refl

and_not_0 : refused (of (what.EndedWith 0) ∷ of what.EndingCanceled ∷ []) ≡ true
and_not_0 = refl

pthread_exit_begins_no_second_end : refused (of (what.EndingExit 6) ∷ begun) ≡ true
pthread_exit_begins_no_second_end = refl

a_request_begins_no_second_end : refused (of what.EndingCanceled ∷ begun) ≡ true
a_request_begins_no_second_end = refl

a_request_in_a_wait_begins_no_second_end : refused (of (what.EndingInWait 0 0) ∷ of what.EndingCanceled ∷ []) ≡ true
a_request_in_a_wait_begins_no_second_end = refl

a_thread_ends_after_its_ending_event : refused (of (what.EndedWith 0) ∷ []) ≡ true
a_thread_ends_after_its_ending_event = refl

a_thread_ends_once : refused (of (what.EndedWith 5) ∷ of (what.EndedWith 5) ∷ of (what.EndingExit 5) ∷ []) ≡ true
a_thread_ends_once = refl

a_thread_ends_with_no_open_handler : refused (of (what.EndedWith 5) ∷ of (what.HandlerRun 2 20) ∷ begun) ≡ true
a_thread_ends_with_no_open_handler = refl

a_thread_ends_with_the_value_of_pthread_exit : refused (of (what.EndedWith 4) ∷ of (what.EndingExit 5) ∷ []) ≡ true
a_thread_ends_with_the_value_of_pthread_exit = refl

a_canceled_thread_ends_with_PTHREAD_CANCELED : refused (of (what.EndedWith 0) ∷ of what.EndingCanceled ∷ []) ≡ true
a_canceled_thread_ends_with_PTHREAD_CANCELED = refl

-- ---- destructors

-- the thread ends with 5, and begins its first pass over destructors
abbrev in_pass : List Event
in_pass = of (what.PassBegun 1) ∷ of (what.EndingExit 5) ∷ []

-- all passes have begun
abbrev in_last_pass : List Event
in_last_pass = of (what.PassBegun 4) ∷ of (what.PassBegun 3) ∷ of (what.PassBegun 2) ∷ in_pass

-- two destructors in a pass, and one of them again in the next
destructors_run : keeps (of (what.DtorRun 2 1 0 9) ∷ of (what.PassBegun 2) ∷ of (what.DtorRun 1 2 0 8) ∷ of (what.DtorRun 1 1 0 7) ∷ in_pass) ≡ true
destructors_run = refl

-- the last pass, and two values that it leaves
values_left : keeps (of (what.EndedWith 5) ∷ of (what.Leftover 2) ∷ in_last_pass) ≡ true
values_left = refl

a_pass_begins_after_the_ending_event : refused (of (what.PassBegun 1) ∷ []) ≡ true
a_pass_begins_after_the_ending_event = refl

a_pass_begins_with_no_open_handler : refused (of (what.PassBegun 1) ∷ begun) ≡ true
a_pass_begins_with_no_open_handler = refl

passes_are_numbered_from_1 : refused (of (what.PassBegun 0) ∷ of (what.EndingExit 5) ∷ []) ≡ true
passes_are_numbered_from_1 = refl

no_pass_is_left_out : refused (of (what.PassBegun 3) ∷ in_pass) ≡ true
no_pass_is_left_out = refl

passes_have_a_limit : refused (of (what.PassBegun 5) ∷ in_last_pass) ≡ true
passes_have_a_limit = refl

a_destructor_is_called_in_the_current_pass : refused (of (what.DtorRun 1 2 0 7) ∷ of (what.PassBegun 2) ∷ in_pass) ≡ true
a_destructor_is_called_in_the_current_pass = refl

no_destructor_is_called_before_the_first_pass : refused (of (what.DtorRun 0 1 0 7) ∷ of (what.EndingExit 5) ∷ []) ≡ true
no_destructor_is_called_before_the_first_pass = refl

a_destructor_is_called_with_no_open_handler : refused (of (what.DtorRun 1 2 0 8) ∷ of (what.Pushed 1 10) ∷ of (what.DtorRun 1 1 0 7) ∷ in_pass) ≡ true
a_destructor_is_called_with_no_open_handler = refl

no_destructor_is_called_twice_in_a_pass : refused (of (what.DtorRun 1 1 0 8) ∷ of (what.DtorRun 1 1 0 7) ∷ in_pass) ≡ true
no_destructor_is_called_twice_in_a_pass = refl

values_are_left_after_the_last_pass : refused (of (what.Leftover 1) ∷ in_pass) ≡ true
values_are_left_after_the_last_pass = refl

values_that_are_left_are_more_than_none : refused (of (what.Leftover 0) ∷ in_last_pass) ≡ true
values_that_are_left_are_more_than_none = refl

-- ---- replicas that fork makes

-- a replica has the open handlers of the thread that called fork
replica_pops : keeps (record { pid = 2; tid = 1; what = what.Popped 2 20 false } ∷ of (what.Forked 2) ∷ of (what.Pushed 2 20) ∷ []) ≡ true
replica_pops = refl

-- and what its own events tell beside them: its ending event is its only one, whatever the thread that called fork has
replica_ends : keeps (record { pid = 2; tid = 1; what = what.EndingCanceled } ∷ of what.EndingCanceled ∷ of (what.Forked 2) ∷ []) ≡ true
replica_ends = refl

a_replica_has_one_ending_event : refused (record { pid = 2; tid = 1; what = what.EndingExit 5 } ∷ record { pid = 2; tid = 1; what = what.EndingCanceled } ∷ of (what.Forked 2) ∷ []) ≡ true
a_replica_has_one_ending_event = refl

a_replica_pops_no_handler_pushed_after_the_fork : refused (record { pid = 2; tid = 1; what = what.Popped 2 20 false } ∷ of (what.Pushed 2 20) ∷ of (what.Forked 2) ∷ []) ≡ true
a_replica_pops_no_handler_pushed_after_the_fork = refl
