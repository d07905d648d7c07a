-- Lists of events that keep the law of cancellation, and lists that do not, each with the name of the sentence that it breaks; they are
-- listed newest first. Where nothing else is said, the events are those of thread 1 of process 1, whose thread 2 makes requests.
use Rattle.pct_names.proofs.Names.{[], Bool, cond_timedwait_point, cond_wait_point, Event, false, join_point, List, point_kind, points}
use Rattle.pct_names.proofs.Names.{refl, sem_timedwait_point, sem_wait_point, testcancel_point, true, waitpid_point, What, ℕ, ◌∷◌, ◌≡◌}
use Rattle.pct_model.specs.declared.event.Caller.TheVariants as caller
use Rattle.pct_model.specs.declared.event.What.TheVariants as what
use Rattle.pct_laws.specs.CancelEvents.{is_asynchronous_last}
use Rattle.pct_laws.specs.Each.{each}
use Rattle.pct_laws.specs.RequestsLaw.{allows}
use Rattle.pct_rows.proofs.Refusals.{refuses}

-- the events keep the law
abbrev keeps : List Event → Bool
keeps events = each allows events

-- they do not: the newest is refused
abbrev refused : List Event → Bool
refused events = refuses allows events

-- an event of thread 1 of process 1, of its thread 2, and of the replica of thread 1 in process 2
abbrev event : What → Event
event w = record { pid = 1; tid = 1; what = w }

abbrev other : What → Event
other w = record { pid = 1; tid = 2; what = w }

abbrev replica : What → Event
replica w = record { pid = 2; tid = 1; what = w }

-- thread 2 requests the end of thread 1
abbrev request : Event
request = other (what.Request 1)

abbrev requested : List Event
requested = request ∷ []

-- thread 1 makes process 2
abbrev fork : Event
fork = event (what.Forked 2)

-- thread 1 disables its cancelability, and enables it
abbrev disables : Event
disables = event (what.StateSet false)

abbrev enables : Event
enables = event (what.StateSet true)

-- thread 1 waits on condition variable 1 with mutex 0, and thread 2 requests its end
abbrev in_a_wait : List Event
in_a_wait = event (what.Released 0) ∷ event (what.Called cond_wait_point) ∷ []

abbrev waits : List Event
waits = request ∷ in_a_wait

-- the same in a wait with a time, before it expired and after that
abbrev in_a_timed_wait : List Event
in_a_timed_wait = event (what.Released 0) ∷ event (what.Called cond_timedwait_point) ∷ []

abbrev after_its_time : List Event
after_its_time = event (what.WaitExpired 1) ∷ in_a_timed_wait

-- ---- a thread is canceled by a request

canceled : keeps (event what.EndingCanceled ∷ requested) ≡ true
canceled = refl

-- in the wait it owns the mutex again before it begins to end, and may hand on a signal
canceled_in_a_wait : keeps (event (what.EndingInWait 1 0) ∷ event (what.Acquired 0) ∷ event (what.WaitCanceled 1) ∷ waits) ≡ true
canceled_in_a_wait = refl

canceled_with_a_signal : keeps (event (what.EndingInWait 1 0) ∷ event (what.Acquired 0) ∷ event (what.HandedOn 1 3) ∷ event (what.WaitCanceled 1) ∷ waits) ≡ true
canceled_with_a_signal = refl

-- a thread may request its own end
canceled_by_itself : keeps (event what.EndingCanceled ∷ event (what.Request 1) ∷ []) ≡ true
canceled_by_itself = refl

-- in a child by a request in the child
canceled_in_a_child : keeps (replica what.EndingCanceled ∷ replica (what.Request 1) ∷ fork ∷ []) ≡ true
canceled_in_a_child = refl

without_a_request_no_thread_is_canceled : refused (event what.EndingCanceled ∷ []) ≡ true
without_a_request_no_thread_is_canceled = refl

nor_leaves_its_wait : refused (event (what.WaitCanceled 1) ∷ in_a_wait) ≡ true
nor_leaves_its_wait = refl

nor_ends_in_its_wait : allows (event (what.EndingInWait 1 0)) (event (what.Acquired 0) ∷ event (what.WaitCanceled 1) ∷ in_a_wait) ≡ false
nor_ends_in_its_wait = refl

nor_before_the_request : keeps (request ∷ event what.EndingCanceled ∷ []) ≡ false
nor_before_the_request = refl

a_request_is_for_one_thread : refused (other what.EndingCanceled ∷ requested) ≡ true
a_request_is_for_one_thread = refl

-- a fork passes no request on, and one in another process counts in neither direction
a_fork_clears_a_request : refused (replica what.EndingCanceled ∷ fork ∷ requested) ≡ true
a_fork_clears_a_request = refl

a_request_in_the_parent_is_none_in_the_child : refused (replica what.EndingCanceled ∷ request ∷ fork ∷ []) ≡ true
a_request_in_the_parent_is_none_in_the_child = refl

a_request_in_the_child_is_none_in_the_parent : refused (event what.EndingCanceled ∷ replica (what.Request 1) ∷ fork ∷ []) ≡ true
a_request_in_the_child_is_none_in_the_parent = refl

-- ---- with cancelability enabled

-- the newest call counts, and a request is held pending meanwhile
enabled_again : keeps (event what.EndingCanceled ∷ enables ∷ request ∷ disables ∷ []) ≡ true
enabled_again = refl

-- a replica has the state of its thread, and then its own
enabled_in_the_child : keeps (replica what.EndingCanceled ∷ replica (what.Request 1) ∷ replica (what.StateSet true) ∷ fork ∷ disables ∷ []) ≡ true
enabled_in_the_child = refl

disabled_in_the_parent_later : keeps (replica what.EndingCanceled ∷ replica (what.Request 1) ∷ disables ∷ fork ∷ []) ≡ true
disabled_in_the_parent_later = refl

a_disabled_thread_is_not_canceled : refused (event what.EndingCanceled ∷ request ∷ disables ∷ []) ≡ true
a_disabled_thread_is_not_canceled = refl

nor_leaves_it_its_wait : refused (event (what.WaitCanceled 1) ∷ request ∷ event (what.Released 0) ∷ event (what.Called cond_wait_point) ∷ disables ∷ []) ≡ true
nor_leaves_it_its_wait = refl

nor_ends_it_in_its_wait : allows (event (what.EndingInWait 1 0)) (event (what.Acquired 0) ∷ event (what.WaitCanceled 1) ∷ request ∷ event (what.Released 0) ∷ event (what.Called cond_wait_point) ∷ disables ∷ []) ≡ false
nor_ends_it_in_its_wait = refl

the_newest_call_counts : refused (event what.EndingCanceled ∷ request ∷ disables ∷ enables ∷ []) ≡ true
the_newest_call_counts = refl

another_thread_enables_its_own_cancelability : refused (event what.EndingCanceled ∷ request ∷ other (what.StateSet true) ∷ disables ∷ []) ≡ true
another_thread_enables_its_own_cancelability = refl

a_replica_has_the_state_of_its_thread : refused (replica what.EndingCanceled ∷ replica (what.Request 1) ∷ fork ∷ disables ∷ []) ≡ true
a_replica_has_the_state_of_its_thread = refl

and_keeps_it_when_the_thread_enables : refused (replica what.EndingCanceled ∷ replica (what.Request 1) ∷ enables ∷ fork ∷ disables ∷ []) ≡ true
and_keeps_it_when_the_thread_enables = refl

-- it is disabled once the thread begins to end, by each of the ending events, or to exit its process
a_thread_that_ends_is_not_canceled : refused (event what.EndingCanceled ∷ event (what.EndingExit 5) ∷ requested) ≡ true
a_thread_that_ends_is_not_canceled = refl

nor_is_one_that_was_canceled : refused (event what.EndingCanceled ∷ event what.EndingCanceled ∷ requested) ≡ true
nor_is_one_that_was_canceled = refl

nor_one_that_was_canceled_in_a_wait : allows (event what.EndingCanceled) (event (what.EndingInWait 1 0) ∷ requested) ≡ false
nor_one_that_was_canceled_in_a_wait = refl

nor_one_that_exits_its_process : refused (event what.EndingCanceled ∷ event (what.ExitBegun 5) ∷ requested) ≡ true
nor_one_that_exits_its_process = refl

-- such a thread does not enable it again; it may disable it, and another thread may enable its own
it_does_not_enable_it : refused (enables ∷ event (what.EndingExit 5) ∷ []) ≡ true
it_does_not_enable_it = refl

nor_after_a_request : refused (enables ∷ event what.EndingCanceled ∷ requested) ≡ true
nor_after_a_request = refl

nor_as_it_exits_its_process : refused (enables ∷ event (what.ExitBegun 5) ∷ []) ≡ true
nor_as_it_exits_its_process = refl

it_disables_it : keeps (disables ∷ event (what.EndingExit 5) ∷ []) ≡ true
it_disables_it = refl

another_enables_its_own : keeps (other (what.StateSet true) ∷ event (what.EndingExit 5) ∷ []) ≡ true
another_enables_its_own = refl

-- ---- condition waits

a_wait_is_left_in_a_wait : refused (event (what.WaitCanceled 1) ∷ requested) ≡ true
a_wait_is_left_in_a_wait = refl

before_the_mutex_is_owned : refused (event (what.WaitCanceled 1) ∷ event (what.Acquired 0) ∷ waits) ≡ true
before_the_mutex_is_owned = refl

and_once : refused (event (what.WaitCanceled 1) ∷ event (what.WaitCanceled 1) ∷ waits) ≡ true
and_once = refl

a_thread_ends_in_a_wait_that_it_leaves : refused (event (what.EndingInWait 1 0) ∷ event (what.Acquired 0) ∷ waits) ≡ true
a_thread_ends_in_a_wait_that_it_leaves = refl

it_ends_in_a_wait_alone : refused (event (what.EndingInWait 1 0) ∷ requested) ≡ true
it_ends_in_a_wait_alone = refl

with_its_mutex_owned : refused (event (what.EndingInWait 1 0) ∷ event (what.WaitCanceled 1) ∷ waits) ≡ true
with_its_mutex_owned = refl

-- ---- waits with a time

canceled_in_time : keeps (event (what.EndingInWait 1 0) ∷ event (what.Acquired 0) ∷ event (what.WaitCanceled 1) ∷ request ∷ in_a_timed_wait) ≡ true
canceled_in_time = refl

-- a thread whose time expired may still be canceled, also by a request from before that
canceled_after_its_time : keeps (event (what.EndingInWait 1 0) ∷ event (what.Acquired 0) ∷ event (what.WaitCanceled 1) ∷ request ∷ after_its_time) ≡ true
canceled_after_its_time = refl

requested_before_that : keeps (event (what.EndingInWait 1 0) ∷ event (what.Acquired 0) ∷ event (what.WaitCanceled 1) ∷ event (what.WaitExpired 1) ∷ request ∷ in_a_timed_wait) ≡ true
requested_before_that = refl

-- or it returns, with a request to act upon
timed_out_with_a_request : keeps (event (what.Answer caller.CondTimedWait 4) ∷ event (what.Acquired 0) ∷ request ∷ after_its_time) ≡ true
timed_out_with_a_request = refl

without_a_request_it_is_not_left : refused (event (what.WaitCanceled 1) ∷ after_its_time) ≡ true
without_a_request_it_is_not_left = refl

a_wait_without_a_time_does_not_expire : refused (event (what.WaitExpired 1) ∷ in_a_wait) ≡ true
a_wait_without_a_time_does_not_expire = refl

only_a_wait_expires : refused (event (what.WaitExpired 1) ∷ []) ≡ true
only_a_wait_expires = refl

before_its_mutex_is_owned : refused (event (what.WaitExpired 1) ∷ event (what.Acquired 0) ∷ in_a_timed_wait) ≡ true
before_its_mutex_is_owned = refl

and_before_it_is_left : refused (event (what.WaitExpired 1) ∷ event (what.WaitCanceled 1) ∷ request ∷ in_a_timed_wait) ≡ true
and_before_it_is_left = refl

it_expires_once : refused (event (what.WaitExpired 1) ∷ after_its_time) ≡ true
it_expires_once = refl

-- ---- with a request to act upon

-- without a request, with cancelability disabled, and by another thread, points are called
calls : keeps (event (what.Done testcancel_point) ∷ event (what.Called 25) ∷ []) ≡ true
calls = refl

calls_while_disabled : keeps (event (what.Done testcancel_point) ∷ event (what.Called 25) ∷ request ∷ disables ∷ []) ≡ true
calls_while_disabled = refl

calls_of_another : keeps (other (what.Done testcancel_point) ∷ other (what.Called 25) ∷ requested) ≡ true
calls_of_another = refl

-- the replica has no request to act upon
calls_in_the_child : keeps (replica (what.Done testcancel_point) ∷ replica (what.Called 25) ∷ fork ∷ requested) ≡ true
calls_in_the_child = refl

-- a point that was called before the request may return, and so may a function that may be a cancellation point
returns : keeps (event (what.Done 25) ∷ request ∷ event (what.Called 25) ∷ []) ≡ true
unfolding points point_kind
returns = refl

waitpid_returns : keeps (event (what.Answer caller.WaitPid 3) ∷ request ∷ event (what.Called waitpid_point) ∷ []) ≡ true
waitpid_returns = refl

waitpid_returns_without_a_request : keeps (event (what.Answer caller.WaitPid 3) ∷ []) ≡ true
waitpid_returns_without_a_request = refl

no_point_is_called_with_a_request : refused (event (what.Called 25) ∷ requested) ≡ true
no_point_is_called_with_a_request = refl

once_cancelability_is_enabled_again : refused (event (what.Called 25) ∷ enables ∷ request ∷ disables ∷ []) ≡ true
once_cancelability_is_enabled_again = refl

nor_in_a_child : refused (replica (what.Called 25) ∷ replica (what.Request 1) ∷ fork ∷ []) ≡ true
nor_in_a_child = refl

pthread_testcancel_does_not_return_with_a_request : refused (event (what.Done testcancel_point) ∷ requested) ≡ true
pthread_testcancel_does_not_return_with_a_request = refl

-- without a call of waitpid, or with another event of the thread since then
waitpid_finds_no_child_before_it_acts : refused (event (what.Answer caller.WaitPid 3) ∷ requested) ≡ true
waitpid_finds_no_child_before_it_acts = refl

waitpid_is_called_before_the_request : refused (event (what.Answer caller.WaitPid 3) ∷ event (what.Emit 5) ∷ request ∷ event (what.Called waitpid_point) ∷ []) ≡ true
waitpid_is_called_before_the_request = refl

-- ---- calls and returns

abbrev read_point : ℕ
read_point = 25

-- fclose, which may be a cancellation point
abbrev optional_point : ℕ
optional_point = 47

-- read, sem_wait, waitpid and pthread_cond_wait return after their calls
returned : keeps (event (what.Done read_point) ∷ event (what.Called read_point) ∷ []) ≡ true
unfolding points point_kind
returned = refl

taken : keeps (event (what.Taken 0) ∷ event (what.Called sem_wait_point) ∷ []) ≡ true
taken = refl

reaped : keeps (event (what.Reaped 2 5) ∷ replica (what.ProcessEnded 5) ∷ event (what.Called waitpid_point) ∷ fork ∷ []) ≡ true
reaped = refl

waited : keeps (event (what.Done cond_wait_point) ∷ event (what.Acquired 0) ∷ in_a_wait) ≡ true
unfolding points point_kind
waited = refl

-- sem_timedwait takes the semaphore or times out; pthread_cond_timedwait returns, or times out
taken_in_time : keeps (event (what.Taken 0) ∷ event (what.Called sem_timedwait_point) ∷ []) ≡ true
taken_in_time = refl

not_taken_in_time : keeps (event (what.Answer caller.SemTimedWait 4) ∷ event (what.Called sem_timedwait_point) ∷ []) ≡ true
not_taken_in_time = refl

waited_in_time : keeps (event (what.Done cond_timedwait_point) ∷ event (what.Acquired 0) ∷ in_a_timed_wait) ≡ true
unfolding points point_kind
waited_in_time = refl

timed_out : keeps (event (what.Answer caller.CondTimedWait 4) ∷ event (what.Acquired 0) ∷ after_its_time) ≡ true
timed_out = refl

-- a function that may be a cancellation point has no event of its call
may_be_a_point : keeps (event (what.Done optional_point) ∷ []) ≡ true
unfolding points point_kind
may_be_a_point = refl

read_returns_after_its_call : refused (event (what.Done read_point) ∷ []) ≡ true
unfolding points point_kind
read_returns_after_its_call = refl

after_its_own : refused (event (what.Done read_point) ∷ event (what.Called waitpid_point) ∷ []) ≡ true
unfolding points point_kind
after_its_own = refl

a_call_returns_once : refused (event (what.Done read_point) ∷ event (what.Done read_point) ∷ event (what.Called read_point) ∷ []) ≡ true
unfolding points point_kind
a_call_returns_once = refl

sem_wait_is_called_before_a_take : refused (event (what.Taken 0) ∷ []) ≡ true
sem_wait_is_called_before_a_take = refl

sem_timedwait_is_called_before_it_times_out : refused (event (what.Answer caller.SemTimedWait 4) ∷ []) ≡ true
sem_timedwait_is_called_before_it_times_out = refl

-- the newest event of the thread is the call
it_times_out_once : refused (event (what.Answer caller.SemTimedWait 4) ∷ event (what.Answer caller.SemTimedWait 4) ∷ event (what.Called sem_timedwait_point) ∷ []) ≡ true
it_times_out_once = refl

sem_wait_does_not_time_out : refused (event (what.Answer caller.SemTimedWait 4) ∷ event (what.Called sem_wait_point) ∷ []) ≡ true
sem_wait_does_not_time_out = refl

waitpid_is_called_before_a_reap : refused (event (what.Reaped 2 5) ∷ replica (what.ProcessEnded 5) ∷ fork ∷ []) ≡ true
waitpid_is_called_before_a_reap = refl

pthread_cond_wait_returns_with_its_mutex : refused (event (what.Done cond_wait_point) ∷ in_a_wait) ≡ true
pthread_cond_wait_returns_with_its_mutex = refl

and_after_its_call : refused (event (what.Done cond_wait_point) ∷ event (what.Acquired 0) ∷ []) ≡ true
and_after_its_call = refl

pthread_cond_timedwait_returns_with_its_mutex : refused (event (what.Done cond_timedwait_point) ∷ in_a_timed_wait) ≡ true
pthread_cond_timedwait_returns_with_its_mutex = refl

without_an_error_only_in_time : refused (event (what.Done cond_timedwait_point) ∷ event (what.Acquired 0) ∷ after_its_time) ≡ true
without_an_error_only_in_time = refl

with_the_error_only_after_its_time : refused (event (what.Answer caller.CondTimedWait 4) ∷ event (what.Acquired 0) ∷ in_a_timed_wait) ≡ true
with_the_error_only_after_its_time = refl

and_with_its_mutex : refused (event (what.Answer caller.CondTimedWait 4) ∷ after_its_time) ≡ true
and_with_its_mutex = refl

and_after_a_wait : refused (event (what.Answer caller.CondTimedWait 4) ∷ event (what.Acquired 0) ∷ []) ≡ true
and_after_a_wait = refl

-- pthread_join, sem_wait, sem_timedwait and waitpid return by a join, a take, an error and a reap alone
a_join_is_no_other_return : refused (event (what.Done join_point) ∷ event (what.Called join_point) ∷ []) ≡ true
a_join_is_no_other_return = refl

nor_is_a_take : refused (event (what.Done sem_wait_point) ∷ event (what.Called sem_wait_point) ∷ []) ≡ true
nor_is_a_take = refl

nor_is_one_in_time : refused (event (what.Done sem_timedwait_point) ∷ event (what.Called sem_timedwait_point) ∷ []) ≡ true
nor_is_one_in_time = refl

nor_is_a_reap : refused (event (what.Done waitpid_point) ∷ event (what.Called waitpid_point) ∷ []) ≡ true
nor_is_a_reap = refl

-- ---- types, as the events report them

-- deferred at first; the newest call counts; a replica has the type of its thread, and keeps it
types : is_asynchronous_last 1 1 [] ∷ is_asynchronous_last 1 1 (event (what.ModeSet true) ∷ []) ∷ is_asynchronous_last 1 1 (event (what.ModeSet false) ∷ event (what.ModeSet true) ∷ []) ∷ is_asynchronous_last 1 2 (event (what.ModeSet true) ∷ []) ∷ is_asynchronous_last 2 1 (event (what.ModeSet false) ∷ fork ∷ event (what.ModeSet true) ∷ []) ∷ is_asynchronous_last 2 1 (event (what.ModeSet true) ∷ fork ∷ []) ∷ [] ≡ false ∷ true ∷ false ∷ false ∷ true ∷ false ∷ []
types = refl
