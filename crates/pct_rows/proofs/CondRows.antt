-- Lists of events that keep the law of mutexes and condition waits, and lists that do not, each with the name of the sentence that it
-- breaks. They are listed newest first. Where nothing else is said, threads are those of process 1, and the wait is that of thread 2 on
-- condition variable 1 with mutex 0; 5 is another condition variable or mutex.
use Rattle.pct_names.proofs.Names.{[], Bool, cond_timedwait_point, cond_wait_point, Event, false, List, map, refl, true, What, ℕ, ◌∷◌, ◌≡◌}
use Rattle.pct_model.specs.declared.event.Caller.TheVariants as caller
use Rattle.pct_model.specs.declared.event.What.TheVariants as what
use Rattle.pct_laws.specs.Each.{each}
use Rattle.pct_rows.proofs.Refusals.{refuses}
use Rattle.pct_laws.specs.CondLaw.{allows}
use Rattle.pct_laws.specs.Kept.{is_leaving}
use Rattle.pct_laws.specs.declared.stage.WaitStage.TheVariants.{NoWait, AtCall, InWait, ToReturn, Expired, ToTimeOut, Leaving, Left, ToEnd}
use Rattle.pct_laws.specs.WaitStages.{wait_stage}

-- the events keep the law
abbrev keeps : List Event → Bool
keeps events = each allows events

-- they do not: the newest is refused
abbrev refused : List Event → Bool
refused events = refuses allows events

-- an event of a thread of process 1, and of thread 2 of process 2
abbrev event : ℕ → What → Event
event tid w = record { pid = 1; tid = tid; what = w }

abbrev elsewhere : What → Event
elsewhere w = record { pid = 2; tid = 2; what = w }

-- thread 2 owns the mutex
abbrev owned : List Event
owned = event 2 (what.Acquired 0) ∷ []

-- its wait has begun after these events; it acted upon a request in it; and it owns the mutex again
abbrev waiting_after : List Event → List Event
waiting_after earlier = event 2 (what.Released 0) ∷ event 2 (what.Called cond_wait_point) ∷ earlier

abbrev waiting : List Event
waiting = waiting_after owned

abbrev left : List Event
left = event 2 (what.WaitCanceled 1) ∷ waiting

abbrev returned : List Event
returned = event 2 (what.Done cond_wait_point) ∷ event 2 (what.Acquired 0) ∷ waiting

-- ---- owners

-- another thread owns the mutex in turn, or another mutex at the same time
owned_in_turn : keeps (event 3 (what.Acquired 0) ∷ event 2 (what.Released 0) ∷ event 3 (what.Acquired 5) ∷ owned) ≡ true
owned_in_turn = refl

an_owned_mutex_is_not_acquired : refused (event 3 (what.Acquired 0) ∷ owned) ≡ true
an_owned_mutex_is_not_acquired = refl

nor_by_its_owner : refused (event 2 (what.Acquired 0) ∷ owned) ≡ true
nor_by_its_owner = refl

nor_after_the_end_of_its_owner : refused (event 3 (what.Acquired 0) ∷ event 2 (what.EndedWith 5) ∷ event 2 (what.EndingExit 5) ∷ owned) ≡ true
nor_after_the_end_of_its_owner = refl

a_mutex_is_released_by_its_owner : refused (event 3 (what.Released 0) ∷ owned) ≡ true
a_mutex_is_released_by_its_owner = refl

a_mutex_without_an_owner_is_not_released : refused (event 2 (what.Released 5) ∷ owned) ≡ true
a_mutex_without_an_owner_is_not_released = refl

a_mutex_is_released_once : refused (event 2 (what.Released 0) ∷ event 2 (what.Released 0) ∷ owned) ≡ true
a_mutex_is_released_once = refl

-- ---- owners in a new process

-- the replica of the owner releases the mutex in its own process, and the owner in the other one
released_in_both : keeps (event 2 (what.Released 0) ∷ elsewhere (what.Released 0) ∷ event 2 (what.Forked 2) ∷ owned) ≡ true
released_in_both = refl

a_new_process_has_the_owners_of_its_parent : refused (elsewhere (what.Acquired 0) ∷ event 2 (what.Forked 2) ∷ event 3 (what.Acquired 0) ∷ []) ≡ true
a_new_process_has_the_owners_of_its_parent = refl

and_keeps_them_when_the_parent_releases : refused (elsewhere (what.Acquired 0) ∷ event 3 (what.Released 0) ∷ event 2 (what.Forked 2) ∷ event 3 (what.Acquired 0) ∷ []) ≡ true
and_keeps_them_when_the_parent_releases = refl

-- ---- waits

-- two waits in a row: a signal ends the first, and a request the second
two_waits : keeps (event 2 (what.HandlerRun 1 10) ∷ event 2 (what.EndingInWait 1 0) ∷ event 2 (what.Acquired 0) ∷ event 2 (what.WaitCanceled 1) ∷ waiting_after returned) ≡ true
two_waits = refl

-- other threads go on meanwhile, and so does the one with the same id in another process
others_go_on : keeps (elsewhere (what.Emit 5) ∷ event 1 (what.Signalled 1 2) ∷ event 1 (what.Acquired 0) ∷ waiting) ≡ true
others_go_on = refl

-- the stages of a wait in which a signal is handed on
stages : map (λ events. wait_stage 1 2 events) (owned ∷ (event 2 (what.Called cond_wait_point) ∷ owned) ∷ waiting ∷ left ∷ (event 2 (what.HandedOn 1 3) ∷ left) ∷ (event 2 (what.Acquired 0) ∷ left) ∷ (event 2 (what.Acquired 0) ∷ waiting) ∷ returned ∷ []) ≡ NoWait ∷ AtCall false ∷ InWait false 0 ∷ Leaving false 1 0 ∷ Left false 1 0 ∷ ToEnd 1 0 ∷ ToReturn false ∷ NoWait ∷ []
stages = refl

a_wait_returns_with_its_mutex : refused (event 2 (what.Done cond_wait_point) ∷ waiting) ≡ true
a_wait_returns_with_its_mutex = refl

a_wait_acquires_its_own_mutex : refused (event 2 (what.Acquired 5) ∷ waiting) ≡ true
a_wait_acquires_its_own_mutex = refl

then_it_returns : refused (event 2 (what.Emit 5) ∷ event 2 (what.Acquired 0) ∷ waiting) ≡ true
then_it_returns = refl

a_blocked_thread_does_nothing : refused (event 2 (what.Emit 5) ∷ waiting) ≡ true
a_blocked_thread_does_nothing = refl

a_wait_ends_its_thread_by_a_request_alone : refused (event 2 (what.EndingInWait 1 0) ∷ event 2 (what.Acquired 0) ∷ waiting) ≡ true
a_wait_ends_its_thread_by_a_request_alone = refl

-- ---- waits that a request ends

a_canceled_wait_ends_with_its_mutex : refused (event 2 (what.EndingInWait 1 0) ∷ left) ≡ true
a_canceled_wait_ends_with_its_mutex = refl

also_after_a_signal_is_handed_on : refused (event 2 (what.EndingInWait 1 0) ∷ event 2 (what.HandedOn 1 3) ∷ left) ≡ true
also_after_a_signal_is_handed_on = refl

it_acquires_its_own_mutex : refused (event 2 (what.Acquired 5) ∷ left) ≡ true
it_acquires_its_own_mutex = refl

no_handler_runs_before_its_ending_event : refused (event 2 (what.HandlerRun 1 10) ∷ event 2 (what.Acquired 0) ∷ left) ≡ true
no_handler_runs_before_its_ending_event = refl

its_ending_event_names_its_condition_variable : refused (event 2 (what.EndingInWait 5 0) ∷ event 2 (what.Acquired 0) ∷ left) ≡ true
its_ending_event_names_its_condition_variable = refl

and_its_mutex : refused (event 2 (what.EndingInWait 1 5) ∷ event 2 (what.Acquired 0) ∷ left) ≡ true
and_its_mutex = refl

it_does_not_end_as_another_canceled_thread : refused (event 2 what.EndingCanceled ∷ event 2 (what.Acquired 0) ∷ left) ≡ true
it_does_not_end_as_another_canceled_thread = refl

it_does_not_return : refused (event 2 (what.Done cond_wait_point) ∷ event 2 (what.Acquired 0) ∷ left) ≡ true
it_does_not_return = refl

-- ---- waits with a time

-- the wait of thread 2 has a time; it expired; and the thread owns the mutex again after that
abbrev timed_after : List Event → List Event
timed_after earlier = event 2 (what.Released 0) ∷ event 2 (what.Called cond_timedwait_point) ∷ earlier

abbrev timed : List Event
timed = timed_after owned

abbrev expired_after : List Event → List Event
expired_after earlier = event 2 (what.WaitExpired 1) ∷ timed_after earlier

abbrev expired : List Event
expired = expired_after owned

abbrev answer : ℕ → Event
answer n = event 2 (what.Answer caller.CondTimedWait n)

abbrev timed_out : List Event
timed_out = answer 4 ∷ event 2 (what.Acquired 0) ∷ expired

-- it ends in one of five ways
in_time : keeps (event 2 (what.Done cond_timedwait_point) ∷ event 2 (what.Acquired 0) ∷ timed) ≡ true
in_time = refl

by_a_request : keeps (event 2 (what.EndingInWait 1 0) ∷ event 2 (what.Acquired 0) ∷ event 2 (what.WaitCanceled 1) ∷ timed) ≡ true
by_a_request = refl

by_a_request_with_a_signal : keeps (event 2 (what.EndingInWait 1 0) ∷ event 2 (what.Acquired 0) ∷ event 2 (what.HandedOn 1 3) ∷ event 2 (what.WaitCanceled 1) ∷ timed) ≡ true
by_a_request_with_a_signal = refl

as_its_time_expired : keeps timed_out ≡ true
as_its_time_expired = refl

by_a_request_after_its_time_expired : keeps (event 2 (what.EndingInWait 1 0) ∷ event 2 (what.Acquired 0) ∷ event 2 (what.WaitCanceled 1) ∷ expired) ≡ true
by_a_request_after_its_time_expired = refl

-- the time of one wait expires, and of the next one; other threads go on meanwhile
two_waits_with_a_time : keeps (answer 4 ∷ event 2 (what.Acquired 0) ∷ event 1 (what.Emit 5) ∷ elsewhere (what.Emit 5) ∷ expired_after timed_out) ≡ true
two_waits_with_a_time = refl

-- the stages of a wait whose time expires, and of others
stages_with_a_time : map (λ events. wait_stage 1 2 events) ((event 2 (what.Called cond_timedwait_point) ∷ owned) ∷ timed ∷ (event 2 (what.Acquired 0) ∷ timed) ∷ expired ∷ (event 2 (what.Acquired 0) ∷ expired) ∷ timed_out ∷ (event 2 (what.WaitCanceled 1) ∷ expired) ∷ (event 2 (what.Acquired 0) ∷ event 2 (what.WaitCanceled 1) ∷ expired) ∷ (event 2 (what.WaitCanceled 1) ∷ timed) ∷ []) ≡ AtCall true ∷ InWait true 0 ∷ ToReturn true ∷ Expired 1 0 ∷ ToTimeOut ∷ NoWait ∷ Left true 1 0 ∷ ToEnd 1 0 ∷ Leaving true 1 0 ∷ []
stages_with_a_time = refl

-- a wait that a request ended is told from one of the other kind, also if a signal was handed on, or its time had expired
told_apart : map (λ has_time. map (λ events. is_leaving has_time 1 0 (wait_stage 1 2 events)) (left ∷ (event 2 (what.HandedOn 1 3) ∷ left) ∷ (event 2 (what.WaitCanceled 1) ∷ timed) ∷ (event 2 (what.HandedOn 1 3) ∷ event 2 (what.WaitCanceled 1) ∷ timed) ∷ (event 2 (what.WaitCanceled 1) ∷ expired) ∷ [])) (false ∷ true ∷ []) ≡ (true ∷ true ∷ false ∷ false ∷ false ∷ []) ∷ (false ∷ false ∷ true ∷ true ∷ true ∷ []) ∷ []
told_apart = refl

-- and is the one on its condition variable, with its mutex
of_its_own_wait : is_leaving true 1 0 (wait_stage 1 2 (event 2 (what.WaitCanceled 1) ∷ expired)) ∷ is_leaving true 5 0 (wait_stage 1 2 (event 2 (what.WaitCanceled 1) ∷ expired)) ∷ is_leaving true 1 5 (wait_stage 1 2 (event 2 (what.WaitCanceled 1) ∷ expired)) ∷ [] ≡ true ∷ false ∷ false ∷ []
of_its_own_wait = refl

-- a wait without a time does not expire
stage_without_a_time : wait_stage 1 2 (event 2 (what.WaitExpired 1) ∷ waiting) ≡ NoWait
stage_without_a_time = refl

only_a_wait_with_a_time_expires : refused (event 2 (what.WaitExpired 1) ∷ waiting) ≡ true
only_a_wait_with_a_time_expires = refl

it_expires_once : refused (event 2 (what.WaitExpired 1) ∷ expired) ≡ true
it_expires_once = refl

not_after_the_mutex_is_owned : refused (event 2 (what.WaitExpired 1) ∷ event 2 (what.Acquired 0) ∷ timed) ≡ true
not_after_the_mutex_is_owned = refl

nor_after_it_is_left : refused (event 2 (what.WaitExpired 1) ∷ event 2 (what.WaitCanceled 1) ∷ timed) ≡ true
nor_after_it_is_left = refl

it_times_out_with_its_mutex : refused (answer 4 ∷ expired) ≡ true
it_times_out_with_its_mutex = refl

it_goes_for_its_own_mutex : refused (event 2 (what.Acquired 5) ∷ expired) ≡ true
it_goes_for_its_own_mutex = refl

it_times_out_after_its_time_expired : refused (answer 4 ∷ event 2 (what.Acquired 0) ∷ timed) ≡ true
it_times_out_after_its_time_expired = refl

it_does_not_return_0_then : refused (event 2 (what.Done cond_timedwait_point) ∷ event 2 (what.Acquired 0) ∷ expired) ≡ true
it_does_not_return_0_then = refl

nor_another_number : refused (answer 3 ∷ event 2 (what.Acquired 0) ∷ expired) ≡ true
nor_another_number = refl

nor_goes_on : refused (event 2 (what.Emit 5) ∷ event 2 (what.Acquired 0) ∷ expired) ≡ true
nor_goes_on = refl

a_thread_whose_time_expired_does_nothing : refused (event 2 (what.Emit 5) ∷ expired) ≡ true
a_thread_whose_time_expired_does_nothing = refl

a_wait_with_a_time_returns_by_its_own_name : refused (event 2 (what.Done cond_wait_point) ∷ event 2 (what.Acquired 0) ∷ timed) ≡ true
a_wait_with_a_time_returns_by_its_own_name = refl

and_one_without_by_its_own : refused (event 2 (what.Done cond_timedwait_point) ∷ event 2 (what.Acquired 0) ∷ waiting) ≡ true
and_one_without_by_its_own = refl

one_without_does_not_time_out : refused (answer 4 ∷ event 2 (what.Acquired 0) ∷ waiting) ≡ true
one_without_does_not_time_out = refl

-- a request that the thread acts upon after the time expired: no signal unblocked it, so it hands none on
no_signal_is_handed_on_then : refused (event 2 (what.HandedOn 1 3) ∷ event 2 (what.WaitCanceled 1) ∷ expired) ≡ true
no_signal_is_handed_on_then = refl

its_own_wait_is_left : refused (event 2 (what.WaitCanceled 5) ∷ expired) ≡ true
its_own_wait_is_left = refl

it_ends_with_its_mutex : refused (event 2 (what.EndingInWait 1 0) ∷ event 2 (what.WaitCanceled 1) ∷ expired) ≡ true
it_ends_with_its_mutex = refl

it_does_not_time_out_any_more : refused (answer 4 ∷ event 2 (what.Acquired 0) ∷ event 2 (what.WaitCanceled 1) ∷ expired) ≡ true
it_does_not_time_out_any_more = refl

without_a_request_it_does_not_end : refused (event 2 (what.EndingInWait 1 0) ∷ event 2 (what.Acquired 0) ∷ expired) ≡ true
without_a_request_it_does_not_end = refl

-- ---- signals that are handed on

handed_on : keeps (event 2 (what.EndingInWait 1 0) ∷ event 2 (what.Acquired 0) ∷ event 1 (what.Emit 5) ∷ event 2 (what.HandedOn 1 3) ∷ left) ≡ true
handed_on = refl

a_signal_is_handed_on_by_a_thread_that_acts_upon_a_request : refused (event 2 (what.HandedOn 1 3) ∷ owned) ≡ true
a_signal_is_handed_on_by_a_thread_that_acts_upon_a_request = refl

not_by_another_thread : refused (event 3 (what.HandedOn 1 4) ∷ left) ≡ true
not_by_another_thread = refl

directly_after_it_acted : refused (event 2 (what.HandedOn 1 3) ∷ event 1 (what.Emit 5) ∷ left) ≡ true
directly_after_it_acted = refl

of_its_own_condition_variable : refused (event 2 (what.HandedOn 5 3) ∷ left) ≡ true
of_its_own_condition_variable = refl

once : refused (event 2 (what.HandedOn 1 4) ∷ event 2 (what.HandedOn 1 3) ∷ left) ≡ true
once = refl
