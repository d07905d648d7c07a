-- Lists of events that one law of events alone refuses, each with the name of the sentence that it breaks, so that none of these laws follows
-- from the others. But for one: the law of handlers that ran follows from two others, and the list that it refuses here is also refused by
-- one of them. No such list breaks the sentence that a thread that has ended joins none: the law of what follows an end refuses it, too. The
-- lists are newest first.
use Rattle.pct_names.proofs.Names.{◌++◌, [], Bool, cond_timedwait_point, cond_wait_point, Event, false, join_point, List, map, point_kind}
use Rattle.pct_names.proofs.Names.{points, refl, replicate, sem_timedwait_point, sem_wait_point, testcancel_point, true, waitpid_point}
use Rattle.pct_names.proofs.Names.{What, ◌∷◌, ◌≡◌}
use Rattle.pct_model.specs.declared.event.Caller.TheVariants as caller
use Rattle.pct_model.specs.declared.event.What.TheVariants as what
use Rattle.pct_model.specs.declared.stop.Why.TheVariants as why
use Rattle.pct_laws.specs.AfterEnd as AfterEnd
use Rattle.pct_laws.specs.CondLaw as CondLaw
use Rattle.pct_laws.specs.Each.{each}
use Rattle.pct_laws.specs.JoinLaw as JoinLaw
use Rattle.pct_laws.specs.KeysLaw as KeysLaw
use Rattle.pct_laws.specs.Ends.{is_leftover}
use Rattle.pct_laws.specs.FollowedEvents.{are_followed}
use Rattle.pct_laws.specs.KnownThreads.{reports_end}
use Rattle.pct_laws.specs.Once as Once
use Rattle.pct_laws.specs.OnceLaw as OnceLaw
use Rattle.pct_laws.specs.ProcessLaw as ProcessLaw
use Rattle.pct_laws.specs.RanAll as RanAll
use Rattle.pct_laws.specs.RequestsLaw as RequestsLaw
use Rattle.pct_laws.specs.SlotLaw as SlotLaw

-- ---- the laws

-- the laws of the events of a run
data Law : Type 0 where
  Handlers : Law
  AllRan : Law
  AfterEnds : Law
  KeysOfEvents : Law
  ValuesLeft : Law
  Requests : Law
  Joins : Law
  Conds : Law
  Controls : Law
  Slots : Law
  Processes : Law

abbrev laws : List Law
laws = Handlers ∷ AllRan ∷ AfterEnds ∷ KeysOfEvents ∷ ValuesLeft ∷ Requests ∷ Joins ∷ Conds ∷ Controls ∷ Slots ∷ Processes ∷ []

-- the events keep the law
abbrev keeps : List Event → Law → Bool
keeps events Handlers = each (Once.allows 4) events
keeps events AllRan = each RanAll.allows events
keeps events AfterEnds = each AfterEnd.allows events
keeps events KeysOfEvents = each KeysLaw.allows events
keeps events ValuesLeft = are_followed is_leftover reports_end events
keeps events Requests = each RequestsLaw.allows events
keeps events Joins = each JoinLaw.allows events
keeps events Conds = each CondLaw.allows events
keeps events Controls = each OnceLaw.allows events
keeps events Slots = each (SlotLaw.allows 64) events
keeps events Processes = each ProcessLaw.allows events

-- whether they keep each law, if they keep each but these
abbrev but : Law → List Bool
but Handlers = false ∷ replicate 10 true
but AllRan = true ∷ false ∷ replicate 9 true
but AfterEnds = replicate 2 true ++ false ∷ replicate 8 true
but KeysOfEvents = replicate 3 true ++ false ∷ replicate 7 true
but ValuesLeft = replicate 4 true ++ false ∷ replicate 6 true
but Requests = replicate 5 true ++ false ∷ replicate 5 true
but Joins = replicate 6 true ++ false ∷ replicate 4 true
but Conds = replicate 7 true ++ false ∷ replicate 3 true
but Controls = replicate 8 true ++ false ∷ replicate 2 true
but Slots = replicate 9 true ++ false ∷ true ∷ []
but Processes = replicate 10 true ++ false ∷ []

-- the events keep each law but one
abbrev OnlyRefuses : Law → List Event → Type 0
OnlyRefuses law events = map (keeps events) laws ≡ but law

-- an event of thread 1 of process 1, of its thread 2, and of the replica of thread 1 in process 2
abbrev event : What → Event
event w = record { pid = 1; tid = 1; what = w }

abbrev other : What → Event
other w = record { pid = 1; tid = 2; what = w }

abbrev replica : What → Event
replica w = record { pid = 2; tid = 1; what = w }

-- ---- handlers and destructors

-- a handler is popped that was not pushed
popped_without_a_push : OnlyRefuses Handlers (event (what.Popped 1 10 true) ∷ [])
popped_without_a_push = refl

-- the destructor of a key is called that was not made
destructor_without_a_key : OnlyRefuses KeysOfEvents (event (what.DtorRun 1 1 4 7) ∷ event (what.PassBegun 1) ∷ event (what.EndingExit 5) ∷ [])
destructor_without_a_key = refl

-- a destructor is called with NULL
destroyed_with_NULL : OnlyRefuses KeysOfEvents (event (what.DtorRun 1 1 4 0) ∷ event (what.PassBegun 1) ∷ event (what.EndingExit 5) ∷ event (what.KeyMade 1) ∷ [])
destroyed_with_NULL = refl

-- values are left after the last pass, and the thread does not end
values_left_without_an_end : OnlyRefuses ValuesLeft (event (what.Emit 5) ∷ event (what.Leftover 2) ∷ event (what.PassBegun 4) ∷ event (what.PassBegun 3) ∷ event (what.PassBegun 2) ∷ event (what.PassBegun 1) ∷ event (what.EndingExit 5) ∷ [])
values_left_without_an_end = refl

-- ---- what follows an end

-- a thread that has ended pushes a handler
pushed_after_its_end : OnlyRefuses AfterEnds (event (what.Pushed 1 10) ∷ event (what.EndedWith 5) ∷ event (what.EndingExit 5) ∷ [])
pushed_after_its_end = refl

-- it emits
emits_after_its_end : OnlyRefuses AfterEnds (event (what.Emit 5) ∷ event (what.EndedWith 5) ∷ event (what.EndingExit 5) ∷ [])
emits_after_its_end = refl

-- it exits the process, and thread 2 has not ended
exits_before_another_ends : OnlyRefuses AfterEnds (event (what.ExitBegun 0) ∷ event (what.EndedWith 5) ∷ event (what.EndingExit 5) ∷ event (what.Created 2 false) ∷ [])
exits_before_another_ends = refl

-- a thread that exits its process pushes a handler
pushed_while_it_exits : OnlyRefuses AfterEnds (event (what.Pushed 1 10) ∷ event (what.ExitBegun 7) ∷ [])
pushed_while_it_exits = refl

-- it calls read
calls_while_it_exits : OnlyRefuses AfterEnds (event (what.Called 25) ∷ event (what.ExitBegun 7) ∷ [])
calls_while_it_exits = refl

-- ---- requests

-- a thread is canceled without a request
canceled_without_a_request : OnlyRefuses Requests (event what.EndingCanceled ∷ [])
canceled_without_a_request = refl

-- it is canceled with its cancelability disabled
canceled_while_disabled : OnlyRefuses Requests (event what.EndingCanceled ∷ event (what.Request 1) ∷ event (what.StateSet false) ∷ [])
canceled_while_disabled = refl

-- it leaves a condition wait, and is in none
leaves_no_wait : OnlyRefuses Requests (event (what.WaitCanceled 1) ∷ event (what.Request 1) ∷ [])
leaves_no_wait = refl

-- it begins to end in one
ends_in_no_wait : OnlyRefuses Requests (event (what.EndingInWait 1 0) ∷ event (what.Request 1) ∷ [])
ends_in_no_wait = refl

-- it calls read with a request to act upon
called_with_a_request : OnlyRefuses Requests (event (what.Called 25) ∷ event (what.Request 1) ∷ [])
called_with_a_request = refl

-- it returns from pthread_testcancel
tested_with_a_request : OnlyRefuses Requests (event (what.Done testcancel_point) ∷ event (what.Request 1) ∷ [])
tested_with_a_request = refl

-- it finds in waitpid that there is no child
no_child_with_a_request : OnlyRefuses Requests (event (what.Answer caller.WaitPid 3) ∷ event (what.Request 1) ∷ [])
no_child_with_a_request = refl

-- it returns from read without a call
returned_without_a_call : OnlyRefuses Requests (event (what.Done 25) ∷ [])
unfolding points point_kind
returned_without_a_call = refl

-- it returns from pthread_cond_wait without a wait
waited_without_a_wait : OnlyRefuses Requests (event (what.Done cond_wait_point) ∷ [])
waited_without_a_wait = refl

-- it returns from pthread_join, and joins no thread, and from sem_wait, and takes nothing
returned_without_a_join : OnlyRefuses Requests (event (what.Done join_point) ∷ event (what.Called join_point) ∷ [])
returned_without_a_join = refl

returned_without_a_take : OnlyRefuses Requests (event (what.Done sem_wait_point) ∷ event (what.Called sem_wait_point) ∷ [])
returned_without_a_take = refl

-- it takes a semaphore without a call of sem_wait
taken_without_a_call : OnlyRefuses Requests (event (what.Taken 0) ∷ [])
taken_without_a_call = refl

-- sem_timedwait times out without a call, and after one of sem_wait
timed_out_without_a_call : OnlyRefuses Requests (event (what.Answer caller.SemTimedWait 4) ∷ [])
timed_out_without_a_call = refl

timed_out_without_a_time : OnlyRefuses Requests (event (what.Answer caller.SemTimedWait 4) ∷ event (what.Called sem_wait_point) ∷ [])
timed_out_without_a_time = refl

-- it returns from sem_timedwait, and neither takes anything nor times out
returned_in_time_without_a_take : OnlyRefuses Requests (event (what.Done sem_timedwait_point) ∷ event (what.Called sem_timedwait_point) ∷ [])
returned_in_time_without_a_take = refl

-- the time of a condition wait expires, and it is in none; and pthread_cond_timedwait times out without a wait
expired_without_a_wait : OnlyRefuses Requests (event (what.WaitExpired 1) ∷ [])
expired_without_a_wait = refl

timed_out_without_a_wait : OnlyRefuses Requests (event (what.Answer caller.CondTimedWait 4) ∷ [])
timed_out_without_a_wait = refl

-- it reaps a child without a call of waitpid
reaped_without_a_call : OnlyRefuses Requests (event (what.Reaped 2 5) ∷ replica (what.ProcessEnded 5) ∷ event (what.Forked 2) ∷ [])
reaped_without_a_call = refl

-- it enables its cancelability after it began to end
enabled_after_it_began_to_end : OnlyRefuses Requests (event (what.StateSet true) ∷ event (what.EndingExit 5) ∷ [])
enabled_after_it_began_to_end = refl

-- ---- joins, mutexes, once controls, slots

-- a request names a thread that is not known
requested_without_a_thread : OnlyRefuses Joins (event (what.Request 2) ∷ [])
requested_without_a_thread = refl

-- a mutex is released that its thread does not own
released_without_an_owner : OnlyRefuses Conds (event (what.Released 0) ∷ [])
released_without_an_owner = refl

-- a wait whose time expired returns another error
timed_out_with_another_error : OnlyRefuses Conds (event (what.Answer caller.CondTimedWait 3) ∷ event (what.Acquired 0) ∷ event (what.WaitExpired 1) ∷ event (what.Released 0) ∷ event (what.Called cond_timedwait_point) ∷ event (what.Acquired 0) ∷ [])
timed_out_with_another_error = refl

-- a wait with a time returns by the name of one without
returned_by_another_name : OnlyRefuses Conds (event (what.Done cond_wait_point) ∷ event (what.Acquired 0) ∷ event (what.Released 0) ∷ event (what.Called cond_timedwait_point) ∷ event (what.Acquired 0) ∷ [])
returned_by_another_name = refl

-- an init routine is called while it runs, and once it has returned
called_while_it_runs : OnlyRefuses Controls (event (what.OnceCalled 0) ∷ event (what.OnceCalled 0) ∷ [])
called_while_it_runs = refl

called_once_it_has_returned : OnlyRefuses Controls (event (what.OnceCalled 0) ∷ event (what.OnceDone 0) ∷ event (what.OnceCalled 0) ∷ [])
called_once_it_has_returned = refl

-- it returns in another thread, after its thread began to end, and twice
returned_in_another_thread : OnlyRefuses Controls (other (what.OnceDone 0) ∷ event (what.OnceCalled 0) ∷ event (what.Created 2 false) ∷ [])
returned_in_another_thread = refl

returned_after_it_was_given_up : OnlyRefuses Controls (event (what.OnceDone 0) ∷ event (what.EndingExit 5) ∷ event (what.OnceCalled 0) ∷ [])
returned_after_it_was_given_up = refl

returned_twice : OnlyRefuses Controls (event (what.OnceDone 0) ∷ event (what.OnceDone 0) ∷ event (what.OnceCalled 0) ∷ [])
returned_twice = refl

-- a thread is created with the id of the initial thread
created_again : OnlyRefuses Slots (event (what.Created 1 false) ∷ [])
created_again = refl

-- ---- processes

-- a thread goes on after the end of its process
emits_after_the_end_of_its_process : OnlyRefuses Processes (event (what.Emit 5) ∷ event (what.ProcessEnded 0) ∷ [])
emits_after_the_end_of_its_process = refl

-- the run goes on after a stop
emits_after_a_stop : OnlyRefuses Processes (event (what.Emit 5) ∷ event (what.Stopped why.ThreadId) ∷ [])
emits_after_a_stop = refl

-- an event is one of a thread that was not created
emits_unknown : OnlyRefuses Processes (other (what.Emit 5) ∷ [])
emits_unknown = refl

-- exit begins twice
exits_twice : OnlyRefuses Processes (other (what.ExitBegun 7) ∷ event (what.ExitBegun 7) ∷ event (what.Created 2 false) ∷ [])
exits_twice = refl

-- the status of a process has nine bits
ended_with_9_bits : OnlyRefuses Processes (event (what.ProcessEnded 256) ∷ [])
ended_with_9_bits = refl

-- the status is not that of exit
ended_with_another_value : OnlyRefuses Processes (event (what.ProcessEnded 2) ∷ event (what.ExitBegun 257) ∷ [])
ended_with_another_value = refl

-- a process is made twice
forked_twice : OnlyRefuses Processes (event (what.Forked 2) ∷ event (what.Forked 2) ∷ [])
forked_twice = refl

-- a process is reaped that was not made
reaped_without_a_child : OnlyRefuses Processes (event (what.Reaped 2 5) ∷ event (what.Called waitpid_point) ∷ [])
reaped_without_a_child = refl

-- a child is reaped that has not ended
reaped_before_its_end : OnlyRefuses Processes (event (what.Reaped 2 5) ∷ event (what.Called waitpid_point) ∷ event (what.Forked 2) ∷ [])
reaped_before_its_end = refl

-- a child is reaped twice
reaped_twice : OnlyRefuses Processes (event (what.Reaped 2 5) ∷ event (what.Called waitpid_point) ∷ event (what.Reaped 2 5) ∷ event (what.Called waitpid_point) ∷ replica (what.ProcessEnded 5) ∷ event (what.Forked 2) ∷ [])
reaped_twice = refl

-- ---- the law of handlers that ran

-- thread 1 of process 2 pushes a handler and begins to end before process 2 is made; the fork takes the handler away, so none is open at its
-- end. With a process that has events before the fork, the laws but that of processes do not give that the handler ran
abbrev made_too_late : List Event
made_too_late = replica (what.EndedWith 0) ∷ event (what.Forked 2) ∷ replica (what.EndingExit 0) ∷ replica (what.Pushed 1 10) ∷ []

made_too_late_is_refused : map (keeps made_too_late) laws ≡ true ∷ false ∷ replicate 8 true ++ false ∷ []
made_too_late_is_refused = refl
