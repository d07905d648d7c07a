-- The choices and transitions of mutexes, condition variables and semaphores, by status: each cause, with the mutex free and owned, with a
-- request and without; those of once controls, by the state of the control; and states that no run reaches.
use Rattle.pct_names.proofs.Names.{[], acts, acts_on_request, after_transition, Alt, Asynchronous, broadcasts, Busy, calls_once, Cause}
use Rattle.pct_names.proofs.Names.{choices_at, choices_of, Disable, ends_by_exit, ends_sem_wait, environment_of, exits, expires, flat_map}
use Rattle.pct_names.proofs.Names.{Format, Fresh, goes_on, leaves_routine, List, map, new_shared, NextStatement, no_change, None, OnceState}
use Rattle.pct_names.proofs.Names.{posts, reacquires, refl, replicate, SharedState, Some, StatementIn, Status, Thread, Transition, true}
use Rattle.pct_names.proofs.Names.{ℕ, ◌∷◌, ◌≡◌}
use Rattle.pct_model.specs.declared.event.Caller.TheVariants as caller
use Rattle.pct_model.specs.declared.event.What.TheVariants as what
use Rattle.pct_model.specs.declared.schedule.Alt.TheVariants as alt
use Rattle.pct_model.specs.declared.schedule.Format.TheVariants as format
use Rattle.pct_model.specs.declared.state.Cause.TheVariants as cause
use Rattle.pct_model.specs.declared.state.OnceState.TheVariants.{Done}
use Rattle.pct_model.specs.declared.state.Status.TheVariants as status
use Rattle.pct_model.specs.declared.statement.Dest.TheVariants as destination
use Rattle.pct_model.specs.declared.statement.Stmt.TheVariants as statement
use Rattle.pct_model.specs.declared.transition.NamedAction.TheVariants as named_action
use Rattle.pct_model.specs.declared.transition.OwnAction.TheVariants as own_action
use Rattle.pct_model.specs.declared.transition.SharedAction.TheVariants as shared_action
use Rattle.pct_rows.proofs.OnLiterals.{runs_on_literals}
use Rattle.pct_rows.proofs.ExampleScripts.{smallest}
use Rattle.pct_rows.proofs.ChoiceRows.{config, start, ready, in_status, process, state_of, nobody, choices_before}

-- mutex 0 has this owner; semaphore 0 has the count 0, semaphore 1 the count 1
abbrev shared : ℕ → SharedState
shared owner = record (new_shared smallest) { owners = owner ∷ []; counts = 0 ∷ 1 ∷ [] }

-- threads 6 and 3, of which 6 is on the lower slot, wait on condition variable 1, and thread 4 on another one; in a run all that wait
-- on one have the same mutex
abbrev waiters : List Thread
waiters = in_status 3 (status.Waiting 1 5) ∷ in_status 4 (status.Waiting 2 0) ∷ in_status 6 (status.Waiting 1 0) ∷ []

-- ---- choices of suspended threads

-- the choices of thread 1 with a status among other threads, where mutex 0 has this owner: without a request, with one, and with one
-- while cancelability is disabled
abbrev choices : List Thread → Status → ℕ → List (List Alt)
choices others s owner = map (choices_of smallest config (state_of []) (record (process 1 (in_status 1 s ∷ others)) { shared = shared owner })) (in_status 1 s ∷ record (in_status 1 s) { pending = true } ∷ record (in_status 1 s) { pending = true; state = Disable } ∷ [])

-- a thread that was unblocked from a wait on condition variable 1 with mutex 0, which has no owner, or thread 2 owns it
abbrev unblocked_choices : List Thread → Cause → List (List (List Alt))
unblocked_choices others why = map (choices others (status.Reacquire 1 0 why)) (0 ∷ 2 ∷ [])

-- by a signal: another thread that waits gets the signal
signalled : unblocked_choices waiters cause.Signalled ≡ ((alt.Go ∷ []) ∷ (alt.Go ∷ alt.Act 6 ∷ alt.Act 3 ∷ []) ∷ (alt.Go ∷ []) ∷ []) ∷ ([] ∷ (alt.Act 6 ∷ alt.Act 3 ∷ []) ∷ [] ∷ []) ∷ []
unfolding runs_on_literals
signalled = refl

-- where no other thread waits
signalled_alone : unblocked_choices [] cause.Signalled ≡ ((alt.Go ∷ []) ∷ (alt.Go ∷ alt.Act 0 ∷ []) ∷ (alt.Go ∷ []) ∷ []) ∷ ([] ∷ (alt.Act 0 ∷ []) ∷ [] ∷ []) ∷ []
unfolding runs_on_literals
signalled_alone = refl

-- by a broadcast: no signal is handed on
woken_by_a_broadcast : unblocked_choices waiters cause.Broadcast ≡ ((alt.Go ∷ []) ∷ (alt.Go ∷ alt.Act 0 ∷ []) ∷ (alt.Go ∷ []) ∷ []) ∷ ([] ∷ (alt.Act 0 ∷ []) ∷ [] ∷ []) ∷ []
unfolding runs_on_literals
woken_by_a_broadcast = refl

-- by a request: it is not acted upon twice
canceled : unblocked_choices waiters cause.Canceled ≡ ((alt.Go ∷ []) ∷ (alt.Go ∷ []) ∷ (alt.Go ∷ []) ∷ []) ∷ ([] ∷ [] ∷ [] ∷ []) ∷ []
unfolding runs_on_literals
canceled = refl

-- a thread that waits has no other choice than to act upon a request; in sem_wait it goes on at a count above 0
suspended : map (λ s. choices waiters s 0) (status.Waiting 1 0 ∷ status.InSem 0 ∷ status.InSem 1 ∷ []) ≡ ([] ∷ (alt.Act 0 ∷ []) ∷ [] ∷ []) ∷ ([] ∷ (alt.Act 0 ∷ []) ∷ [] ∷ []) ∷ ((alt.Go ∷ []) ∷ (alt.Go ∷ alt.Act 0 ∷ []) ∷ (alt.Go ∷ []) ∷ []) ∷ []
unfolding runs_on_literals
suspended = refl

-- ---- choices in waits with a time

-- a wait on condition variable 1 with mutex 0, and one for a semaphore, with a time and without one
abbrev timed_wait : NextStatement
timed_wait = StatementIn start (statement.CondTimedWait (destination.Local 3) 1 0)

abbrev untimed_wait : NextStatement
untimed_wait = StatementIn start (statement.CondWait 1 0)

abbrev timed_sem_wait : ℕ → NextStatement
timed_sem_wait s = StatementIn start (statement.SemTimedWait (destination.Local 3) s)

abbrev untimed_sem_wait : ℕ → NextStatement
untimed_sem_wait s = StatementIn start (statement.SemWait s)

-- the choices of thread 1 in a wait, among the threads that wait, where mutex 0 has this owner, in a run with texts of a format: without a
-- request, with one, and with one while cancelability is disabled
abbrev choices_in : Format → ℕ → NextStatement → Status → List (List Alt)
choices_in f owner next s = map (λ t. choices_at [] (shared owner) t (environment_of (record config { format = f }) (state_of []) (process 1 waiters) 1) next s) (in_status 1 s ∷ record (in_status 1 s) { pending = true } ∷ record (in_status 1 s) { pending = true; state = Disable } ∷ [])

-- the time of a wait on a condition variable may expire at any moment, in format 2 alone; then it is before `act`
expires_in_format_2 : map (λ f. choices_in f 0 timed_wait (status.Waiting 1 0)) (format.Two ∷ format.One ∷ []) ≡ ((alt.Expire ∷ []) ∷ (alt.Expire ∷ alt.Act 0 ∷ []) ∷ (alt.Expire ∷ []) ∷ []) ∷ ([] ∷ (alt.Act 0 ∷ []) ∷ [] ∷ []) ∷ []
unfolding runs_on_literals
expires_in_format_2 = refl

-- at a count of 0 that of a wait for a semaphore may; at a greater one the thread goes on
expires_at_0 : map (λ s. choices_in format.Two 0 (timed_sem_wait s) (status.InSem s)) (0 ∷ 1 ∷ []) ≡ ((alt.Expire ∷ []) ∷ (alt.Expire ∷ alt.Act 0 ∷ []) ∷ (alt.Expire ∷ []) ∷ []) ∷ ((alt.Go ∷ []) ∷ (alt.Go ∷ alt.Act 0 ∷ []) ∷ (alt.Go ∷ []) ∷ []) ∷ []
unfolding runs_on_literals
expires_at_0 = refl

not_in_format_1 : map (λ s. choices_in format.One 0 (timed_sem_wait s) (status.InSem s)) (0 ∷ 1 ∷ []) ≡ ([] ∷ (alt.Act 0 ∷ []) ∷ [] ∷ []) ∷ ((alt.Go ∷ []) ∷ (alt.Go ∷ alt.Act 0 ∷ []) ∷ (alt.Go ∷ []) ∷ []) ∷ []
unfolding runs_on_literals
not_in_format_1 = refl

-- a wait without a time does not expire
without_a_time : choices_in format.Two 0 untimed_wait (status.Waiting 1 0) ∷ choices_in format.Two 0 (untimed_sem_wait 0) (status.InSem 0) ∷ [] ≡ ([] ∷ (alt.Act 0 ∷ []) ∷ [] ∷ []) ∷ ([] ∷ (alt.Act 0 ∷ []) ∷ [] ∷ []) ∷ []
unfolding runs_on_literals
without_a_time = refl

-- a thread whose time expired goes on once the mutex has no owner; it expires once, and hands no signal on
after_its_time : map (λ owner. choices_in format.Two owner timed_wait (status.Reacquire 1 0 cause.TimedOut)) (0 ∷ 2 ∷ []) ≡ ((alt.Go ∷ []) ∷ (alt.Go ∷ alt.Act 0 ∷ []) ∷ (alt.Go ∷ []) ∷ []) ∷ ([] ∷ (alt.Act 0 ∷ []) ∷ [] ∷ []) ∷ []
unfolding runs_on_literals
after_its_time = refl

-- neither does one that a signal unblocked expire
after_a_signal : map (λ owner. choices_in format.Two owner timed_wait (status.Reacquire 1 0 cause.Signalled)) (0 ∷ 2 ∷ []) ≡ ((alt.Go ∷ []) ∷ (alt.Go ∷ alt.Act 6 ∷ alt.Act 3 ∷ []) ∷ (alt.Go ∷ []) ∷ []) ∷ ([] ∷ (alt.Act 6 ∷ alt.Act 3 ∷ []) ∷ [] ∷ []) ∷ []
unfolding runs_on_literals
after_a_signal = refl

-- ---- choices of running threads

-- the choices of a thread at pthread_mutex_lock of mutex 0: without an owner, owned by the thread itself, and by another one
abbrev lock_choices : Thread → List (List Alt)
lock_choices t = map (λ owner. choices_before (shared owner) t nobody (statement.Lock 0)) (0 ∷ 1 ∷ 2 ∷ [])

-- the call is no cancellation point: with a request, and with none
at_a_lock : map lock_choices (ready 1 ∷ record (ready 1) { pending = true } ∷ []) ≡ ((alt.Go ∷ []) ∷ [] ∷ [] ∷ []) ∷ ((alt.Go ∷ []) ∷ [] ∷ [] ∷ []) ∷ []
unfolding runs_on_literals
at_a_lock = refl

-- with asynchronous cancelability `go` is the stop, whoever owns the mutex; but not while cancelability is disabled
asynchronous_at_a_lock : map (λ t. lock_choices (record t { mode = Asynchronous })) (ready 1 ∷ record (ready 1) { pending = true } ∷ record (ready 1) { state = Disable } ∷ []) ≡ ((alt.Go ∷ []) ∷ (alt.Go ∷ []) ∷ (alt.Go ∷ []) ∷ []) ∷ ((alt.Go ∷ alt.Act 0 ∷ []) ∷ (alt.Go ∷ alt.Act 0 ∷ []) ∷ (alt.Go ∷ alt.Act 0 ∷ []) ∷ []) ∷ ((alt.Go ∷ []) ∷ [] ∷ [] ∷ []) ∷ []
unfolding runs_on_literals
asynchronous_at_a_lock = refl

-- the choices of a thread at pthread_once of a control that is fresh, busy with thread 1, busy with thread 2, and done
abbrev once_choices : Thread → List (List Alt)
once_choices t = map (λ state. choices_before (record (shared 0) { onces = state ∷ [] }) t nobody (statement.CallOnce 0 0)) (Fresh ∷ Busy 1 ∷ Busy 2 ∷ Done ∷ [])

-- the thread itself is no exception, and the call is no cancellation point: with a request, and with none
at_a_once : map once_choices (ready 1 ∷ record (ready 1) { pending = true } ∷ []) ≡ replicate 2 ((alt.Go ∷ []) ∷ [] ∷ [] ∷ (alt.Go ∷ []) ∷ [])
unfolding runs_on_literals
at_a_once = refl

-- with asynchronous cancelability `go` is the stop
asynchronous_at_a_once : once_choices (record (ready 1) { mode = Asynchronous }) ≡ replicate 4 (alt.Go ∷ [])
unfolding runs_on_literals
asynchronous_at_a_once = refl

-- a signal unblocks one of the threads that wait on its condition variable
at_a_signal : map (λ c. choices_before (shared 0) (ready 1) (environment_of config (state_of []) (process 1 waiters) 1) (statement.Signal c)) (1 ∷ 2 ∷ 3 ∷ []) ≡ (alt.Pick 6 ∷ alt.Pick 3 ∷ []) ∷ (alt.Pick 4 ∷ []) ∷ (alt.Go ∷ []) ∷ []
unfolding runs_on_literals
at_a_signal = refl

-- ---- transitions

-- a thread leaves its wait, as it acts upon a request
abbrev left : Transition
left = record (acts (what.WaitCanceled 1 ∷ [])) { own = Some (own_action.SetStatus (status.Reacquire 1 0 cause.Canceled)) }

-- a thread that acts upon a request in a wait hands on a signal, if a signal unblocked it
acts_in_a_wait : map (acts_on_request 3) (status.Waiting 1 0 ∷ status.Reacquire 1 0 cause.Signalled ∷ status.Reacquire 1 0 cause.Broadcast ∷ status.Reacquire 1 0 cause.TimedOut ∷ status.Reacquire 1 0 cause.Canceled ∷ []) ≡ left ∷ record left { named = Some (named_action.Wake 3); events = what.WaitCanceled 1 ∷ what.HandedOn 1 3 ∷ [] } ∷ left ∷ left ∷ no_change ∷ []
unfolding runs_on_literals
acts_in_a_wait = refl

-- the time of a wait expires: the thread goes for the mutex
its_time_expires : expires 1 0 ≡ record (acts (what.WaitExpired 1 ∷ [])) { own = Some (own_action.SetStatus (status.Reacquire 1 0 cause.TimedOut)) }
unfolding runs_on_literals
its_time_expires = refl

-- a thread owns the mutex again as it returns: with ETIMEDOUT if its time expired, and else with 0
abbrev returns : ℕ → Transition
returns number = record (goes_on 1 []) { writes = (destination.Local 3, number) ∷ []; shared = Some (shared_action.OwnMutex 0 7) }

returns_from_a_wait : map (λ why. reacquires 7 1 0 why timed_wait) (cause.Signalled ∷ cause.Broadcast ∷ cause.TimedOut ∷ []) ≡ record (returns 0) { events = what.Acquired 0 ∷ what.Done 20 ∷ [] } ∷ record (returns 0) { events = what.Acquired 0 ∷ what.Done 20 ∷ [] } ∷ record (returns 4) { events = what.Acquired 0 ∷ what.Answer caller.CondTimedWait 4 ∷ [] } ∷ []
unfolding runs_on_literals
returns_from_a_wait = refl

-- a wait for a semaphore returns 0 and takes it; if its time expires it returns ETIMEDOUT, and the count stays
returns_from_sem_timedwait : map (λ choice. ends_sem_wait choice 1 5 (timed_sem_wait 1)) (alt.Go ∷ alt.Expire ∷ []) ≡ record (goes_on 1 (what.Taken 1 ∷ [])) { writes = (destination.Local 3, 0) ∷ []; shared = Some (shared_action.SetCount 1 4) } ∷ record (goes_on 1 (what.Answer caller.SemTimedWait 4 ∷ [])) { writes = (destination.Local 3, 4) ∷ [] } ∷ []
unfolding runs_on_literals
returns_from_sem_timedwait = refl

-- the statuses in two processes after a transition of thread 1 of the first
abbrev statuses_after : Transition → List Status
statuses_after o = flat_map (λ p. map (λ t. t.status) p.threads) (after_transition 1 1 o (record { processes = process 1 (in_status 1 (status.Reacquire 1 0 cause.Signalled) ∷ waiters) ∷ process 2 (in_status 3 (status.Waiting 1 0) ∷ []) ∷ []; stop = None })).processes

-- the thread that gets the signal has its own mutex to acquire
after_a_hand_on : statuses_after (acts_on_request 3 (status.Reacquire 1 0 cause.Signalled)) ≡ status.Reacquire 1 0 cause.Canceled ∷ status.Reacquire 1 5 cause.Signalled ∷ status.Waiting 2 0 ∷ status.Waiting 1 0 ∷ status.Waiting 1 0 ∷ []
unfolding runs_on_literals
after_a_hand_on = refl

-- a time that expires unblocks nobody else
after_its_time_expired : statuses_after (expires 1 0) ≡ status.Reacquire 1 0 cause.TimedOut ∷ status.Waiting 1 5 ∷ status.Waiting 2 0 ∷ status.Waiting 1 0 ∷ status.Waiting 1 0 ∷ []
unfolding runs_on_literals
after_its_time_expired = refl

-- a broadcast unblocks all threads of its process that wait on its condition variable
after_a_broadcast : statuses_after (broadcasts 7 1 2) ≡ status.Running ∷ status.Reacquire 1 5 cause.Broadcast ∷ status.Waiting 2 0 ∷ status.Reacquire 1 0 cause.Broadcast ∷ status.Waiting 1 0 ∷ []
unfolding runs_on_literals
after_a_broadcast = refl

-- a count is a number of 32 bits: the greatest is followed by 0
the_greatest_count : posts 7 0 4294967295 ≡ record (goes_on 7 (what.Posted 0 ∷ [])) { shared = Some (shared_action.SetCount 0 0) }
unfolding runs_on_literals
the_greatest_count = refl

-- the once controls of two processes after a transition of thread 1 of the first
abbrev onces_after_step : Transition → List (List OnceState)
onces_after_step o = map (λ p. p.shared.onces) (after_transition 1 1 o (state_of (map (λ pid. record (process pid (ready 1 ∷ [])) { shared = record (shared 0) { onces = Fresh ∷ Busy 1 ∷ Busy 2 ∷ Done ∷ [] } }) (1 ∷ 2 ∷ [])))).processes

-- a call makes its control busy with the thread, and a return of the routine makes it done; as the thread begins to end, by a request or by
-- pthread_exit, its controls are fresh; and an exit leaves them, as the call of one that is done does
once_controls : map onces_after_step (calls_once 1 0 0 1 Fresh ∷ leaves_routine 1 ∷ acts_on_request 0 status.Running ∷ ends_by_exit 5 ∷ exits 5 ∷ calls_once 1 3 0 1 Done ∷ []) ≡ map (λ onces. onces ∷ (Fresh ∷ Busy 1 ∷ Busy 2 ∷ Done ∷ []) ∷ []) ((Busy 1 ∷ Busy 1 ∷ Busy 2 ∷ Done ∷ []) ∷ (Fresh ∷ Done ∷ Busy 2 ∷ Done ∷ []) ∷ (Fresh ∷ Fresh ∷ Busy 2 ∷ Done ∷ []) ∷ (Fresh ∷ Fresh ∷ Busy 2 ∷ Done ∷ []) ∷ (Fresh ∷ Busy 1 ∷ Busy 2 ∷ Done ∷ []) ∷ (Fresh ∷ Busy 1 ∷ Busy 2 ∷ Done ∷ []) ∷ [])
unfolding runs_on_literals
once_controls = refl
