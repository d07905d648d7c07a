-- The law of wake-ups: made steps that keep it, and made steps that do not. Each step that does not differs from one that does in one
-- thing, and has the name of the sentence that it breaks.
use Rattle.pct_names.proofs.Names.{[], ap, arith, Bool, Cause, cond_timedwait_point, cond_wait_point, Disable, false, Frame, length, List}
use Rattle.pct_names.proofs.Names.{new_frame, new_thread, NextStatement, None, Process, refl, Running, State, StatementIn, Status, Stmt}
use Rattle.pct_names.proofs.Names.{sym, Thread, true, What, ℕ, ◌∷◌, ◌≡◌, ◌≢◌}
use Rattle.std.proofs.lemmas.Bool.{true≢false}
use Rattle.pct_model.specs.declared.event.Caller.TheVariants as caller
use Rattle.pct_model.specs.declared.event.What.TheVariants as what
use Rattle.pct_model.specs.declared.state.Cause.TheVariants as cause
use Rattle.pct_model.specs.declared.state.FrameKind.TheVariants as kind
use Rattle.pct_model.specs.declared.state.Status.TheVariants as status
use Rattle.pct_model.specs.declared.statement.Dest.TheVariants as destination
use Rattle.pct_model.specs.declared.statement.Stmt.TheVariants as statement
use Rattle.pct_laws.specs.ThreadSteps.{ThreadStep}
use Rattle.pct_laws.specs.WakeLaw.{hands_its_signal_on, KeepsOther, KeepsOthers, may_become, names_waiters}

-- ---- steps

-- a thread with a status
abbrev thread : ℕ → Status → Thread
thread id st = record (new_thread id false (new_frame 0 0 kind.Start)) { status = st }

-- a process with these threads
abbrev process : List Thread → Process
process threads = record {
  pid = 1;
  parent = 0;
  ended = None;
  threads = threads;
  shared = record { globals = []; owners = []; counts = []; onces = []; keys = []; fork_handlers = []; exit_functions = []; exit_value = None; restricted = false };
}

-- the status of a thread that waits on condition variable c with mutex m, and of one that left this wait
abbrev waits : ℕ → ℕ → Status
waits c m = status.Waiting c m

abbrev goes_for : Cause → ℕ → ℕ → Status
goes_for why c m = status.Reacquire c m why

-- a step in which thread 1 comes from one status to another, with these events. Threads 2 and 3 wait on condition variable 5, with the
-- mutexes 7 and 8; after the step they are these
abbrev step_to : Status → Status → List What → Thread → Thread → ThreadStep
step_to before after events second third = record {
  pid = 1;
  tid = 1;
  earlier = [];
  process = process (thread 1 before ∷ thread 2 (waits 5 7) ∷ thread 3 (waits 5 8) ∷ []);
  before = thread 1 before;
  process_after = process (thread 1 after ∷ second ∷ third ∷ []);
  after = thread 1 after;
  events = events;
}

-- a step of a running thread that goes on
abbrev runs : List What → Thread → Thread → ThreadStep
runs events second third = step_to Running Running events second third

-- ---- whom an event names

-- the threads 2 and 3, and a thread that the process did not inherit
abbrev waiting : List Thread
waiting = thread 2 (waits 5 7) ∷ thread 3 (waits 5 8) ∷ record (thread 4 (waits 6 7)) { gone = true } ∷ []

a_signal_names_one_that_waits : names_waiters waiting (what.Signalled 5 3) ≡ true
a_signal_names_one_that_waits = refl

none_that_waits_elsewhere : names_waiters waiting (what.Signalled 6 3) ≡ false
none_that_waits_elsewhere = refl

nor_one_that_does_not_wait : names_waiters waiting (what.Signalled 5 1) ≡ false
nor_one_that_does_not_wait = refl

none_that_was_not_inherited : names_waiters waiting (what.Signalled 6 4) ≡ false
none_that_was_not_inherited = refl

none_only_if_none_waits : names_waiters waiting (what.Signalled 5 0) ≡ false
none_only_if_none_waits = refl

then_it_is_lost : names_waiters waiting (what.Signalled 6 0) ≡ true
then_it_is_lost = refl

so_one_that_is_handed_on : names_waiters waiting (what.HandedOn 5 2) ≡ true
so_one_that_is_handed_on = refl

not_to_nobody : names_waiters waiting (what.HandedOn 5 0) ≡ false
not_to_nobody = refl

nor_to_one_that_was_not_inherited : names_waiters waiting (what.HandedOn 6 4) ≡ false
nor_to_one_that_was_not_inherited = refl

a_broadcast_counts_those_that_wait : names_waiters waiting (what.BroadcastTo 5 2) ≡ true
a_broadcast_counts_those_that_wait = refl

and_all_of_them : names_waiters waiting (what.BroadcastTo 5 1) ≡ false
and_all_of_them = refl

-- ---- other threads

second : ◌≢◌ {A = ℕ} 2 1
second same = absurd (omega (arith, same))

third : ◌≢◌ {A = ℕ} 3 1
third same = absurd (omega (arith, same))

-- the thread goes for its mutex
abbrev was_unblocked : Status → Bool
was_unblocked (status.Reacquire c m why) = true
was_unblocked _ = false

abbrev mutex_of : Status → ℕ
mutex_of (status.Reacquire c m why) = m
mutex_of _ = 0

abbrev is_disabled : State → Bool
is_disabled Disable = true
is_disabled _ = false

a_signal_unblocks : KeepsOther (what.Signalled 5 2 ∷ []) 2 (thread 2 (waits 5 7)) (thread 2 (goes_for cause.Signalled 5 7))
a_signal_unblocks = record { unblocks = refl; pending = refl; detached = refl; joined = refl; in_pass = λ place quiet. refl; rest = refl }

so_does_one_that_is_handed_on : KeepsOther (what.WaitCanceled 5 ∷ what.HandedOn 5 2 ∷ []) 2 (thread 2 (waits 5 7)) (thread 2 (goes_for cause.Signalled 5 7))
so_does_one_that_is_handed_on = record { unblocks = refl; pending = refl; detached = refl; joined = refl; in_pass = λ place quiet. refl; rest = refl }

and_a_broadcast : KeepsOther (what.BroadcastTo 5 2 ∷ []) 3 (thread 3 (waits 5 8)) (thread 3 (goes_for cause.Broadcast 5 8))
and_a_broadcast = record { unblocks = refl; pending = refl; detached = refl; joined = refl; in_pass = λ place quiet. refl; rest = refl }

the_one_that_it_names : KeepsOthers (runs (what.Signalled 5 2 ∷ []) (thread 2 (waits 5 7)) (thread 3 (waits 5 8))) → ⊥
the_one_that_it_names law = true≢false (sym (ap was_unblocked (law 2 (thread 2 (waits 5 7)) second refl).unblocks))

and_no_other : KeepsOthers (runs (what.Signalled 5 2 ∷ []) (thread 2 (goes_for cause.Signalled 5 7)) (thread 3 (goes_for cause.Signalled 5 8))) → ⊥
and_no_other law = true≢false (ap was_unblocked (law 3 (thread 3 (waits 5 8)) third refl).unblocks)

a_broadcast_unblocks_each : KeepsOthers (runs (what.BroadcastTo 5 2 ∷ []) (thread 2 (goes_for cause.Broadcast 5 7)) (thread 3 (waits 5 8))) → ⊥
a_broadcast_unblocks_each law = true≢false (sym (ap was_unblocked (law 3 (thread 3 (waits 5 8)) third refl).unblocks))

that_waits_there : KeepsOthers (runs (what.BroadcastTo 6 0 ∷ []) (thread 2 (goes_for cause.Broadcast 5 7)) (thread 3 (waits 5 8))) → ⊥
that_waits_there law = true≢false (ap was_unblocked (law 2 (thread 2 (waits 5 7)) second refl).unblocks)

no_thread_is_unblocked_without_an_event : KeepsOthers (runs (what.Released 7 ∷ []) (thread 2 (goes_for cause.Signalled 5 7)) (thread 3 (waits 5 8))) → ⊥
no_thread_is_unblocked_without_an_event law = true≢false (ap was_unblocked (law 2 (thread 2 (waits 5 7)) second refl).unblocks)

it_goes_for_the_mutex_of_its_wait : KeepsOthers (runs (what.Signalled 5 2 ∷ []) (thread 2 (goes_for cause.Signalled 5 8)) (thread 3 (waits 5 8))) → ⊥
it_goes_for_the_mutex_of_its_wait law = let n : ◌≡◌ {A = ℕ} 8 7 = ap mutex_of (law 2 (thread 2 (waits 5 7)) second refl).unblocks in omega (arith, n)

its_time_expires_in_a_step_of_its_own : KeepsOthers (runs (what.WaitExpired 5 ∷ []) (thread 2 (goes_for cause.TimedOut 5 7)) (thread 3 (waits 5 8))) → ⊥
its_time_expires_in_a_step_of_its_own law = true≢false (ap was_unblocked (law 2 (thread 2 (waits 5 7)) second refl).unblocks)

its_cancelability_stays : KeepsOthers (runs [] (record (thread 2 (waits 5 7)) { state = Disable }) (thread 3 (waits 5 8))) → ⊥
its_cancelability_stays law = true≢false (ap (λ (t : Thread). is_disabled t.state) (law 2 (thread 2 (waits 5 7)) second refl).rest)

no_frame_of_another_thread_goes : KeepsOthers (runs [] (record (thread 2 (waits 5 7)) { frames = [] }) (thread 3 (waits 5 8))) → ⊥
no_frame_of_another_thread_goes law = let n : ◌≡◌ {A = ℕ} 0 1 = ap (λ (t : Thread). length t.frames) (law 2 (thread 2 (waits 5 7)) second refl).rest in omega (arith, n)

-- the pc of the top frame
abbrev pc_of : List Frame → ℕ
pc_of [] = 0
pc_of (frame ∷ below) = frame.pc

no_other_thread_goes_on : KeepsOthers (runs [] (record (thread 2 (waits 5 7)) { frames = record (new_frame 0 0 kind.Start) { pc = 1 } ∷ [] }) (thread 3 (waits 5 8))) → ⊥
no_other_thread_goes_on law = let n : ◌≡◌ {A = ℕ} 1 0 = ap (λ (t : Thread). pc_of t.frames) (law 2 (thread 2 (waits 5 7)) second refl).rest in omega (arith, n)

a_request_is_an_event : KeepsOthers (runs (what.Request 3 ∷ []) (record (thread 2 (waits 5 7)) { pending = true }) (record (thread 3 (waits 5 8)) { pending = true })) → ⊥
a_request_is_an_event law = true≢false (law 2 (thread 2 (waits 5 7)) second refl).pending

a_thread_does_not_vanish : KeepsOthers (runs [] (thread 4 (waits 5 7)) (thread 3 (waits 5 8))) → ⊥
a_thread_does_not_vanish law = law 2 (thread 2 (waits 5 7)) second refl

-- ---- the thread itself

-- its next statement
abbrev at : Stmt → NextStatement
at s = StatementIn (new_frame 0 0 kind.Start) s

it_waits_by_pthread_cond_wait : may_become (at (statement.CondWait 5 7)) (what.Called cond_wait_point ∷ what.Released 7 ∷ []) Running (waits 5 7) ≡ true
it_waits_by_pthread_cond_wait = refl

not_by_another_statement : may_become (at (statement.Unlock 7)) (what.Released 7 ∷ []) Running (waits 5 7) ≡ false
not_by_another_statement = refl

and_on_what_its_operands_name : may_become (at (statement.CondWait 5 8)) (what.Called cond_wait_point ∷ what.Released 8 ∷ []) Running (waits 5 7) ≡ false
and_on_what_its_operands_name = refl

it_acts_in_its_wait : may_become (at (statement.CondWait 5 7)) (what.WaitCanceled 5 ∷ []) (waits 5 7) (goes_for cause.Canceled 5 7) ≡ true
it_acts_in_its_wait = refl

with_the_mutex_of_its_wait : may_become (at (statement.CondWait 5 7)) (what.WaitCanceled 5 ∷ []) (waits 5 7) (goes_for cause.Canceled 5 8) ≡ false
with_the_mutex_of_its_wait = refl

it_does_not_wake_without_an_event : may_become (at (statement.CondWait 5 7)) [] (waits 5 7) Running ≡ false
it_does_not_wake_without_an_event = refl

nor_unblocks_itself : may_become (at (statement.CondWait 5 7)) [] (waits 5 7) (goes_for cause.Signalled 5 7) ≡ false
nor_unblocks_itself = refl

it_comes_back_with_its_mutex : may_become (at (statement.CondWait 5 7)) (what.Acquired 7 ∷ what.Done cond_wait_point ∷ []) (goes_for cause.Signalled 5 7) Running ≡ true
it_comes_back_with_its_mutex = refl

not_with_another_one : may_become (at (statement.CondWait 5 7)) (what.Acquired 8 ∷ what.Done cond_wait_point ∷ []) (goes_for cause.Signalled 5 7) Running ≡ false
not_with_another_one = refl

nor_without_one : may_become (at (statement.CondWait 5 7)) (what.Done cond_wait_point ∷ []) (goes_for cause.Signalled 5 7) Running ≡ false
nor_without_one = refl

-- its next statement is pthread_cond_timedwait on condition variable 5 with mutex 7
abbrev timed : NextStatement
timed = at (statement.CondTimedWait destination.Drop 5 7)

it_waits_by_pthread_cond_timedwait : may_become timed (what.Called cond_timedwait_point ∷ what.Released 7 ∷ []) Running (waits 5 7) ≡ true
it_waits_by_pthread_cond_timedwait = refl

on_what_its_operands_name : may_become timed (what.Called cond_timedwait_point ∷ what.Released 7 ∷ []) Running (waits 6 7) ≡ false
on_what_its_operands_name = refl

its_time_expires : may_become timed (what.WaitExpired 5 ∷ []) (waits 5 7) (goes_for cause.TimedOut 5 7) ≡ true
its_time_expires = refl

a_wait_without_a_time_does_not_expire : may_become (at (statement.CondWait 5 7)) (what.WaitExpired 5 ∷ []) (waits 5 7) (goes_for cause.TimedOut 5 7) ≡ false
a_wait_without_a_time_does_not_expire = refl

it_expires_with_its_event : may_become timed [] (waits 5 7) (goes_for cause.TimedOut 5 7) ≡ false
it_expires_with_its_event = refl

which_names_its_condition_variable : may_become timed (what.WaitExpired 6 ∷ []) (waits 5 7) (goes_for cause.TimedOut 5 7) ≡ false
which_names_its_condition_variable = refl

then_it_goes_for_its_own_mutex : may_become timed (what.WaitExpired 5 ∷ []) (waits 5 7) (goes_for cause.TimedOut 5 8) ≡ false
then_it_goes_for_its_own_mutex = refl

not_for_that_of_a_signal : may_become timed (what.WaitExpired 5 ∷ []) (waits 5 7) (goes_for cause.Signalled 5 7) ≡ false
not_for_that_of_a_signal = refl

it_expires_in_its_wait : may_become timed (what.WaitExpired 5 ∷ []) Running (goes_for cause.TimedOut 5 7) ≡ false
it_expires_in_its_wait = refl

before_it_is_unblocked : may_become timed (what.WaitExpired 5 ∷ []) (goes_for cause.Signalled 5 7) (goes_for cause.TimedOut 5 7) ≡ false
before_it_is_unblocked = refl

and_once : may_become timed (what.WaitExpired 5 ∷ []) (goes_for cause.TimedOut 5 7) (goes_for cause.TimedOut 5 7) ≡ false
and_once = refl

it_times_out_with_its_mutex : may_become timed (what.Acquired 7 ∷ what.Answer caller.CondTimedWait 4 ∷ []) (goes_for cause.TimedOut 5 7) Running ≡ true
it_times_out_with_its_mutex = refl

and_with_no_other_one : may_become timed (what.Acquired 8 ∷ what.Answer caller.CondTimedWait 4 ∷ []) (goes_for cause.TimedOut 5 7) Running ≡ false
and_with_no_other_one = refl

and_not_without_one : may_become timed (what.Answer caller.CondTimedWait 4 ∷ []) (goes_for cause.TimedOut 5 7) Running ≡ false
and_not_without_one = refl

not_as_it_still_waits : may_become timed (what.Answer caller.CondTimedWait 4 ∷ []) (waits 5 7) Running ≡ false
not_as_it_still_waits = refl

it_acts_after_its_time : may_become timed (what.WaitCanceled 5 ∷ []) (goes_for cause.TimedOut 5 7) (goes_for cause.Canceled 5 7) ≡ true
it_acts_after_its_time = refl

-- ---- signals that are handed on

-- a thread that was unblocked on condition variable c acts upon a request, with these events
abbrev acts : Cause → ℕ → List What → ThreadStep
acts why c events = step_to (goes_for why c 7) (goes_for cause.Canceled c 7) events (thread 2 (waits 5 7)) (thread 3 (waits 5 8))

it_hands_its_signal_on : hands_its_signal_on (acts cause.Signalled 5 (what.WaitCanceled 5 ∷ what.HandedOn 5 2 ∷ [])) ≡ true
it_hands_its_signal_on = refl

it_does_not_keep_it : hands_its_signal_on (acts cause.Signalled 5 (what.WaitCanceled 5 ∷ [])) ≡ false
it_does_not_keep_it = refl

unless_no_thread_waits : hands_its_signal_on (acts cause.Signalled 6 (what.WaitCanceled 6 ∷ [])) ≡ true
unless_no_thread_waits = refl

a_broadcast_is_not_handed_on : hands_its_signal_on (acts cause.Broadcast 5 (what.WaitCanceled 5 ∷ what.HandedOn 5 2 ∷ [])) ≡ false
a_broadcast_is_not_handed_on = refl

one_whose_time_expired_has_none : hands_its_signal_on (acts cause.TimedOut 5 (what.WaitCanceled 5 ∷ what.HandedOn 5 2 ∷ [])) ≡ false
one_whose_time_expired_has_none = refl

so_it_hands_none_on : hands_its_signal_on (acts cause.TimedOut 5 (what.WaitCanceled 5 ∷ [])) ≡ true
so_it_hands_none_on = refl

one_that_still_waits_has_none : hands_its_signal_on (step_to (waits 5 7) (goes_for cause.Canceled 5 7) (what.WaitCanceled 5 ∷ what.HandedOn 5 2 ∷ []) (thread 2 (waits 5 7)) (thread 3 (waits 5 8))) ≡ false
one_that_still_waits_has_none = refl
