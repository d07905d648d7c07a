-- The law of wake-ups, and of what a step leaves of other threads: a signal, and one that is handed on, unblocks a thread that waits on its
-- condition variable, and a broadcast each that does; each goes for the mutex of its own wait, and no other thread is unblocked (the
-- standard allows spurious wakeups: a choice of this host). A thread waits by pthread_cond_wait or pthread_cond_timedwait alone, and
-- leaves its wait with its mutex; one that a signal unblocked, and that acts upon a request, hands the signal on if another thread waits.
-- Only the wait of pthread_cond_timedwait has a time that expires, in a step of its own thread (XSH pthread_cond_wait,
-- pthread_cond_timedwait, pthread_cond_signal, pthread_cond_broadcast). A step changes nothing of another thread but what its events say.
use Rattle.std.specs.Prelude.{◌≡◌, ◌≢◌, ℕ, if◌then◌else◌, Bool, true, false, not, ◌&&◌, ◌||◌, List, count_by, nat_eq, slice_get}
use Rattle.std.specs.Prelude.{Some, IsSomeAnd}
use Rattle.std.specs.List.{list_all, list_any}
use Rattle.pct_model.specs.declared.event.What.{What}
use Rattle.pct_model.specs.declared.event.What.TheVariants as what
use Rattle.pct_model.specs.declared.schedule.Config.{Config}
use Rattle.pct_model.specs.declared.schedule.Entry.{Entry}
use Rattle.pct_model.specs.declared.script.Script.{Script}
use Rattle.pct_model.specs.declared.state.Cause.{Cause}
use Rattle.pct_model.specs.declared.state.Cause.TheVariants as cause
use Rattle.pct_model.specs.declared.state.Status.{Status}
use Rattle.pct_model.specs.declared.state.Status.TheVariants as status
use Rattle.pct_model.specs.ChoiceTable.{is_timed_wait}
use Rattle.pct_model.specs.NextStatement.{NextStatement, next_of}
use Rattle.pct_model.specs.World.{Thread, thread_with}
use Rattle.pct_laws.specs.AfterAll.{after_all}
use Rattle.pct_laws.specs.CancelEvents.{requests_id}
use Rattle.pct_laws.specs.CancelLaw.{is_running}
use Rattle.pct_laws.specs.Kept.{is_cond_wait_of}
use Rattle.pct_laws.specs.KnownThreads.{joins_id}
use Rattle.pct_laws.specs.StatementLaw.{agree}
use Rattle.pct_laws.specs.ThreadSteps.{ThreadStep, EachStep}
use Rattle.pct_laws.specs.ValueLaw.{deletes_at}
use Rattle.pct_laws.specs.WaitStages.{acquires, cancels_wait, cancels_wait_on}

-- ---- whom an event names

-- the status is that of a thread that waits on condition variable c
abbrev pub is_blocked_on : ℕ → Status → Bool
is_blocked_on c (status.Waiting cond m) = nat_eq cond c
is_blocked_on c _ = false

-- the thread waits on condition variable c, and its process inherited it
abbrev pub is_waiter : ℕ → Thread → Bool
is_waiter c t = not t.gone && is_blocked_on c t.status

-- one of these threads waits there, and has this id
abbrev pub waits_with_id : ℕ → ℕ → List Thread → Bool
waits_with_id c id threads = list_any (λ t. is_waiter c t && nat_eq id t.id) threads

-- what an event says of the threads of its process, as they are before the step
abbrev pub names_waiters : List Thread → What → Bool
-- a signal unblocks one that waits, or none, which is 0, if none waits
names_waiters threads (what.Signalled c u) = if list_any (is_waiter c) threads then waits_with_id c u threads else nat_eq u 0
-- one that is handed on unblocks one that waits
names_waiters threads (what.HandedOn c u) = waits_with_id c u threads
-- a broadcast unblocks all that wait, and reports their number
names_waiters threads (what.BroadcastTo c n) = nat_eq n (count_by (is_waiter c) threads)
-- the law asks nothing of the other events
names_waiters threads _ = true

-- ---- other threads

-- the status of a thread after it was unblocked, if it waited: it goes for the mutex that it released
abbrev pub unblocked : Cause → Status → Status
unblocked why (status.Waiting c m) = status.Reacquire c m why
unblocked why s = s

-- the status of thread tid, which was s, after an event of another thread
abbrev pub status_after : ℕ → What → Status → Status
status_after tid (what.Signalled c u) s = if nat_eq u tid then unblocked cause.Signalled s else s
status_after tid (what.HandedOn c u) s = if nat_eq u tid then unblocked cause.Signalled s else s
status_after tid (what.BroadcastTo c n) s = if is_blocked_on c s then unblocked cause.Broadcast s else s
-- no other event unblocks it
status_after tid _ s = s

-- the event is that thread tid is detached by pthread_detach
abbrev pub detaches : ℕ → What → Bool
detaches tid (what.Detached id) = nat_eq id tid
detaches tid _ = false

-- what the events of another thread do to thread tid
pub record KeepsOther (events : List What) (tid : ℕ) (before after : Thread) : Type 0 where
  -- it is unblocked by them, or keeps its status
  pub unblocks : after.status ≡ after_all (status_after tid) events before.status
  -- a request is pending by pthread_cancel alone; one for a thread that has ended changes nothing, which is a choice of this host
  pub pending : after.pending ≡ ((list_any (requests_id tid) events && not before.ended) || before.pending)
  -- it is detached by pthread_detach, and joined by pthread_join
  pub detached : after.detached ≡ (list_any (detaches tid) events || before.detached)
  pub joined : after.joined ≡ (list_any (joins_id tid) events || before.joined)
  -- a place leaves its pass over the destructors by pthread_key_delete; its values are in ValueLaw.antt
  pub in_pass : (place : ℕ) → list_any (deletes_at place) events ≡ false → slice_get after.specific.in_pass place ≡ slice_get before.specific.in_pass place
  -- all else stays: its functions with their locals, its cleanup handlers, its cancelability state and type, how its end began
  pub rest : after ≡ record before { status = after.status; pending = after.pending; detached = after.detached; joined = after.joined; specific = after.specific }

-- so it is of each other thread: it is there after the step
abbrev pub KeepsOthers : ThreadStep → Type 0
KeepsOthers s =
    (tid : ℕ) (t : Thread) → tid ≢ s.tid → thread_with tid s.process ≡ Some t → IsSomeAnd (thread_with tid s.process_after) (KeepsOther s.events tid t)

-- ---- the thread that makes the step

-- a thread with this status is in a wait on condition variable c with mutex m, and has not acted upon a request there
abbrev pub is_in_wait : ℕ → ℕ → Status → Bool
is_in_wait c m (status.Waiting cond mutex) = nat_eq cond c && nat_eq mutex m
is_in_wait c m (status.Reacquire cond mutex cause.Canceled) = false
is_in_wait c m (status.Reacquire cond mutex why) = nat_eq cond c && nat_eq mutex m
is_in_wait c m _ = false

-- a thread with this status is in no wait, or it was unblocked or acted upon a request, and acquires its mutex by these events
abbrev pub has_its_mutex : Status → List What → Bool
has_its_mutex (status.Waiting c m) events = false
has_its_mutex (status.Reacquire c m why) events = list_any (acquires m) events
has_its_mutex _ events = true

-- the event is that the time of a wait on condition variable c expired
abbrev pub expires_on : ℕ → What → Bool
expires_on c (what.WaitExpired cond) = nat_eq cond c
expires_on c _ = false

-- a thread with this status waits on condition variable c with mutex m
abbrev pub is_blocked_with : ℕ → ℕ → Status → Bool
is_blocked_with c m (status.Waiting cond mutex) = nat_eq cond c && nat_eq mutex m
is_blocked_with c m _ = false

-- by a step of its own with these events, a thread comes from one status to another
abbrev pub may_become : NextStatement → List What → Status → Status → Bool
-- it waits by pthread_cond_wait or pthread_cond_timedwait alone, on what the operands name
may_become next events before (status.Waiting c m) = is_running before && is_cond_wait_of c m next
-- it acts upon a request in its wait, and goes for the mutex of this wait
may_become next events before (status.Reacquire c m cause.Canceled) = is_in_wait c m before && list_any (cancels_wait_on c) events
-- the time of its wait expires, if the wait has one: it goes for the mutex of this wait (XSH pthread_cond_timedwait)
may_become next events before (status.Reacquire c m cause.TimedOut) = is_blocked_with c m before && is_timed_wait next && list_any (expires_on c) events
-- it does not unblock itself otherwise
may_become next events before (status.Reacquire c m why) = false
may_become next events before _ = has_its_mutex before events

-- the event is that a signal is handed on
abbrev pub hands_on : What → Bool
hands_on (what.HandedOn c u) = true
hands_on _ = false

-- a thread with this status was unblocked by a signal to a condition variable, and one of these threads waits there
abbrev pub owes_signal : List Thread → Status → Bool
owes_signal threads (status.Reacquire c m cause.Signalled) = list_any (is_waiter c) threads
owes_signal threads _ = false

-- such a thread, and no other, hands the signal on, as it acts upon a request
abbrev pub hands_its_signal_on : ThreadStep → Bool
hands_its_signal_on s = agree (list_any hands_on s.events) (list_any cancels_wait s.events && owes_signal s.process.threads s.before.status)

-- ---- the law

-- the law of wake-ups, of the run of a schedule
pub record WakeLaw (script : Script) (config : Config) (entries : List Entry) : Type 0 where
  pub named : EachStep script config entries (λ s. list_all (names_waiters s.process.threads) s.events ≡ true)
  pub others : EachStep script config entries KeepsOthers
  pub own : EachStep script config entries (λ s. may_become (next_of script s.before.frames) s.events s.before.status s.after.status ≡ true)
  pub handed_on : EachStep script config entries (λ s. hands_its_signal_on s ≡ true)
