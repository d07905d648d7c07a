-- The law of mutexes and condition waits: a mutex is acquired while no thread owns it, and released by its owner (XSH pthread_mutex_lock); a
-- condition wait that released its mutex ends with the mutex owned again, and then it returns, with ETIMEDOUT exactly if its time expired
-- (XSH pthread_cond_timedwait), or, if a request was acted upon, the thread begins to end, before its first cleanup handler (XSH
-- pthread_cond_wait); and a signal is handed on by a thread that acts upon a request in its wait. It speaks of the events of a run alone.
-- That a thread returns only after a signal or a broadcast, and which thread gets a signal, is not said here.
use Rattle.std.specs.Prelude.{ℕ, Bool, true, false, ◌&&◌, List, [], ◌∷◌, nat_eq}
use Rattle.pct_model.specs.declared.event.Event.{Event}
use Rattle.pct_model.specs.declared.event.What.{What}
use Rattle.pct_model.specs.declared.event.What.TheVariants as what
use Rattle.pct_laws.specs.KnownThreads.{is_own}
use Rattle.pct_laws.specs.MutexOwners.{owner_of}
use Rattle.pct_laws.specs.WaitStages.{wait_stage, may_follow_stage, cancels_wait_on}

-- ---- owners

-- what the law asks of the owners of mutexes at an event of thread tid
abbrev pub may_own : What → ℕ → (ℕ → ℕ) → Bool
-- a thread acquires a mutex that has no owner
may_own (what.Acquired m) tid owner = nat_eq (owner m) 0
-- a thread releases a mutex that it owns
may_own (what.Released m) tid owner = nat_eq (owner m) tid
-- the law asks nothing at the other events
may_own _ tid owner = true

-- an event may come with the owners before it
abbrev pub owners_allow : Event → List Event → Bool
owners_allow e earlier = may_own e.what e.tid (λ m. owner_of e.pid m earlier)

-- ---- waits

-- an event may follow in the condition wait of its thread, if that has one
abbrev pub waits_allow : Event → List Event → Bool
waits_allow e earlier = may_follow_stage (wait_stage e.pid e.tid earlier) e.what

-- ---- signals that are handed on

-- the newest of some events is that thread tid of process pid acts upon a request in a wait on condition variable c
abbrev pub has_just_left : (pid tid c : ℕ) → List Event → Bool
has_just_left pid tid c [] = false
has_just_left pid tid c (e ∷ earlier) = is_own pid tid e && cancels_wait_on c e.what

-- what the law asks of an event of thread tid of process pid, by those before it
abbrev pub may_hand_on : What → ℕ → ℕ → List Event → Bool
-- a signal is handed on directly after the thread acted upon a request in its wait
may_hand_on (what.HandedOn c u) pid tid earlier = has_just_left pid tid c earlier
-- the law asks nothing of the other events
may_hand_on _ pid tid earlier = true

-- an event may come after those before it: of those that hand a signal on, only one where it may; any other
abbrev pub hand_ons_allow : Event → List Event → Bool
hand_ons_allow e earlier = may_hand_on e.what e.pid e.tid earlier

-- ---- the law

-- an event may come after those before it: by the owners of mutexes, in the wait of its thread, and as a signal that is handed on
abbrev pub allows : Event → List Event → Bool
allows e earlier = owners_allow e earlier && waits_allow e earlier && hand_ons_allow e earlier
