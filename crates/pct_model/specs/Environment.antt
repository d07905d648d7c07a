-- The threads of a process and the other processes, as the next step of a thread depends on them. The tables of stops, of choices and of
-- transitions ask in the words below, and read no slot. The thread itself is among the threads: its own id names it.
use Rattle.std.specs.Prelude.{ℕ, Bool, false, not, ◌&&◌, ◌||◌, if◌then◌else◌, List, [], ◌∷◌, flat_map, Option, Some, None, is_none, is_some, nat_eq, option_and_then}
use Rattle.std.specs.List.{list_all, list_any}
use Rattle.std.specs.Option.{option_map_or}
use Rattle.pct_model.specs.declared.schedule.Config.{Config}
use Rattle.pct_model.specs.declared.state.Status.{Status}
use Rattle.pct_model.specs.declared.state.Status.TheVariants as status
use Rattle.pct_model.specs.Formats.{has_timeouts}
use Rattle.pct_model.specs.OtherProcesses.{Family, family_of}
use Rattle.pct_model.specs.World.{Thread, Process, World}
use Rattle.pct_model.specs.ThreadSlots.{holds_slot, free_ids, by_slot, with_id}

-- ---- the environment of a thread

-- a thread that waits on a condition variable: its id, and the index of the mutex that it released
pub record Waiter : Type 0 where
  pub id : ℕ
  pub mutex : ℕ

-- what the next step of a thread depends on beside the thread itself and what the threads share: the threads of its process, as it sees
-- them, itself included; and the other processes
pub record Environment : Type 0 where
  -- the thread with an id, if the lifetime of the id is not over (XSH 2.9.2)
  pub named : ℕ → Option Thread
  -- a thread is suspended in pthread_join for this id
  pub another_joins : ℕ → Bool
  -- the ids that a new thread can get, by rising slot
  pub new_ids : List ℕ
  -- the threads that wait on the condition variable with this index, by rising slot
  pub waiters : ℕ → List Waiter
  -- each other thread has ended
  pub is_last : Bool
  -- the children of the process, and the id that a new process gets
  pub family : Family
  -- the time of a wait may expire
  pub timeouts : Bool

-- no thread has the id, or the lifetime of the id is over (XSH 2.9.2)
abbrev pub names_no_thread : ℕ → Environment → Bool
names_no_thread id environment = is_none (environment.named id)

-- the thread with the id is detached
abbrev pub is_detached_thread : ℕ → Environment → Bool
is_detached_thread id environment = option_map_or (λ t. t.detached) (environment.named id) false

-- the exit value of a thread with this status, once it has ended
abbrev pub exit_value_of : Status → Option ℕ
exit_value_of (status.Ended v) = Some v
exit_value_of _ = None

-- the exit value of the thread with the id, once it has ended
abbrev pub exit_value_with : ℕ → Environment → Option ℕ
exit_value_with id environment = option_and_then (λ t. exit_value_of t.status) (environment.named id)

-- the thread with the id has ended
abbrev pub is_ended_thread : ℕ → Environment → Bool
is_ended_thread id environment = is_some (exit_value_with id environment)

-- a thread waits on condition variable c with another mutex than m
abbrev pub waits_with_another_mutex : ℕ → ℕ → Environment → Bool
waits_with_another_mutex c m environment = list_any (λ waiter. not (nat_eq waiter.mutex m)) (environment.waiters c)

-- ---- of a process

-- the status is that of a thread in pthread_join for this id
abbrev pub is_joining : ℕ → Status → Bool
is_joining id (status.Joining target) = nat_eq target id
is_joining id _ = false

-- a thread that holds its slot is suspended in pthread_join for this id
abbrev pub is_joined_by_one : ℕ → List Thread → Bool
is_joined_by_one id threads = list_any (λ t. holds_slot t && is_joining id t.status) threads

-- the thread with this id and status, if it waits on condition variable c
abbrev pub waiter_by : ℕ → ℕ → Status → List Waiter
waiter_by c id (status.Waiting cond m) = if nat_eq cond c then record { id = id; mutex = m } ∷ [] else []
waiter_by c id _ = []

-- those of some threads that wait on condition variable c, in their order
abbrev pub waiters_among : ℕ → List Thread → List Waiter
waiters_among c threads = flat_map (λ t. waiter_by c t.id t.status) threads

-- each thread but the one with this id has ended. A thread that does not hold its slot has ended, or the process did not
-- inherit it.
abbrev pub is_last : ℕ → List Thread → Bool
is_last id threads = list_all (λ t. not (holds_slot t) || (t.ended || nat_eq t.id id)) threads

-- what the thread with an id of a process sees of the others, in a run of this configuration
unfoldable pub environment_of : Config → World → Process → ℕ → Environment
environment_of config w p tid = record {
  named = λ id. with_id id p.threads;
  another_joins = λ id. is_joined_by_one id p.threads;
  new_ids = free_ids config.slots p.threads;
  waiters = λ c. waiters_among c (by_slot config.slots p.threads);
  is_last = is_last tid p.threads;
  family = family_of w p.pid;
  timeouts = has_timeouts config.format;
}
