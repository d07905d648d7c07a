-- The law of thread-specific data: a value is set and read of a key that was made and not deleted; pthread_setspecific gives its thread the
-- value of the operand; a new thread has NULL for each key, and the thread of a new process has the values of the thread that forked; a new
-- key has NULL in each thread, and a deleted one leaves NULL; and a step changes no other value of another thread (XSH pthread_setspecific,
-- pthread_getspecific, pthread_key_create, pthread_key_delete, fork). Which values of its own thread a step may change is in Ends.antt.
use Rattle.std.specs.Prelude.{◌≡◌, ◌≢◌, ℕ, Bool, true, false, not, ◌||◌, List, nat_eq, Option, Some, None}
use Rattle.std.specs.List.{list_any}
use Rattle.pct_model.specs.declared.event.Event.{Event}
use Rattle.pct_model.specs.declared.event.What.{What}
use Rattle.pct_model.specs.declared.event.What.TheVariants as what
use Rattle.pct_model.specs.declared.schedule.Config.{Config}
use Rattle.pct_model.specs.declared.schedule.Entry.{Entry}
use Rattle.pct_model.specs.declared.script.Script.{Script}
use Rattle.pct_model.specs.declared.statement.Stmt.TheVariants as statement
use Rattle.pct_model.specs.Keys.{key_place, value_at}
use Rattle.pct_model.specs.NextStatement.{NextStatement, StatementIn, next_of}
use Rattle.pct_model.specs.World.{Thread, Process, thread_with, value_of}
use Rattle.pct_laws.specs.CancelLaw.{is_running, acts_or_stops}
use Rattle.pct_laws.specs.KeyEvents.{has_key}
use Rattle.pct_laws.specs.ProcessSteps.{EachOtherProcess}
use Rattle.pct_laws.specs.ThreadSteps.{ThreadStep, EachStep}

-- ---- keys

-- if the next statement is pthread_setspecific or pthread_getspecific, its key was made in the process and not deleted since: with another
-- one the call is undefined (XSH pthread_getspecific)
abbrev pub names_a_key : List ℕ → (pid : ℕ) → List Event → NextStatement → Bool
names_a_key globals pid earlier (StatementIn frame (statement.SetSpecific key v)) = has_key pid (value_of globals frame key) earlier
names_a_key globals pid earlier (StatementIn frame (statement.GetSpecific d key)) = has_key pid (value_of globals frame key) earlier
names_a_key globals pid earlier _ = true

-- so it is before the step of a running thread, unless it acts upon a request or its statement is a stop
abbrev pub uses_a_key : Script → ThreadStep → Bool
uses_a_key script s =
    not (is_running s.before.status) || acts_or_stops s.events
    || names_a_key s.process.shared.globals s.pid s.earlier (next_of script s.before.frames)

-- ---- pthread_setspecific

-- if the next statement is pthread_setspecific, the thread has the value of its operand for its key
abbrev pub has_value_set : List ℕ → NextStatement → Thread → Bool
has_value_set globals (StatementIn frame (statement.SetSpecific key v)) t =
    nat_eq (value_at (key_place (value_of globals frame key)) t.specific) (value_of globals frame v)
has_value_set globals _ t = true

-- so it is after the step of a running thread, unless it acts upon a request or its statement is a stop
abbrev pub sets_its_value : Script → ThreadStep → Bool
sets_its_value script s =
    not (is_running s.before.status) || acts_or_stops s.events || has_value_set s.process.shared.globals (next_of script s.before.frames) s.after

-- ---- the threads of the process

-- the event is that the key on a place is deleted
abbrev pub deletes_at : ℕ → What → Bool
deletes_at place (what.KeyGone key) = nat_eq (key_place key) place
deletes_at place _ = false

-- the event is that a key is made on a place
abbrev pub makes_at : ℕ → What → Bool
makes_at place (what.KeyMade key) = nat_eq (key_place key) place
makes_at place _ = false

-- what a step does to the value at a place, of a thread of its process
pub record KeepsThread (s : ThreadStep) (place tid : ℕ) (after : Thread) : Type 0 where
  -- another thread than its own keeps the value
  pub other : tid ≢ s.tid → (before : Thread) → thread_with tid s.process ≡ Some before → list_any (deletes_at place) s.events ≡ false
      → value_at place after.specific ≡ value_at place before.specific
  -- but for a key that is deleted: each thread has NULL at its place. No call reads it there but as the value of the next key on this place
  pub deleted : list_any (deletes_at place) s.events ≡ true → value_at place after.specific ≡ 0
  -- a new key has NULL in each thread
  pub made : list_any (makes_at place) s.events ≡ true → value_at place after.specific ≡ 0
  -- a new thread has NULL for each key
  pub new : thread_with tid s.process ≡ None → value_at place after.specific ≡ 0

-- so it is at each place, of each thread
abbrev pub KeepsThreads : ThreadStep → Type 0
KeepsThreads s = (place tid : ℕ) (after : Thread) → thread_with tid s.process_after ≡ Some after → KeepsThread s place tid after

-- ---- other processes

-- a process that was made before the step keeps its threads and all that they share; in a new one the thread that forked has the values
-- that it has in its parent
abbrev pub KeepsProcess : ThreadStep → Option Process → Process → Type 0
KeepsProcess s (Some before) after = (after.threads ≡ before.threads) × (after.shared ≡ before.shared)
KeepsProcess s None after = (t : Thread) → thread_with s.tid after ≡ Some t → t.specific.values ≡ s.after.specific.values

-- ---- the law

-- the law of thread-specific data, of the run of a schedule
pub record ValueLaw (script : Script) (config : Config) (entries : List Entry) : Type 0 where
  pub keys : EachStep script config entries (λ s. uses_a_key script s ≡ true)
  pub set : EachStep script config entries (λ s. sets_its_value script s ≡ true)
  pub threads : EachStep script config entries KeepsThreads
  pub processes : EachOtherProcess script config entries KeepsProcess
