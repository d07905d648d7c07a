-- The numbers of processes and threads, and the threads and forks of which a trace has events. A state lists its processes, and a
-- process its threads, in the order in which they were made.
use Rattle.std.specs.Prelude.{◌≡◌, ℕ, ◌+◌, ◌*◌, ◌<◌, true, false, List, All, Some, is_some, filter, slice_get}
use Rattle.std.specs.Option.{IsSomeAnd}
use Rattle.pct_model.specs.declared.event.Event.{Event}
use Rattle.pct_model.specs.declared.event.What.{What}
use Rattle.pct_model.specs.declared.event.What.TheVariants as what
use Rattle.pct_model.specs.World.{Thread, Process, World, made_process, made_thread}
use Rattle.pct_model.specs.ThreadSlots.{is_on}

-- the process made after k others has the pid 1 + k
abbrev pub HasProcessNumbers : World → Type 0
HasProcessNumbers w = (k : ℕ) (p : Process) → slice_get w.processes k ≡ Some p → p.pid ≡ 1 + k

-- of the threads of a process, the one made on slot s after k others has the id 1 + s + slots * k; threads that the process did
-- not inherit count too
abbrev pub HasThreadNumbers : ℕ → List Thread → Type 0
HasThreadNumbers slots threads =
    (s k : ℕ) (t : Thread) → s < slots → slice_get (filter (is_on slots s) threads) k ≡ Some t → t.id ≡ 1 + s + slots * k

-- the event is one of a thread that was made, and that its process inherited if it was made before the process
abbrev pub IsOfThread : World → Event → Type 0
IsOfThread w e = IsSomeAnd (made_thread e.pid e.tid w) (λ t. t.gone ≡ false)

-- the process that a fork names was made
abbrev pub ForksMade : World → What → Type 0
ForksMade w (what.Forked child) = is_some (made_process child w) ≡ true
ForksMade w _ = Unit {0}

-- the numbers of a state after a run, and the threads and forks of the run's events
pub record NumbersThreads (slots : ℕ) (w : World) (events : List Event) : Type 0 where
  pub processes : HasProcessNumbers w
  pub threads : (pid : ℕ) (p : Process) → made_process pid w ≡ Some p → HasThreadNumbers slots p.threads
  pub of_threads : All (IsOfThread w) events
  pub forks : All (λ (e : Event). ForksMade w e.what) events
