-- The law of stack slots: a stack slot is taken by one thread at a time, and is given back only when its thread has ended and was joined or is
-- detached. A thread has a stack from pthread_create on, which is the implementation's (XSH 2.9.8), and whose storage may be reclaimed once the
-- thread has ended and was joined or detached (XSH pthread_join, pthread_detach). Here its stack is the slot that it holds. Slots, and that the
-- last thread of a process keeps its own as it goes on to exit the process, are choices of this host.
--
-- The law speaks of the slots of each process. It leaves open which slot a new thread gets (SlotLaw.antt).
use Rattle.std.specs.Prelude.{◌≡◌, ◌≤◌, ℕ, true, false, ◌&&◌, ◌||◌, List, ◌++◌, length, filter, drop, All, Some, IsSomeAnd, slice_get}
use Rattle.pct_model.specs.declared.schedule.Config.{Config}
use Rattle.pct_model.specs.declared.schedule.Entry.{Entry}
use Rattle.pct_model.specs.declared.script.Script.{Script}
use Rattle.pct_model.specs.Run.{Run, run}
use Rattle.pct_model.specs.ThreadSlots.{is_on, holds_slot}
use Rattle.pct_model.specs.World.{Thread, Process}
use Rattle.pct_laws.specs.ProcessSteps.{EachStepOfProcesses}
use Rattle.pct_laws.specs.ThreadSteps.{ThreadStep}

-- ---- a state

-- at most one of these threads has stack slot s
abbrev pub HasOneThread : ℕ → List Thread → ℕ → Type 0
HasOneThread slots threads s = length (filter (λ t. is_on slots s t && holds_slot t) threads) ≤ 1

-- no two threads of a process have the same stack slot
abbrev pub SharesNoSlot : ℕ → Process → Type 0
SharesNoSlot slots p = (s : ℕ) → HasOneThread slots p.threads s

-- ---- a step

-- what a step does to a thread and its stack slot
pub record KeepsSlot (before after : Thread) : Type 0 where
  -- it keeps its id, and so the number of its slot, and its process does not lose it
  pub id : after.id ≡ before.id
  pub there : after.gone ≡ before.gone
  -- if it gives its slot back, it has ended, and was joined or is detached (XSH pthread_join, pthread_detach)
  pub given_back : holds_slot before ≡ true → holds_slot after ≡ false → (after.ended ≡ true) × ((after.joined || after.detached) ≡ true)
  -- without a slot it gets none again
  pub for_good : holds_slot before ≡ false → holds_slot after ≡ false

-- what a step does to a process and the stack slots of its threads, which are listed in the order of their creation
pub record KeepsSlotsOf (before after : Process) : Type 0 where
  pub pid : after.pid ≡ before.pid
  -- each thread is there after the step
  pub kept : (j : ℕ) (t : Thread) → slice_get before.threads j ≡ Some t → IsSomeAnd (slice_get after.threads j) (KeepsSlot t)
  -- a new one has a slot from its creation on (XSH pthread_create)
  pub taken : All (λ t. holds_slot t ≡ true) (drop (length before.threads) after.threads)

-- what a step does to the processes, which are listed in the order of their creation: each one is there after it
abbrev pub KeepsSlots : ThreadStep → List Process → List Process → Type 0
KeepsSlots s before after = (i : ℕ) (p : Process) → slice_get before i ≡ Some p → IsSomeAnd (slice_get after i) (KeepsSlotsOf p)

-- ---- the law

-- the law of stack slots, of the run of a schedule
pub record StackLaw (script : Script) (config : Config) (entries : List Entry) : Type 0 where
  -- in each of its states, a stack slot of a process is taken by one thread at most
  pub alone : (before after : List Entry) (r : Run) → before ++ after ≡ entries → run script config before ≡ Some r → All (SharesNoSlot config.slots) r.world.processes
  pub kept : EachStepOfProcesses script config entries KeepsSlots
