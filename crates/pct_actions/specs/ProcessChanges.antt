-- What a transition changes in a process, and what it needs of it, in words of the data of the process.
use Rattle.std.specs.Prelude.{◌≡◌, ◌≢◌, ℕ, ◌<◌, true, List, length, All, Option, Some, None, IfSome, is_some, is_none, nat_eq, slice_get}
use Rattle.std.specs.List.{list_any}
use Rattle.pct_model.specs.declared.limits.TheConstants.{MAX_FORK_HANDLERS, MAX_EXIT_FUNCTIONS}
use Rattle.pct_model.specs.declared.transition.NamedAction.{NamedAction}
use Rattle.pct_model.specs.declared.transition.NamedAction.TheVariants as named_action
use Rattle.pct_model.specs.declared.transition.OwnAction.{OwnAction}
use Rattle.pct_model.specs.declared.transition.OwnAction.TheVariants as own_action
use Rattle.pct_model.specs.declared.transition.SharedAction.{SharedAction}
use Rattle.pct_model.specs.declared.transition.SharedAction.TheVariants as shared_action
use Rattle.pct_model.specs.declared.transition.Transition.{Transition}
use Rattle.pct_model.specs.Actions.{shared_moved}
use Rattle.pct_model.specs.Environment.{waiters_among}
use Rattle.pct_model.specs.Keys.{KeyPlace, key_place, key_at, key_with, next_key}
use Rattle.pct_model.specs.ThreadSlots.{holds_slot, is_ended_status, slot_of}
use Rattle.pct_model.specs.World.{Thread, SharedState}
use Rattle.pct_engine_laws.specs.Fitting.{Fits}
use Rattle.pct_engine_laws.specs.Seen.{SeenSlot, slots_moved, threads_on}
use Rattle.pct_engine_laws.specs.SeenSteps.{thread_with, new_ids_from}
use Rattle.pct_process.specs.ProcessViews.{thread_on_slot, ProcessData}

-- ---- what it changes

-- the data of a process after a transition of its thread with an id
abbrev pub data_moved : ℕ → Transition → ProcessData → ProcessData
data_moved tid o p = record { slots = slots_moved (length p.slots) tid o p.slots; shared = shared_moved tid o p.shared }

-- ---- what it costs

-- the number of threads that an action on threads unblocks by a broadcast: those that wait on its condition variable
abbrev pub woken : Option NamedAction → List SeenSlot → ℕ
woken (Some (named_action.WakeAll c)) slots = length (waiters_among c (threads_on slots))
woken _ slots = 0

-- ---- what it needs

-- a thread holds slot s of this number of slots: it has an id of the slot, and was not reclaimed
pub record IsOnSlot (slots s : ℕ) (t : Thread) : Type 0 where
  pub on : slot_of slots t.id ≡ s
  pub holds : holds_slot t ≡ true

-- the threads on each slot hold it
abbrev pub AreOnSlots : List SeenSlot → Type 0
AreOnSlots slots = (s : ℕ) (slot : SeenSlot) → slice_get slots s ≡ Some slot → All (IsOnSlot (length slots) s) slot.here

-- an action of a thread fits the places for keys: a key that gets a value was made, and not deleted
abbrev pub KeyFits : Option OwnAction → List KeyPlace → Type 0
KeyFits (Some (own_action.SetSpecific k v)) places = is_some (key_with k places) ≡ true
KeyFits _ places = Unit {0}

-- an action on what the threads share fits it: a key that is made has the next number on its place, which has none; and there is room
-- for the functions that are registered with pthread_atfork or atexit
abbrev pub SharedFits : Option SharedAction → SharedState → Type 0
SharedFits (Some (shared_action.MakeKey k destructor)) s = (is_none (key_at s.keys (key_place k)) ≡ true) × (next_key s.keys (key_place k) ≡ k)
SharedFits (Some (shared_action.AddForkHandlers handlers)) s = length s.fork_handlers < MAX_FORK_HANDLERS
SharedFits (Some (shared_action.AddExit f)) s = length s.exit_functions < MAX_EXIT_FUNCTIONS
SharedFits _ s = Unit {0}

-- the thread with this id can join the one with another id: if that one is found, it has ended
abbrev pub JoinFits : ℕ → ℕ → List SeenSlot → Type 0
JoinFits tid id slots = (id ≢ tid) × IfSome (thread_with (length slots) id slots) (λ t. is_ended_status t.status ≡ true)

-- an action of the thread with an id on the threads that it names fits them: one that it joins can be joined
abbrev pub NamedFits : ℕ → Option NamedAction → List SeenSlot → Type 0
NamedFits tid (Some (named_action.EndJoin id)) slots = JoinFits tid id slots
NamedFits tid _ slots = Unit {0}

-- the key that is deleted, if one is
abbrev pub deleted_key : Option SharedAction → Option ℕ
deleted_key (Some (shared_action.DeleteKey k)) = Some k
deleted_key _ = None

-- the key of which no thread keeps its value, if there is one
abbrev pub forgotten_key : Option NamedAction → Option ℕ
forgotten_key (Some (named_action.ForgetKey k)) = Some k
forgotten_key _ = None

-- a transition of the thread on slot k fits the process: there is such a thread, and it has room for its action; the keys, what the
-- threads share and the threads that are named are as the actions need them; a key is deleted together with its values; and a thread that
-- is created gets an id that a new thread can get
pub record Makes (k : ℕ) (o : Transition) (p : ProcessData) : Type 0 where
  pub on_slots : AreOnSlots p.slots
  pub thread : Thread
  pub here : thread_on_slot p.slots k ≡ Some thread
  pub fits : Fits (length thread.frames) (length thread.handlers) thread.pass o.own
  pub keys : KeyFits o.own p.shared.keys
  pub shared : SharedFits o.shared p.shared
  pub named : NamedFits thread.id o.named p.slots
  pub forgets : deleted_key o.shared ≡ forgotten_key o.named
  pub created : IfSome o.created (λ new. list_any (nat_eq new.id) (new_ids_from (length p.slots) 0 p.slots) ≡ true)
