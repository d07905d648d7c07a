-- The conditions of the slots of a process as its threads are stepped.
use Rattle.std.specs.Prelude.{◌≡◌, ℕ, ◌<◌, ◌||◌, Bool, true, false, List, [], Option, Some, None, nat_eq, slice_get}
use Rattle.std.specs.Option.{option_map_or}
use Rattle.pct_model.specs.declared.script.Script.{Script}
use Rattle.pct_model.specs.declared.transition.NamedAction.{NamedAction}
use Rattle.pct_model.specs.declared.transition.NamedAction.TheVariants as named
use Rattle.pct_model.specs.declared.transition.NewThread.{NewThread}
use Rattle.pct_model.specs.declared.transition.Transition.{Transition}
use Rattle.pct_model.specs.ThreadSlots.{slot_of}
use Rattle.pct_set.specs.Slots.{has_slot}
use Rattle.pct_engine_laws.specs.Seen.{SeenProcess}
use Rattle.pct_process.specs.ProcessViews.{thread_on_slot}
use Rattle.pct_transitions.specs.declared.readiness.ReadyWhen.{ReadyWhen}
use Rattle.pct_transitions.specs.declared.readiness.ReadyWhen.TheVariants as ready
use Rattle.pct_transitions.specs.Readiness.{ready_when}
use Rattle.pct_ready_sets.specs.ReadyGroups.{ReadyValue, condition_on}

-- the condition under which the thread on slot k of a process has a choice; without a thread none ever has
abbrev pub condition_of_slot : Script → Bool → SeenProcess → ℕ → ReadyWhen
condition_of_slot script timeouts p k = option_map_or (ready_when script timeouts p.shared.restricted) (thread_on_slot p.slots k) ready.Never

-- each slot of a process has the condition of its thread, unless the slot is stale
abbrev pub Follows : Script → Bool → SeenProcess → ReadyValue → Type 0
Follows script timeouts p v = (k : ℕ) → k < 64 → has_slot v.stale k ≡ false → condition_on v.conditions k ≡ condition_of_slot script timeouts p k

-- the same of a process on a place, if there is anything known of the place
abbrev pub FollowsAt : Script → Bool → SeenProcess → ℕ → List ReadyValue → Type 0
FollowsAt script timeouts p i vs = (v : ReadyValue) → slice_get vs i ≡ Some v → Follows script timeouts p v

-- the same of each of these processes, by its place
abbrev pub FollowAll : Script → Bool → List SeenProcess → List ReadyValue → Type 0
FollowAll script timeouts ps vs = (i : ℕ) (p : SeenProcess) → slice_get ps i ≡ Some p → FollowsAt script timeouts p i vs

-- what is known of a place, if there is anything, has no slot that is stale
abbrev pub IsFreshAt : ℕ → List ReadyValue → Type 0
IsFreshAt i vs = (v : ReadyValue) → slice_get vs i ≡ Some v → v.stale ≡ []

-- the same of this number of places, from the first one on
abbrev pub AreFresh : ℕ → List ReadyValue → Type 0
AreFresh n vs = (i : ℕ) → i < n → IsFreshAt i vs

-- ---- what a transition can change

-- an action changes a thread that can be on slot k of this number of slots
abbrev pub names_slot : ℕ → ℕ → Option NamedAction → Bool
names_slot slots k None = false
names_slot slots k (Some (named.EndJoin id)) = nat_eq (slot_of slots id) k
names_slot slots k (Some (named.Request id)) = nat_eq (slot_of slots id) k
names_slot slots k (Some (named.Detach id)) = nat_eq (slot_of slots id) k
names_slot slots k (Some (named.Wake id)) = nat_eq (slot_of slots id) k
names_slot slots k (Some (named.WakeAll c)) = true
names_slot slots k (Some (named.ForgetKey key)) = false

-- a thread is created on slot k
abbrev pub creates_on : ℕ → ℕ → Option NewThread → Bool
creates_on slots k None = false
creates_on slots k (Some new) = nat_eq (slot_of slots new.id) k

-- the condition of slot k can be another one after a transition of the thread with an id
abbrev pub touches : ℕ → ℕ → Transition → ℕ → Bool
touches slots tid o k = nat_eq (slot_of slots tid) k || (creates_on slots k o.created || names_slot slots k o.named)
