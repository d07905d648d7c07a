-- The slots of a process in groups, by the condition under which the thread on each has a choice.
use Rattle.std.specs.Prelude.{◌≡◌, ℕ, ◌+◌, ◌||◌, Bool, true, not, if◌then◌else◌, List, length, replicate, Some, nat_eq, nat_lt, slice_get, slice_index_or}
use Rattle.pct_set.specs.Slots.{slots_where, union_of}
use Rattle.pct_transitions.specs.declared.readiness.ReadyWhen.{ReadyWhen}
use Rattle.pct_transitions.specs.declared.readiness.ReadyWhen.TheVariants as ready
use Rattle.pct_ready_sets.specs.declared.ready_sets.TheConstants.{GROUPS}

-- the group with an index after the first one of its kind, which has 32; an index past them is in the group of the conditions that have no
-- group of their own
abbrev pub indexed : ℕ → ℕ → ℕ
indexed first index = if nat_lt index 32 then first + index else 2

-- the group of a condition: 0 and 1 for those that do not depend on others, 2 for those that have no group of their own
abbrev pub group_of : ReadyWhen → ℕ
group_of ready.Never = 0
group_of ready.Now = 1
group_of (ready.MutexFree m) = indexed 3 m
group_of (ready.CountAboveZero s) = indexed 35 s
group_of (ready.OnceNotBusy o) = indexed 67 o
group_of (ready.ThreadEnded id) = 2
group_of (ready.ChildEnded pid) = 2

-- the condition is in this group
abbrev pub is_in_group : ℕ → ReadyWhen → Bool
is_in_group group c = nat_eq (group_of c) group

-- the condition depends on others
abbrev pub is_conditional : ReadyWhen → Bool
is_conditional c = not (is_in_group 0 c || is_in_group 1 c)

-- the condition of slot k
abbrev pub condition_on : List ReadyWhen → ℕ → ReadyWhen
condition_on conditions k = slice_index_or conditions k ready.Never

-- slot k is in the group of this slot, or is the slot, if the slot's condition has no group of its own
abbrev pub is_alike : List ReadyWhen → ℕ → ℕ → Bool
is_alike conditions slot k = if is_in_group 2 (condition_on conditions slot) then nat_eq k slot else is_in_group (group_of (condition_on conditions slot)) (condition_on conditions k)

-- the conditions of 64 slots, and the slots that are stale
pub record ReadyValue : Type 0 where
  pub conditions : List ReadyWhen
  pub stale : List ℕ

-- each group has the slots whose conditions are in it
pub record AreGroups (conditions : List ReadyWhen) (groups : List (List ℕ)) : Type 0 where
  pub all : length conditions ≡ 64
  pub every : length groups ≡ GROUPS
  pub each : (j : ℕ) (group : List ℕ) → slice_get groups j ≡ Some group → group ≡ slots_where (λ k. is_in_group j (condition_on conditions k))

-- nothing is known
abbrev pub unknown : ReadyValue
unknown = record { conditions = replicate 64 ready.Never; stale = slots_where (λ _. true) }

-- these slots are stale, too
abbrev pub with_stale : List ℕ → ReadyValue → ReadyValue
with_stale more v = record v { stale = union_of v.stale more }

-- each slot is stale
abbrev pub all_stale : ReadyValue → ReadyValue
all_stale v = record v { stale = slots_where (λ _. true) }
