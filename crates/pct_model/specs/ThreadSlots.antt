-- Thread ids and thread slots. A process has a number of thread slots, which the configuration gives. A thread holds its
-- slot until it is reclaimed: an ended thread is reclaimed once it was joined or detached (XSH pthread_join,
-- pthread_detach). Slots, and the order of ids on each, are a choice of this host.
use Rattle.std.specs.Prelude.{ℕ, ◌+◌, ◌-◌, ◌*◌, ◌%◌, Bool, true, false, not, ◌&&◌, ◌||◌, List, map, filter, flat_map, count_by, Option, find, nat_eq}
use Rattle.std.specs.List.{list_any, range_with_len}
use Rattle.pct_model.specs.declared.state.Status.{Status}
use Rattle.pct_model.specs.declared.state.Status.TheVariants as status
use Rattle.pct_model.specs.World.{Thread}

-- ---- slots

-- the status is that of an ended thread
abbrev pub is_ended_status : Status → Bool
is_ended_status (status.Ended v) = true
is_ended_status _ = false

-- a thread was reclaimed: it has ended, and was joined or is detached. The last thread of a process, which goes on to exit it after its
-- own end, has the status Exiting in place of Ended, and so keeps its slot: a choice of this host
abbrev pub was_reclaimed : Thread → Bool
was_reclaimed t = is_ended_status t.status && (t.joined || t.detached)

-- a thread holds its slot until it is reclaimed; one that its process did not inherit holds none. So in every state that a run reaches it is
-- unreclaimed, or exits its process after its own end
abbrev pub holds_slot : Thread → Bool
holds_slot t = not t.gone && not (was_reclaimed t)

-- the thread is unreclaimed: its process inherited it, and it has not ended or is neither joined nor detached
abbrev pub is_unreclaimed : Thread → Bool
is_unreclaimed t = not t.gone && (not t.ended || not (t.joined || t.detached))

-- the thread exits its process after its own end, as the last thread of a process does: it has ended, and its status is Ended no longer
abbrev pub exits_after_its_end : Thread → Bool
exits_after_its_end t = not t.gone && t.ended && not (is_ended_status t.status)

-- the slot of a thread id
abbrev pub slot_of : ℕ → ℕ → ℕ
slot_of slots id = (id - 1) % slots

-- the thread was created on slot s
abbrev pub is_on : ℕ → ℕ → Thread → Bool
is_on slots s t = nat_eq (slot_of slots t.id) s

-- ---- new threads

-- no thread holds slot s
abbrev pub is_free : ℕ → List Thread → ℕ → Bool
is_free slots threads s = not (list_any (λ t. is_on slots s t && holds_slot t) threads)

-- the id of the next thread on slot s; each thread ever created on the slot counts, gone ones included
abbrev pub next_id : ℕ → List Thread → ℕ → ℕ
next_id slots threads s = 1 + s + slots * count_by (is_on slots s) threads

-- the ids that a new thread can get, one for each free slot, by rising slot
unfoldable pub free_ids : ℕ → List Thread → List ℕ
free_ids slots threads = map (next_id slots threads) (filter (is_free slots threads) (range_with_len 0 slots))

-- ---- the threads in order

-- the threads of a process that hold a slot, by rising slot
abbrev pub by_slot : ℕ → List Thread → List Thread
by_slot slots threads = flat_map (λ s. filter (λ t. is_on slots s t && holds_slot t) threads) (range_with_len 0 slots)

-- ---- lookup

-- the thread has this id and holds its slot: the lifetime of a thread id ends when its thread is reclaimed (XSH 2.9.2)
abbrev pub has_valid_id : ℕ → Thread → Bool
has_valid_id id t = nat_eq t.id id && holds_slot t

-- the first thread that has this id and holds its slot
abbrev pub with_id : ℕ → List Thread → Option Thread
with_id id threads = find (has_valid_id id) threads
