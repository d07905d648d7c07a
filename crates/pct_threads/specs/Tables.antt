-- The table of the threads of a process: the list of its slots. A call names a slot by its index.
use Rattle.std.specs.Prelude.{ℕ, ◌+◌, ◌*◌, Bool, false, not, if◌then◌else◌, List, length, map, Option, Some, None, option_map, slice_get, slice_index_or, slice_set}
use Rattle.std.specs.Option.{option_map_or}
use Rattle.pct_model.specs.declared.frame.Frame.{Frame}
use Rattle.pct_model.specs.ThreadSlots.{slot_of}
use Rattle.pct_threads.specs.declared.record.Thread.{Thread}
use Rattle.pct_threads.specs.declared.record.Place.{Place}
use Rattle.pct_threads.specs.Slots.{Held, Slot, unused, is_occupied, has_id, holds_thread, frames_of, place_of, is_reclaimable, after_end, after_detach, after_change, with_change, freed, created}

-- ---- what is on a slot

-- the slot with this index
abbrev pub slot_at : List Slot → ℕ → Slot
slot_at slots index = slice_index_or slots index unused

-- the thread that holds the slot
abbrev pub held_at : List Slot → ℕ → Option Held
held_at slots index = (slot_at slots index).here

-- a thread holds the slot
abbrev pub is_occupied_at : List Slot → ℕ → Bool
is_occupied_at slots index = is_occupied (slot_at slots index)

-- the index is that of a slot which no thread holds
abbrev pub is_free_at : List Slot → ℕ → Bool
is_free_at slots index = option_map_or (λ slot. not (is_occupied slot)) (slice_get slots index) false

-- the place of the thread that holds the slot
abbrev pub place_at : List Slot → ℕ → Option Place
place_at slots index = option_map place_of (held_at slots index)

-- its record
abbrev pub thread_at : List Slot → ℕ → Option Thread
thread_at slots index = option_map (λ held. held.thread) (held_at slots index)

-- its frames
abbrev pub frames_at : List Slot → ℕ → List Frame
frames_at slots index = frames_of (slot_at slots index)

-- it has ended, and is not detached
abbrev pub is_reclaimable_at : List Slot → ℕ → Bool
is_reclaimable_at slots index = holds_thread is_reclaimable (slot_at slots index)

-- the id of the next thread on a slot
abbrev pub next_id_at : List Slot → ℕ → ℕ
next_id_at slots index = 1 + index + length slots * (slot_at slots index).made

-- the slot of the thread with an id, if the thread holds it
abbrev pub slot_named : ℕ → List Slot → Option ℕ
slot_named id slots = if has_id id (slot_at slots (slot_of (length slots) id)) then Some (slot_of (length slots) id) else None

-- ---- changes

-- the table after a change of a slot
abbrev pub on_slot : ℕ → (Slot → Slot) → List Slot → List Slot
on_slot index change slots = slice_set slots index (change (slot_at slots index))

-- the table after a change of the thread that holds a slot; the table is the same if none does
abbrev pub on_held : ℕ → (Held → Held) → List Slot → List Slot
on_held index change slots = on_slot index (with_change change) slots

-- the table after a creation
abbrev pub with_created : (index func arg : ℕ) → Bool → List Slot → List Slot
with_created index func arg detached slots = on_slot index (created (next_id_at slots index) func arg detached) slots

-- the table after the end of the thread that holds a slot
abbrev pub with_end : ℕ → ℕ → List Slot → List Slot
with_end index value slots = on_slot index (after_change (after_end value)) slots

-- the table after pthread_detach of the thread that holds a slot
abbrev pub with_detach : ℕ → List Slot → List Slot
with_detach index slots = on_slot index (after_change after_detach) slots

-- the table of a child process: the thread on this slot alone (XSH fork). Ids are not used again.
abbrev pub replica_of : ℕ → List Slot → List Slot
replica_of index slots = slice_set (map freed slots) index (slot_at slots index)
