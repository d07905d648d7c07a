-- How a table is kept: a row for each slot, and the frames of its thread in the words of the stack slot with the same number. No public
-- clause cites this module.
use Rattle.std.specs.Prelude.{◌≡◌, ℕ, suc, ◌+◌, ◌*◌, ◌≤◌, Bool, true, false, not, ◌&&◌, if◌then◌else◌, List, [], ◌∷◌, length, slice_index_or, slice_set, Some, None, nat_eq}
use Rattle.pct_model.specs.declared.frame.Frame.{Frame}
use Rattle.pct_model.specs.ThreadSlots.{is_ended_status}
use Rattle.pct_stack.specs.Stacks.{Stacks, slot_at, is_taken, words_at}
use Rattle.pct_threads.specs.declared.record.Place.{Place}
use Rattle.pct_threads.specs.declared.row.Row.{Row}
use Rattle.pct_threads.specs.Records.{new_record, ended_record}
use Rattle.pct_threads.specs.Slots.{Held, Slot}
use Rattle.pct_threads.specs.StackFrames.{frames_in}

-- ---- what is kept

-- the row on which no thread was created
abbrev pub no_row : Row
no_row = record { made = 0; occupied = false; id = 0; detached = false; depth = 0; end = 0; thread = new_record }

-- the row with this index
abbrev pub row_at : List Row → ℕ → Row
row_at rows index = slice_index_or rows index no_row

-- the frames of a thread, by its row and the words of its stack slot
abbrev pub row_frames : Row → List ℕ → List Frame
row_frames row words = frames_in words row.depth

-- a thread, by its row and the words of its stack slot
abbrev pub held_in : Row → List ℕ → Held
held_in row words = record { id = row.id; detached = row.detached; frames = row_frames row words; thread = row.thread }

-- a slot, by its row and the words of its stack slot
abbrev pub slot_in : Row → List ℕ → Slot
slot_in row words = record { made = row.made; here = if row.occupied then Some (held_in row words) else None }

-- the slots from an index on, which is that of the first row
abbrev pub slots_from : ℕ → List Row → Stacks → List Slot
slots_from index [] stacks = []
slots_from index (row ∷ rows) stacks = slot_in row (words_at stacks index) ∷ slots_from (suc index) rows stacks

-- the slots of a table
abbrev pub slots_in : List Row → Stacks → List Slot
slots_in rows stacks = slots_from 0 rows stacks

-- the words after the newest frame are from here on, counted from the first word of the first stack slot
abbrev pub IsEnd : ℕ → Row → Type 0
IsEnd slot row = row.end ≡ slot * 204 + 12 * row.depth

-- a stack slot is taken exactly if a thread holds the slot, and has words for 17 frames
pub record IsKept (rows : List Row) (stacks : Stacks) : Type 0 where
  pub width : stacks.width ≡ 204
  pub count : length stacks.slots ≡ 64
  pub few : length rows ≤ 64
  pub taken : (i : ℕ) → is_taken stacks i ≡ (row_at rows i).occupied
  pub deep : (i : ℕ) → (row_at rows i).depth ≤ 17
  pub end : (i : ℕ) → (row_at rows i).occupied ≡ true → IsEnd i (row_at rows i)

-- a thread holds the slot
pub record IsHeld (row : Row) (stacks : Stacks) (slot : ℕ) : Type 0 where
  pub occupied : row.occupied ≡ true
  pub taken : is_taken stacks slot ≡ true
  pub width : stacks.width ≡ 204
  pub deep : row.depth ≤ 17
  pub end : IsEnd slot row

-- a change of a slot, by its row and its stack slot
pub record IsStep (row after : Row) (old new : Stacks) (slot : ℕ) (change : Slot → Slot) : Type 0 where
  pub others : new.slots ≡ slice_set old.slots slot (slot_at new slot)
  pub width : new.width ≡ old.width
  pub taken : is_taken new slot ≡ after.occupied
  pub deep : after.depth ≤ 17
  pub end : after.occupied ≡ true → IsEnd slot after
  pub seen : slot_in after (words_at new slot) ≡ change (slot_in row (words_at old slot))

-- ---- what a row says of its thread

-- the thread with this id holds the slot
abbrev pub is_row : ℕ → Row → Bool
is_row id row = row.occupied && nat_eq row.id id

-- the place of the thread
abbrev pub row_place : Row → Place
row_place row = record { id = row.id; detached = row.detached; depth = row.depth }

-- ---- changes of a row

-- with a new thread, which has no frame
abbrev pub row_created : ℕ → Bool → Row → Row
row_created id detached row = record row { made = row.made + 1; occupied = true; id = id; detached = detached; depth = 0; thread = new_record }

-- after the end of the thread
abbrev pub row_ended : ℕ → Row → Row
row_ended value row = record row { thread = ended_record value row.thread; occupied = row.occupied && not row.detached }

-- after the thread was detached
abbrev pub row_detached : Row → Row
row_detached row = record row { detached = true; occupied = row.occupied && not (is_ended_status row.thread.status) }

-- without the thread, if it has ended and is detached
abbrev pub row_settled : Row → Row
row_settled row = record row { occupied = row.occupied && not (is_ended_status row.thread.status && row.detached) }

-- without the thread, with as many threads ever created as on the other
abbrev pub row_freed_as : Row → Row → Row
row_freed_as other row = record row { made = other.made; occupied = false; depth = 0 }
