-- What is read of the tables of a process is what its data has.
use Rattle.pct_names.proofs.Names.{◌*◌, ◌+◌, ◌<◌, [], ◌^◌, ap, false≢true, get_or_from_slice_get, is_some, length, List, None, none-some}
use Rattle.pct_names.proofs.Names.{Option, option_map, option_map_or, refl, same_Some, Some, subst, sym, Thread, true, ℕ, ◌∙◌, ◌≡◌}
use Rattle.pct_threads.specs.declared.record.Thread.{Thread as Record}
use Rattle.pct_threads.specs.Slots.{Held, Slot}
use Rattle.pct_threads.specs.Tables.{slot_at, held_at, thread_at, frames_at, is_occupied_at}
use Rattle.pct_keys.specs.Tables.{Table, row_at}
use Rattle.pct_engine_laws.specs.Seen.{SeenSlot}
use Rattle.pct_process.specs.ThreadViews.{slot_view}
use Rattle.pct_process.specs.ProcessViews.{with_row, slots_of, slot_on, thread_on_slot}
use Rattle.pct_process.proofs.ViewedSlots.{own, length-slots_of, slot_here, thread_on_slot-is}
use Rattle.pct_step_context.specs.Numbers.{IdsFit}
use Rattle.pct_step_context.specs.ThreadRecords.{IsRecord}

-- the thread of an option
held_by : (f : Held → Thread) (o : Option Held) (t : Thread) → option_map f o ≡ Some t → (h : Held) × (o ≡ Some h) × (f h ≡ t)
held_by f None t is = absurd (none-some t is)
held_by f (Some h) t is = (h, refl, same_Some (f h) t is)

some_held : (f : Held → Thread) (o : Option Held) → is_some (option_map f o) ≡ true → is_some o ≡ true
some_held f None some = absurd (false≢true some)
some_held f (Some h) some = refl

module _ (keys : Table) (threads : List Slot) (fit : length keys.rows ≡ length threads) where
  abbrev slots : List SeenSlot
  slots = slots_of keys.rows threads

  -- a slot on which there is a thread is occupied
  pub occupied_by : (k : ℕ) → is_some (thread_on_slot slots k) ≡ true → is_occupied_at threads k ≡ true
  occupied_by k some = some_held (own keys threads fit k) (held_at threads k) (sym (ap (λ (o : Option Thread). is_some o) (thread_on_slot-is keys threads fit k)) ∙ some)

  -- the thread on it is that of the table, with its data
  pub held_of : (k : ℕ) (t : Thread) → thread_on_slot slots k ≡ Some t → (h : Held) × (held_at threads k ≡ Some h) × (own keys threads fit k h ≡ t)
  held_of k t is = held_by (own keys threads fit k) (held_at threads k) t (sym (thread_on_slot-is keys threads fit k) ∙ is)

  -- the numbers of new threads fit
  pub ids_fit : ((k : ℕ) → k < length slots → 1 + k + length slots * (slot_on slots k).made < 2 ^ 32) → IdsFit threads
  ids_fit fits k inside =
      let low : k < length slots = subst (λ (n : ℕ). k < n) (sym (length-slots_of keys threads fit)) inside in
      let made : (slot_on slots k).made ≡ (slot_at threads k).made = ap (λ (s : SeenSlot). s.made) (get_or_from_slice_get slots k (with_row (row_at keys k) (slot_view (slot_at threads k))) _ (slot_here keys threads fit k inside)) in
      subst (λ (n : ℕ). 1 + k + n * (slot_at threads k).made < 2 ^ 32) (length-slots_of keys threads fit)
      (subst (λ (n : ℕ). 1 + k + length slots * n < 2 ^ 32) made (fits k low))

  -- the record of a thread that the table has is that of the thread with its data
  status_of : (k : ℕ) (h : Held) (kept : Record) (o : Option Held) → o ≡ Some h → option_map (λ h. h.thread) o ≡ Some kept → IsRecord kept (own keys threads fit k h)
  status_of k h kept o there read =
      subst (λ (r : Record). IsRecord r (own keys threads fit k h)) (same_Some h.thread kept (ap (option_map (λ h. h.thread)) (sym there) ∙ read))
      (record { status_is = refl; cancel_is = record { state_is = refl; mode_is = refl; pending_is = refl } })

  -- the record on a slot is that of its thread
  pub record_read : (k : ℕ) (t : Thread) (kept : Record) → thread_at threads k ≡ Some kept → thread_on_slot slots k ≡ Some t → IsRecord kept t
  record_read k t kept read is =
      let h = held_of k t is in
      subst (IsRecord kept) h.2 (status_of k h.0 kept (held_at threads k) h.1 read)

  -- the frames on a slot are those of its thread
  pub frames_read : (k : ℕ) (t : Thread) → thread_on_slot slots k ≡ Some t → frames_at threads k ≡ t.frames
  frames_read k t is =
      let h = held_of k t is in
      ap (λ (o : Option Held). option_map_or (λ held. held.frames) o []) h.1 ∙ ap (λ (t : Thread). t.frames) h.2
