-- The slots of a process after a change of one slot in its tables.
use Rattle.pct_names.proofs.Names.{◌<◌, [], ap, KeyValues, length, length-map, List, map, map-set, None, none-some, Option, option_map_or}
use Rattle.pct_names.proofs.Names.{refl, same_Some, set-get_or, slice_get, slice_get_within, slice_set, Some, subst, sym, Thread, ℕ, ◌∙◌}
use Rattle.pct_names.proofs.Names.{◌∷◌, ◌≡◌}
use Rattle.pct_threads.specs.Slots.{Held, Slot}
use Rattle.pct_threads.specs.Tables.{slot_at, held_at, on_slot}
use Rattle.pct_keys.specs.Tables.{Table, row_at, no_row}
use Rattle.pct_engine_laws.specs.Seen.{SeenSlot}
use Rattle.pct_engine_laws.specs.Seen as seen
use Rattle.pct_process.specs.ThreadViews.{threads_of, slot_view, with_specific}
use Rattle.pct_process.specs.ProcessViews.{with_row, with_rows, slots_of}
use Rattle.pct_process.proofs.RowViews.{set-with_rows}
use Rattle.pct_process.proofs.ViewedSlots.{own, length-slots_of, slot_here}

module _ (keys : Table) (threads : List Slot) (fit : length keys.rows ≡ length threads) where
  abbrev slots : List SeenSlot
  slots = slots_of keys.rows threads

  -- a slot with its row
  abbrev pub seen_at : ℕ → SeenSlot
  seen_at k = with_row (row_at keys k) (slot_view (slot_at threads k))

  -- the slots after a change of one slot and of its row
  pub changed_slot : (k : ℕ) (row : KeyValues) (change : Slot → Slot) (f : SeenSlot → SeenSlot) → k < length threads → with_row row (slot_view (change (slot_at threads k))) ≡ f (seen_at k)
      → slots_of (slice_set keys.rows k row) (on_slot k change threads) ≡ seen.on_slot k f slots
  changed_slot k row change f inside same =
      ap (with_rows (slice_set keys.rows k row)) (map-set slot_view threads k (change (slot_at threads k)))
      ∙ set-with_rows keys.rows (map slot_view threads) k row (slot_view (change (slot_at threads k))) (fit ∙ sym (length-map threads slot_view))
      ∙ ap (slice_set slots k) same
      ∙ sym (ap (λ (o : Option SeenSlot). option_map_or (λ (s : SeenSlot). slice_set slots k (f s)) o slots) (slot_here keys threads fit k inside))

  -- and of the slot alone
  pub changed_thread : (k : ℕ) (change : Slot → Slot) (f : SeenSlot → SeenSlot) → k < length threads → with_row (row_at keys k) (slot_view (change (slot_at threads k))) ≡ f (seen_at k)
      → slots_of keys.rows (on_slot k change threads) ≡ seen.on_slot k f slots
  changed_thread k change f inside same =
      ap (λ (rows : List KeyValues). slots_of rows (on_slot k change threads)) (sym (set-get_or keys.rows k no_row)) ∙ changed_slot k (row_at keys k) change f inside same

  -- a slot of the data is one of the table
  inside_table : (k : ℕ) (s : SeenSlot) → slice_get slots k ≡ Some s → k < length threads
  inside_table k s here = subst (λ (n : ℕ). k < n) (length-slots_of keys threads fit) (slice_get_within slots k s here)

  -- the one thread on a slot of the data holds the slot of the table
  pub held_here : (k : ℕ) (s : SeenSlot) (t : Thread) → slice_get slots k ≡ Some s → s.here ≡ t ∷ [] → (h : Held) × (held_at threads k ≡ Some h) × (own keys threads fit k h ≡ t)
  held_here k s t here one =
      let same : seen_at k ≡ s = same_Some (seen_at k) s (sym (slot_here keys threads fit k (inside_table k s here)) ∙ here) in
      by (held_at threads k) (ap (λ (x : SeenSlot). slice_get x.here 0) same ∙ ap (λ (ts : List Thread). slice_get ts 0) one)
    where
      by : (o : Option Held) → slice_get (map (with_specific (row_at keys k)) (threads_of o)) 0 ≡ Some t → (h : Held) × (o ≡ Some h) × (own keys threads fit k h ≡ t)
      by None is = absurd (none-some t is)
      by (Some h) is = (h, refl, same_Some (own keys threads fit k h) t is)
