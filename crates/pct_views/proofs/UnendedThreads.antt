-- The threads of a table that have not ended.
use Rattle.pct_names.proofs.Names.{◌<◌, [], ap, Bool, cond, false, false≢true, filter, get_or_from_slice_get, is_ended_status, is_some}
use Rattle.pct_names.proofs.Names.{length, List, map, None, none-some, not, Option, option_map, refl, same_Some, Some, sym, Thread, true, ℕ}
use Rattle.pct_names.proofs.Names.{◌∙◌, ◌∷◌, ◌≡◌}
use Rattle.pct_threads.specs.declared.record.Thread.{Thread as Record}
use Rattle.pct_threads.specs.Slots.{Held, Slot}
use Rattle.pct_threads.specs.Tables.{slot_at, held_at, thread_at, is_occupied_at}
use Rattle.pct_keys.specs.Tables.{Table, row_at}
use Rattle.pct_engine_laws.specs.Seen.{SeenSlot}
use Rattle.pct_process.specs.ThreadViews.{thread_of, threads_of, slot_view, with_specific}
use Rattle.pct_process.specs.ProcessViews.{with_row, slots_of, slot_on}
use Rattle.pct_process.proofs.ViewedSlots.{slot_here, thread_on_slot-is}
use Rattle.pct_step_context.proofs.ProcessReads.{record_read}
use Rattle.pct_view_laws.specs.Listed.{is_unended}
use Rattle.pct_views.specs.ShownThreads.{IsUnended}

module _ (keys : Table) (threads : List Slot) (fit : length keys.rows ≡ length threads) (k : ℕ) (inside : k < length threads) where
  abbrev slots : List SeenSlot
  slots = slots_of keys.rows threads

  -- those on a slot
  abbrev unended : Option Held → List Thread
  unended here = filter is_unended (map (with_specific (row_at keys k)) (threads_of here))

  unended_are : filter is_unended (slot_on slots k).here ≡ unended (held_at threads k)
  unended_are = ap (λ (s : SeenSlot). filter is_unended s.here) (get_or_from_slice_get slots k (with_row (row_at keys k) (slot_view (slot_at threads k))) _ (slot_here keys threads fit k inside))

  free_by : (here : Option Held) → is_some here ≡ false → unended here ≡ []
  free_by None free = refl
  free_by (Some h) free = absurd (false≢true (sym free))

  -- a free slot has none
  pub none_if_free : is_occupied_at threads k ≡ false → filter is_unended (slot_on slots k).here ≡ []
  none_if_free free = unended_are ∙ free_by (held_at threads k) free

  ended_by : (here : Option Held) (kept : Record) → option_map (λ h. h.thread) here ≡ Some kept → is_ended_status kept.status ≡ true → unended here ≡ []
  ended_by None kept read ended = refl
  ended_by (Some h) kept read ended =
      ap (λ (b : Bool). cond (not b) (with_specific (row_at keys k) (thread_of h) ∷ []) []) (ap (λ (r : Record). is_ended_status r.status) (same_Some h.thread kept read) ∙ ended)

  -- nor has one whose thread has ended
  pub none_if_ended : (kept : Record) → thread_at threads k ≡ Some kept → is_ended_status kept.status ≡ true → filter is_unended (slot_on slots k).here ≡ []
  none_if_ended kept read ended = unended_are ∙ ended_by (held_at threads k) kept read ended

  -- the record of another thread is that of a thread which has not ended
  pub unended_if_not : (kept : Record) → thread_at threads k ≡ Some kept → is_ended_status kept.status ≡ false → IsUnended slots k kept
  unended_if_not kept read going = by (held_at threads k) refl where
    by : (here : Option Held) → held_at threads k ≡ here → IsUnended slots k kept
    by None there = absurd (none-some kept (ap (option_map (λ h. h.thread)) (sym there) ∙ read))
    by (Some h) there =
        let t : Thread = with_specific (row_at keys k) (thread_of h) in
        let same : h.thread ≡ kept = same_Some h.thread kept (ap (option_map (λ h. h.thread)) (sym there) ∙ read) in
        let held = thread_on_slot-is keys threads fit k ∙ ap (option_map (λ h. with_specific (row_at keys k) (thread_of h))) there in
        record {
          thread = t;
          alone = unended_are ∙ ap unended there ∙ ap (λ (b : Bool). cond (not b) (t ∷ []) []) (ap (λ (r : Record). is_ended_status r.status) same ∙ going);
          held = held;
          kept_is = record_read keys threads fit k t kept read held;
          handlers_are = ap (λ (r : Record). r.handlers) (sym same);
        }
