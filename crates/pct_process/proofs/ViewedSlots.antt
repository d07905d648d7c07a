-- The slots of a process, read from its tables.
use Rattle.pct_names.proofs.Names.{◌<◌, [], All, ap, arith, Bool, cases_lt, cond, false, find, get_or_from_slice_get, get_or_past, IfSome}
use Rattle.pct_names.proofs.Names.{inl, inr, is_some, KeyValues, length, length-map, List, map, nat_eq, None, none-some, Option}
use Rattle.pct_names.proofs.Names.{option_and_then, option_map, option_map_or, refl, same_Some, slice_get, slot_of, Some, subst, sym}
use Rattle.pct_names.proofs.Names.{Thread, true, ℕ, ◌∙◌, ◌≡◌, ◌≤◌}
use Rattle.std.specs.Prelude.{IfNone}
use Rattle.std.proofs.lemmas.List.{get_or-map}
use Rattle.pct_set.specs.Slots.{slots_where}
use Rattle.pct_set.proofs.SlotLemmas.{slots_agree}
use Rattle.pct_threads.specs.declared.record.Place.{Place}
use Rattle.pct_threads.specs.Slots.{Held, Slot, unused, has_id, place_of}
use Rattle.pct_threads.specs.Tables.{slot_at, slot_named, held_at, is_occupied_at, place_at}
use Rattle.pct_keys.specs.Tables.{Table, row_at}
use Rattle.pct_engine_laws.specs.Seen.{SeenSlot}
use Rattle.pct_engine_laws.specs.SeenSteps.{thread_on, thread_with}
use Rattle.pct_process.specs.ThreadViews.{thread_of, threads_of, slot_view, with_specific}
use Rattle.pct_process.specs.ProcessViews.{with_row, slots_of, first_of, thread_on_slot, HoldsThread}
use Rattle.pct_process.proofs.RowViews.{length-with_rows, slice_get-with_rows}

module _ (keys : Table) (threads : List Slot) (fit : length keys.rows ≡ length threads) where
  abbrev slots : List SeenSlot
  slots = slots_of keys.rows threads

  -- a thread on a slot, with its data
  abbrev pub own : ℕ → Held → Thread
  own k h = with_specific (row_at keys k) (thread_of h)

  -- there are as many as in the table
  pub length-slots_of : length slots ≡ length threads
  length-slots_of = length-with_rows keys.rows (map slot_view threads) ∙ length-map threads slot_view

  -- a slot
  pub slot_here : (k : ℕ) → k < length threads → slice_get slots k ≡ Some (with_row (row_at keys k) (slot_view (slot_at threads k)))
  slot_here k inside =
      let low : k < length (map slot_view threads) = rw (length-map threads slot_view) inside in
      slice_get-with_rows keys.rows (map slot_view threads) k _ (slot_view unused) (fit ∙ sym (length-map threads slot_view)) low
      ∙ ap (λ (s : SeenSlot). Some (with_row (row_at keys k) s)) (get_or-map slot_view threads k unused (slot_view unused) inside)

  first_here : (k : ℕ) (o : Option Held) → first_of (map (with_specific (row_at keys k)) (threads_of o)) ≡ option_map (own k) o
  first_here k None = refl
  first_here k (Some h) = refl

  -- the thread on a slot is that of the table, with its data
  pub thread_on_slot-is : (k : ℕ) → thread_on_slot slots k ≡ option_map (own k) (held_at threads k)
  thread_on_slot-is k =
      elim (cases_lt k (length threads)) [
        | inl inside ↦
            ap (λ (s : SeenSlot). first_of s.here) (get_or_from_slice_get slots k (with_row (row_at keys k) (slot_view (slot_at threads k))) (record { made = 0; here = [] }) (slot_here k inside))
            ∙ first_here k (held_at threads k)
        | inr past ↦
            ap (λ (s : SeenSlot). first_of s.here) (get_or_past slots k (record { made = 0; here = [] }) (subst (λ (n : ℕ). n ≤ k) (sym length-slots_of) past))
            ∙ sym (ap (λ (s : Slot). option_map (own k) s.here) (get_or_past threads k unused past))
      ]

  held_on : (k : ℕ) (o : Option Held) → is_some (option_map (own k) o) ≡ is_some o
  held_on k None = refl
  held_on k (Some h) = refl

  -- there is a thread on a slot exactly if it is occupied
  occupied_is : (k : ℕ) → is_some (thread_on_slot slots k) ≡ is_occupied_at threads k
  occupied_is k = ap (λ (o : Option Thread). is_some o) (thread_on_slot-is k) ∙ held_on k (held_at threads k)

  -- a slot on which there is a thread is occupied
  pub occupied_on : (k : ℕ) (seen : List SeenSlot) → slots ≡ seen → is_some (thread_on_slot seen k) ≡ true → is_occupied_at threads k ≡ true
  occupied_on k seen are some = sym (occupied_is k) ∙ ap (λ (rows : List SeenSlot). is_some (thread_on_slot rows k)) are ∙ some

  -- the slots that are occupied
  pub occupied-are : slots_where (is_occupied_at threads) ≡ slots_where (λ k. is_some (thread_on_slot slots k))
  occupied-are = slots_agree _ _ (λ k small. sym (occupied_is k))

  found_here : (id k : ℕ) (o : Option Held) → find (λ t. nat_eq t.id id) (map (with_specific (row_at keys k)) (threads_of o)) ≡ cond (option_map_or (λ h. nat_eq h.id id) o false) (option_map (own k) o) None
  found_here id k None = refl
  found_here id k (Some h) = refl

  named_on : (has : Bool) (k : ℕ) → cond has (thread_on_slot slots k) None ≡ option_and_then (thread_on_slot slots) (cond has (Some k) None)
  named_on true k = refl
  named_on false k = refl

  module _ (id : ℕ) (found : Option ℕ) (is : found ≡ slot_named id threads) (some : 1 ≤ length threads) where
    -- the thread with an id is that on the slot that the id names
    pub thread_with-is : thread_with (length slots) id slots ≡ option_and_then (thread_on_slot slots) found
    thread_with-is =
        let k : ℕ = slot_of (length threads) id in
        ap (λ (n : ℕ). option_and_then (thread_on id) (slice_get slots (slot_of n id))) length-slots_of
        ∙ ap (option_and_then (thread_on id)) (slot_here k (omega (arith, some)))
        ∙ found_here id k (held_at threads k)
        ∙ ap (λ (o : Option Thread). cond (has_id id (slot_at threads k)) o None) (sym (thread_on_slot-is k))
        ∙ named_on (has_id id (slot_at threads k)) k
        ∙ ap (option_and_then (thread_on_slot slots)) (sym is)

    -- a look-up finds the thread on that slot
    pub looked_up : IfSome found (λ k. is_occupied_at threads k ≡ true) → IfSome found (λ k. HoldsThread (thread_with (length slots) id slots) (thread_on_slot slots k))
    looked_up held = by found thread_with-is held where
      by : (o : Option ℕ) → thread_with (length slots) id slots ≡ option_and_then (thread_on_slot slots) o → IfSome o (λ k. is_occupied_at threads k ≡ true) → IfSome o (λ k. HoldsThread (thread_with (length slots) id slots) (thread_on_slot slots k))
      by None same held = tt
      by (Some k) same held = record { same = same; some = occupied_is k ∙ held }

    -- and none if there is no such slot
    pub not_looked_up : IfNone found (thread_with (length slots) id slots ≡ None)
    not_looked_up = by found thread_with-is where
      by : (o : Option ℕ) → thread_with (length slots) id slots ≡ option_and_then (thread_on_slot slots) o → IfNone o (thread_with (length slots) id slots ≡ None)
      by None same = same
      by (Some k) same = tt

  -- ---- what is on each slot

  few_here : (row : KeyValues) (o : Option Held) → length (map (with_specific row) (threads_of o)) ≤ 1
  few_here row None = omega arith
  few_here row (Some h) = omega arith

  -- there is at most one
  pub one_each : All (λ (s : SeenSlot). length s.here ≤ 1) slots
  one_each k other low =
      let inside : k < length threads = rw (← length-slots_of) low in
      subst (λ (s : SeenSlot). length s.here ≤ 1) (sym (get_or_from_slice_get slots k (with_row (row_at keys k) (slot_view (slot_at threads k))) other (slot_here k inside))) (few_here (row_at keys k) (held_at threads k))

  id_here : (k : ℕ) (place : Place) (o : Option Held) → option_map place_of o ≡ Some place → option_map (λ (t : Thread). t.id) (option_map (own k) o) ≡ Some place.id
  id_here k place None is = absurd (none-some place is)
  id_here k place (Some h) is = ap (λ (p : Place). Some p.id) (same_Some (place_of h) place is)

  -- its id
  pub id_is : (k : ℕ) (place : Place) → place_at threads k ≡ Some place → option_map (λ (t : Thread). t.id) (thread_on_slot slots k) ≡ Some place.id
  id_is k place is = ap (option_map (λ (t : Thread). t.id)) (thread_on_slot-is k) ∙ id_here k place (held_at threads k) is
