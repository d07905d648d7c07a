-- A new thread with an id that is offered: the slot of the id is free, and the id is that of the next thread on it.
use Rattle.pct_names.proofs.Names.{◌%◌, ◌*◌, ◌+◌, ◌++◌, ◌-◌, ◌<◌, [], ap, arith, Bool, cond, false, false≢true, inl, inr, is_some}
use Rattle.pct_names.proofs.Names.{KeyValues, length, List, list_any, map, mod-mul-add, nat_eq, NewThread, no_values, None, none-some, not}
use Rattle.pct_names.proofs.Names.{Option, or_cases, refl, same_Some, slice_get, slice_get_within, slice_set, slot_of, Some, subst, suc}
use Rattle.pct_names.proofs.Names.{sym, Thread, thread_created, true, ℕ, ◌∙◌, ◌∷◌, ◌≡◌, ◌⊎◌}
use Rattle.std.proofs.Common.{zero-add, eqb-true}
use Rattle.pct_threads.specs.Slots.{Held, Slot, new_held, created}
use Rattle.pct_threads.specs.Tables.{slot_at, held_at, is_free_at, next_id_at, with_created}
use Rattle.pct_threads.proofs.TableLemmas.{is_free_at-within}
use Rattle.pct_keys.specs.Tables.{Table, row_at}
use Rattle.pct_engine_laws.specs.Seen.{SeenSlot, slot_with}
use Rattle.pct_engine_laws.specs.Seen as seen
use Rattle.pct_engine_laws.specs.SeenSteps.{is_empty, new_ids_from}
use Rattle.pct_process.specs.ThreadViews.{thread_of, threads_of, with_specific}
use Rattle.pct_process.specs.ProcessViews.{slots_of}
use Rattle.pct_process.proofs.ViewedSlots.{length-slots_of, slot_here}
use Rattle.pct_actions.proofs.TableSlots.{seen_at, changed_slot}

-- ---- the ids that are offered

-- slot i is free, and n is the id of the next thread on it, where the slots are those from slot s on
record IsNextOn (slots s n : ℕ) (rows : List SeenSlot) (i : ℕ) : Type 0 where
  slot : SeenSlot
  here : slice_get rows i ≡ Some slot
  free : slot.here ≡ []
  id_is : n ≡ 1 + (s + i) + slots * slot.made

none_here : (ts : List Thread) → is_empty ts ≡ true → ts ≡ []
none_here [] empty = refl
none_here (t ∷ ts) empty = absurd (false≢true empty)

-- an id among one, if a test holds, and others
among_if : (n x : ℕ) (rest : List ℕ) (test : Bool) → list_any (nat_eq n) (cond test (x ∷ []) [] ++ rest) ≡ true → ((test ≡ true) × (n ≡ x)) ⊎ (list_any (nat_eq n) rest ≡ true)
among_if n x rest true among =
    elim (or_cases (nat_eq n x) (list_any (nat_eq n) rest) among) [
      | inl is ↦ inl (refl, eqb-true n x is)
      | inr later ↦ inr later
    ]
among_if n x rest false among = inr among

-- an id that is offered is that of the next thread on a free slot
new_on_slot : (slots s n : ℕ) (rows : List SeenSlot) → list_any (nat_eq n) (new_ids_from slots s rows) ≡ true → (i : ℕ) × IsNextOn slots s n rows i
new_on_slot slots s n [] among = absurd (false≢true among)
new_on_slot slots s n (row ∷ rows) among =
    elim (among_if n (1 + s + slots * row.made) (new_ids_from slots (s + 1) rows) (is_empty row.here) among) [
      | inl here ↦
          let at : s ≡ s + 0 = omega arith in
          (0, record { slot = row; here = refl; free = none_here row.here here.0; id_is = here.1 ∙ ap (λ (k : ℕ). 1 + k + slots * row.made) at })
      | inr later ↦
          let rest = new_on_slot slots (s + 1) n rows later in
          let at : s + 1 + rest.0 ≡ s + suc rest.0 = omega arith in
          (suc rest.0, record { slot = rest.1.slot; here = rest.1.here; free = rest.1.free; id_is = rest.1.id_is ∙ ap (λ (k : ℕ). 1 + k + slots * rest.1.slot.made) at })
    ]

-- the slot of that id
slot_of_next : (slots n i made : ℕ) → i < slots → n ≡ 1 + (0 + i) + slots * made → slot_of slots n ≡ i
slot_of_next slots n i made low is =
    let at : n - 1 ≡ made * slots + i = omega (arith, is) in
    ap (λ (k : ℕ). k % slots) at ∙ mod-mul-add made slots i low

-- ---- the table

-- the slot with an index is free, and the new thread gets the next id on it
pub record IsNext (new : NewThread) (threads : List Slot) (k : ℕ) : Type 0 where
  pub inside : k < length threads
  pub none : held_at threads k ≡ None
  pub free : is_free_at threads k ≡ true
  pub id_is : next_id_at threads k ≡ new.id

module _ (keys : Table) (threads : List Slot) (fit : length keys.rows ≡ length threads) (new : NewThread) where
  abbrev slots : List SeenSlot
  slots = slots_of keys.rows threads

  free_here : (k : ℕ) (o : Option Held) → map (with_specific (row_at keys k)) (threads_of o) ≡ [] → o ≡ None
  free_here k None is = refl
  free_here k (Some h) is = absurd (none-some (with_specific (row_at keys k) (thread_of h)) (sym (ap (λ (ts : List Thread). slice_get ts 0) is)))

  -- an id that is offered is that of the next thread on its slot
  pub is_next : (k : ℕ) → k ≡ slot_of (length threads) new.id → list_any (nat_eq new.id) (new_ids_from (length slots) 0 slots) ≡ true → IsNext new threads k
  is_next k is among =
      let all : length slots ≡ length threads = length-slots_of keys threads fit in
      let on = new_on_slot (length slots) 0 new.id slots among in
      let i : ℕ = on.0 in
      let low : i < length slots = slice_get_within slots i on.1.slot on.1.here in
      let inside : i < length threads = subst (λ (n : ℕ). i < n) all low in
      let same : seen_at keys threads fit i ≡ on.1.slot = same_Some (seen_at keys threads fit i) on.1.slot (sym (slot_here keys threads fit i inside) ∙ on.1.here) in
      let none : held_at threads i ≡ None = free_here i (held_at threads i) (ap (λ (x : SeenSlot). x.here) same ∙ on.1.free) in
      let at : i ≡ k = sym (slot_of_next (length slots) new.id i on.1.slot.made low on.1.id_is) ∙ ap (λ (n : ℕ). slot_of n new.id) all ∙ sym is in
      subst (IsNext new threads) at (record {
        inside = inside;
        none = none;
        free = is_free_at-within threads i inside ∙ ap (λ (o : Option Held). not (is_some o)) none;
        id_is = ap (λ (n : ℕ). 1 + i + length threads * n) (ap (λ (x : SeenSlot). x.made) same) ∙ ap (λ (n : ℕ). 1 + i + n * on.1.slot.made) (sym all) ∙ sym (on.1.id_is ∙ ap (λ (n : ℕ). 1 + n + length slots * on.1.slot.made) (zero-add i));
      })

  -- the slots with the new thread, which has no data
  pub slots_created : (k : ℕ) → k ≡ slot_of (length threads) new.id → IsNext new threads k → slots_of (slice_set keys.rows k no_values) (with_created k new.func new.arg new.detached threads) ≡ seen.with_created (length slots) (Some new) slots
  slots_created k is next =
      let row : KeyValues = row_at keys k in
      let made : ℕ = (slot_at threads k).made in
      changed_slot keys threads fit k no_values (created (next_id_at threads k) new.func new.arg new.detached) (slot_with new) next.inside
      (λ i. record {
        made = made + 1;
        here = (ap (λ (x : ℕ). thread_of (new_held x new.func new.arg new.detached) ∷ []) next.id_is ∙ sym (ap (λ (o : Option Held). map (with_specific row) (threads_of o) ++ thread_created (Some new)) next.none)) i;
      })
      ∙ ap (λ (j : ℕ). seen.on_slot j (slot_with new) slots) (is ∙ ap (λ (n : ℕ). slot_of n new.id) (sym (length-slots_of keys threads fit)))
