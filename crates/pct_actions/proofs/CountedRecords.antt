-- How many records the actions on named threads take: one, or one for each thread that waits on a condition variable.
use Rattle.pct_names.proofs.Names.{◌+◌, ◌++◌, [], ap, arith, Bool, cases_lt, cond, drop, drop_all, drop_more, false, filter, get_or_past, holds_slot}
use Rattle.pct_names.proofs.Names.{inl, inr, KeyValues, length, List, map, moved, NamedAction, nat_eq, Option, refl, slice_get, slice_set, Some, subst}
use Rattle.pct_names.proofs.Names.{Status, suc, sym, Thread, Transition, true, Waiter, waiter_by, waiters_among, zero, None, ℕ, ◌∙◌, ◌∷◌, ◌≡◌, ◌≤◌}
use Rattle.std.specs.List.{range_with_len}
use Rattle.std.proofs.Common.{append-nil, length-append, zero-add}
use Rattle.std.proofs.lemmas.List.Concat.{flat_map-append}
use Rattle.pct_model.specs.declared.state.Status.TheVariants as status
use Rattle.pct_model.specs.declared.transition.NamedAction.TheVariants as named_action
use Rattle.pct_set.specs.Slots.{slots_where}
use Rattle.pct_threads.specs.Slots.{Held, Slot, unused}
use Rattle.pct_threads.specs.Tables.{held_at}
use Rattle.pct_engine_laws.specs.Seen.{SeenSlot, on_slot, threads_on}
use Rattle.pct_process.specs.Standings.{standing_of, standing_on, waits_on}
use Rattle.pct_process.specs.ThreadViews.{threads_of, with_specific}
use Rattle.pct_process.specs.ProcessViews.{slots_of, ProcessData}
use Rattle.pct_actions.specs.ProcessChanges.{forgotten_key, woken}
use Rattle.pct_actions.specs.ProcessParts.{slot_changed, taken}
use Rattle.pct_actions.specs.SharedChanges.{forgotten, records_of, waiting_slots}
use Rattle.pct_actions.proofs.ChangedSlots.{on_slot-here}

module _ (c : ℕ) where
  -- how many of some threads wait
  abbrev waiting : List Thread → ℕ
  waiting ts = length (waiters_among c ts)

  waiting-append : (these those : List Thread) → waiting (these ++ those) ≡ waiting these + waiting those
  waiting-append these those = ap (λ (ws : List Waiter). length ws) (flat_map-append (λ (t : Thread). waiter_by c t.id t.status) these those) ∙ length-append (waiters_among c these) (waiters_among c those)

  -- ---- of a table

  -- the thread on a slot, if it waits
  abbrev one_if : Option Held → ℕ
  one_if here = cond (waits_on c (standing_on here)) 1 0

  one_by : (id : ℕ) (s : Status) → cond (waits_on c (standing_of s)) 1 0 ≡ length (waiter_by c id s)
  one_by id (status.Waiting waited mutex) = either (record { id = id; mutex = mutex }) (nat_eq waited c) where
    either : (w : Waiter) (b : Bool) → cond b 1 0 ≡ length (cond b (w ∷ []) [])
    either w true = refl
    either w false = refl
  one_by id _ = refl

  one_here : (row : KeyValues) (here : Option Held) → one_if here ≡ waiting (map (with_specific row) (threads_of here))
  one_here row None = refl
  one_here row (Some h) = one_by h.id h.thread.status ∙ ap length (sym (append-nil (waiter_by c h.id h.thread.status)))

  -- how many wait on the slots of a list
  abbrev waiting_in : List Slot → ℕ
  waiting_in [] = 0
  waiting_in (s ∷ threads) = one_if s.here + waiting_in threads

  waiting_in-is : (rows : List KeyValues) (threads : List Slot) → length rows ≡ length threads → waiting_in threads ≡ waiting (threads_on (slots_of rows threads))
  waiting_in-is [] [] fit = refl
  waiting_in-is [] (s ∷ threads) fit = absurd (omega (arith, fit))
  waiting_in-is (row ∷ rows) [] fit = absurd (omega (arith, fit))
  waiting_in-is (row ∷ rows) (s ∷ threads) fit =
      let rest = waiting_in-is rows threads (omega (arith, fit)) in
      let here = one_here row s.here in
      omega (arith, rest, here, waiting-append (map (with_specific row) (threads_of s.here)) (threads_on (slots_of rows threads)))

  -- those from a slot on
  waiting_from : (threads : List Slot) (s n : ℕ) → length threads ≤ s + n → length (filter (λ k. waits_on c (standing_on (held_at threads k))) (range_with_len s n)) ≡ waiting_in (drop s threads)
  waiting_from threads s zero within = ap waiting_in (sym (drop_all s threads (omega (arith, within))))
  waiting_from threads s (suc n) within =
      one_more (waits_on c (standing_on (held_at threads s))) (filter (λ k. waits_on c (standing_on (held_at threads k))) (range_with_len (s + 1) n))
      ∙ ap (λ (k : ℕ). one_if (held_at threads s) + k) (waiting_from threads (s + 1) n (omega (arith, within)))
      ∙ elim (cases_lt s (length threads)) [
        | inl inside ↦ ap waiting_in (sym (drop_more threads s unused inside))
        | inr past ↦
            ap (λ (slot : Slot). one_if slot.here + waiting_in (drop (s + 1) threads)) (get_or_past threads s unused past)
            ∙ zero-add (waiting_in (drop (s + 1) threads))
            ∙ ap waiting_in (drop_all (s + 1) threads (omega (arith, past)) ∙ sym (drop_all s threads past))
      ]
    where
      one_more : (b : Bool) (rest : List ℕ) → length (cond b (s ∷ rest) rest) ≡ cond b 1 0 + length rest
      one_more true rest = omega arith
      one_more false rest = omega arith

  -- all
  pub waiting_are : (rows : List KeyValues) (threads : List Slot) → length rows ≡ length threads → length threads ≤ 64 → length (waiting_slots c threads) ≡ waiting (threads_on (slots_of rows threads))
  unfolding slots_where
  waiting_are rows threads fit few = waiting_from threads 0 64 few ∙ waiting_in-is rows threads fit

  -- ---- after a change of one slot

  few_by : (id : ℕ) (s : Status) → length (waiter_by c id s) ≤ 1
  few_by id (status.Waiting waited mutex) = either (record { id = id; mutex = mutex }) (nat_eq waited c) where
    either : (w : Waiter) (b : Bool) → length (cond b (w ∷ []) []) ≤ 1
    either w true = omega arith
    either w false = omega arith
  few_by id _ = omega arith

  one_slot_more : (slots : List SeenSlot) (i : ℕ) (x : SeenSlot) → waiting x.here ≤ 1 → waiting (threads_on (slice_set slots i x)) ≤ 1 + waiting (threads_on slots)
  one_slot_more [] i x few = omega arith
  one_slot_more (s ∷ slots) zero x few =
      omega (arith, few, waiting-append x.here (threads_on slots), waiting-append s.here (threads_on slots))
  one_slot_more (s ∷ slots) (suc i) x few =
      omega (arith, one_slot_more slots i x few, waiting-append s.here (threads_on (slice_set slots i x)), waiting-append s.here (threads_on slots))

  one_thread : (t : Thread) (b : Bool) → waiting (cond b (t ∷ []) []) ≤ 1
  one_thread t true = subst (λ (n : ℕ). n ≤ 1) (sym (ap length (append-nil (waiter_by c t.id t.status)))) (few_by t.id t.status)
  one_thread t false = omega arith

  pub waiting_more : (o : Transition) (slots : List SeenSlot) (slot made : ℕ) (t : Thread) → slice_get slots slot ≡ Some (record { made = made; here = t ∷ [] })
      → waiting (threads_on (on_slot slot (slot_changed (moved o)) slots)) ≤ 1 + waiting (threads_on slots)
  waiting_more o slots slot made t alone =
      let s : SeenSlot = record { made = made; here = t ∷ [] } in
      let few = one_thread (moved o t) (holds_slot (moved o t)) in
      rw (on_slot-here slot slots s alone (slot_changed (moved o))) (one_slot_more slots slot (slot_changed (moved o) s) few)

-- ---- the actions

-- those that an action takes, where the table has forgotten the key that is deleted
pub taken_is : (rows : List KeyValues) (threads : List Slot) → length rows ≡ length threads → length threads ≤ 64 → (a : Option NamedAction) (p : ProcessData)
    → slots_of rows threads ≡ forgotten (forgotten_key a) p.slots → records_of a threads ≡ taken a p.slots
taken_is rows threads fit few (Some (named_action.WakeAll c)) p same = waiting_are c rows threads fit few ∙ ap (λ (slots : List SeenSlot). length (waiters_among c (threads_on slots))) same
taken_is rows threads fit few _ p same = refl

-- at most one more than it wakes, after a transition of one thread
pub taken_more : (o : Transition) (slots : List SeenSlot) (slot made : ℕ) (t : Thread) → slice_get slots slot ≡ Some (record { made = made; here = t ∷ [] }) → (a : Option NamedAction)
    → taken a (on_slot slot (slot_changed (moved o)) slots) ≤ 1 + woken a slots
taken_more o slots slot made t alone (Some (named_action.WakeAll c)) = waiting_more c o slots slot made t alone
taken_more o slots slot made t alone _ = omega arith
