-- The slots of threads, in a process where the threads on each slot hold it.
use Rattle.pct_names.proofs.Names.{[], All, All-head, ap, Bool, cases_lt, cond, false, false≢true, find, get_or_past, inl, inr, is_some}
use Rattle.pct_names.proofs.Names.{length, List, nat_eq, None, none-some, Option, option_and_then, option_and_then_some, option_map, refl}
use Rattle.pct_names.proofs.Names.{same_Some, slice_get, slice_get-get_or, slot_of, Some, sym, Thread, true, ℕ, ◌∙◌, ◌∷◌, ◌≡◌}
use Rattle.std.proofs.lemmas.Bool.{eq-eqb, eqb-true}
use Rattle.pct_engine_laws.specs.Seen.{SeenSlot}
use Rattle.pct_engine_laws.specs.SeenSteps.{thread_on, thread_with}
use Rattle.pct_process.specs.ProcessViews.{first_of, slot_on, thread_on_slot, HoldsThread, HoldsOneSlot}
use Rattle.pct_actions.specs.ProcessChanges.{IsOnSlot, AreOnSlots}

first_found : (slots k : ℕ) (t : Thread) (here : List Thread) → first_of here ≡ Some t → All (IsOnSlot slots k) here → (slot_of slots t.id ≡ k) × (find (λ u. nat_eq u.id t.id) here ≡ Some t)
first_found slots k t [] first on = absurd (none-some t first)
first_found slots k t (u ∷ rest) first on =
    let same : u ≡ t = same_Some u t first in (
      ap (λ (x : Thread). slot_of slots x.id) (sym same) ∙ (All-head (IsOnSlot slots k) u rest on).on,
      ap (λ b. cond b (Some u) (find (λ x. nat_eq x.id t.id) rest)) (eq-eqb u.id t.id (ap (λ (x : Thread). x.id) same)) ∙ ap (λ (x : Thread). Some x) same,
    )

module _ (slots : List SeenSlot) (on : AreOnSlots slots) where
  -- the thread on a slot: the slot is that of its id, by which it is found
  pub held_by : (k : ℕ) (t : Thread) → thread_on_slot slots k ≡ Some t → (slot_of (length slots) t.id ≡ k) × (thread_with (length slots) t.id slots ≡ Some t)
  held_by k t at =
      elim (cases_lt k (length slots)) [
        | inl inside ↦
            let row : slice_get slots k ≡ Some (slot_on slots k) = slice_get-get_or slots k _ inside in
            let found = first_found (length slots) k t (slot_on slots k).here at (on k (slot_on slots k) row) in
            (found.0, ap (λ (i : ℕ). option_and_then (thread_on t.id) (slice_get slots i)) found.0 ∙ ap (option_and_then (thread_on t.id)) row ∙ found.1)
        | inr past ↦ absurd (none-some t (sym (ap (λ (s : SeenSlot). first_of s.here) (get_or_past slots k _ past)) ∙ at))
      ]

  id_found : (tid : ℕ) (t : Thread) (here : List Thread) → find (λ u. nat_eq u.id tid) here ≡ Some t → t.id ≡ tid
  id_found tid t [] found = absurd (none-some t found)
  id_found tid t (u ∷ rest) found = by (nat_eq u.id tid) refl (id_found tid t rest) found where
    by : (b : Bool) → nat_eq u.id tid ≡ b → (find (λ u. nat_eq u.id tid) rest ≡ Some t → t.id ≡ tid) → cond b (Some u) (find (λ u. nat_eq u.id tid) rest) ≡ Some t → t.id ≡ tid
    by true named later found = sym (ap (λ (x : Thread). x.id) (same_Some u t found)) ∙ eqb-true u.id tid named
    by false other later found = later found

  -- the thread that is found by an id holds one slot
  pub one_slot : (tid k : ℕ) → HoldsThread (thread_with (length slots) tid slots) (thread_on_slot slots k) → HoldsOneSlot tid k slots
  one_slot tid k holds = by (thread_on_slot slots k) refl holds.some where
    named : (j : ℕ) → option_map (λ (t : Thread). t.id) (thread_on_slot slots j) ≡ Some tid → slot_of (length slots) tid ≡ j
    named j is = at (thread_on_slot slots j) refl is where
      at : (o : Option Thread) → thread_on_slot slots j ≡ o → option_map (λ (t : Thread). t.id) o ≡ Some tid → slot_of (length slots) tid ≡ j
      at None here is = absurd (none-some tid is)
      at (Some t) here is = ap (slot_of (length slots)) (sym (same_Some t.id tid is)) ∙ (held_by j t here).0

    by : (o : Option Thread) → thread_on_slot slots k ≡ o → is_some o ≡ true → HoldsOneSlot tid k slots
    by None here some = absurd (false≢true some)
    by (Some t) here some =
        let id_is : t.id ≡ tid = option_and_then_some (thread_on tid) (slice_get slots (slot_of (length slots) tid)) t (holds.same ∙ here) (λ s at found. id_found tid t s.here found) in
        let one : option_map (λ (t : Thread). t.id) (thread_on_slot slots k) ≡ Some tid = ap (option_map (λ (t : Thread). t.id)) here ∙ ap Some id_is in
        record { here = one; alone = λ other is. sym (named other is) ∙ named k one }
