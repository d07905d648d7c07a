-- A broadcast: a scan of the slots whose threads wait on a condition variable, which unblocks each.
use Rattle.pct_names.proofs.Names.{◌&&◌, ◌<◌, [], ap, arith, Bool, Broadcast, cases_eq, cond, false, false≢true, inl, inr, is_some, is_waiting_on}
use Rattle.pct_names.proofs.Names.{length, length-map, List, map, nat_eq, None, none-some, not, Option, option_map, refl, slice_get, slice_set, Some, Status}
use Rattle.pct_names.proofs.Names.{sym, true, ℕ, ◌∙◌, ◌∷◌, ◌≡◌, ◌≤◌}
use Rattle.std.proofs.lemmas.Bool.{eq-eqb, ne_eqb}
use Rattle.std.proofs.lemmas.List.{ext_get_or, get_or-map, get_or-set_same, get_or-set_other}
use Rattle.pct_model.specs.declared.state.Status.TheVariants as status
use Rattle.pct_set.specs.Slots.{has_slot, without_slot}
use Rattle.pct_set.proofs.SlotLemmas.{has_where}
use Rattle.pct_set.proofs.SlotScans.{Scans, first_has, scan_there}
use Rattle.pct_threads.specs.Slots.{Held, Slot, unused, with_change}
use Rattle.pct_threads.specs.Tables.{slot_at, held_at, is_occupied_at, on_held}
use Rattle.pct_threads.proofs.TableLemmas.{within-occupied}
use Rattle.pct_process.specs.Standings.{standing_of, standing_on, waits_on}
use Rattle.pct_actions.specs.SharedChanges.{woken_by, woken_from}

-- the standing says whether a thread waits on a condition variable
pub waits_is : (c : ℕ) (s : Status) → waits_on c (standing_of s) ≡ is_waiting_on c s
waits_is c (status.Waiting cond mutex) = refl
waits_is c _ = refl

module _ (c : ℕ) (old : List Slot) where
  -- the thread on a slot waits on it
  abbrev pub waits_at : ℕ → Bool
  waits_at k = waits_on c (standing_on (held_at old k))

  -- the slots of a set are as they were, and the threads on the others were unblocked, if they waited
  abbrev pub WokenBut : List ℕ → List Slot → Type 0
  WokenBut rest new = (s : ℕ) → s < 64 → slot_at new s ≡ cond (has_slot rest s) (slot_at old s) (with_change (woken_from c) (slot_at old s))

  -- before the first slot
  pub none_yet : (rest : List ℕ) → ((s : ℕ) → s < 64 → has_slot rest s ≡ waits_at s) → WokenBut rest old
  none_yet rest waiting s small = by (has_slot rest s) (held_at old s) refl (waiting s small) where
    by : (b : Bool) (o : Option Held) → held_at old s ≡ o → b ≡ waits_on c (standing_on o) → slot_at old s ≡ cond b (slot_at old s) (with_change (woken_from c) (slot_at old s))
    by true o at has = refl
    by false None at has = λ i. record { made = (slot_at old s).made; here = (at ∙ sym (ap (option_map (woken_from c)) at)) i }
    by false (Some h) at has =
        let stays : woken_from c h ≡ h = ap (λ (b : Bool). cond b (woken_by Broadcast h) h) (sym (has ∙ waits_is c h.thread.status)) in
        λ i. record { made = (slot_at old s).made; here = (at ∙ sym (ap (option_map (woken_from c)) at ∙ ap (λ (x : Held). Some x) stays)) i }

  module _ (rest : List ℕ) (new : List Slot) (slot : ℕ) (small : slot < 64) (first : Some slot ≡ slice_get rest 0) (scan : Scans (λ s. false) waits_at rest [])
      (but : WokenBut rest new) where
    -- the first slot is as it was
    as_it_was : slot_at new slot ≡ slot_at old slot
    as_it_was = but slot small ∙ ap (λ (b : Bool). cond b (slot_at old slot) (with_change (woken_from c) (slot_at old slot))) (first_has rest slot (sym first))

    -- and its thread waits
    waiting : waits_on c (standing_on (held_at new slot)) ≡ true
    waiting = ap (λ (s : Slot). waits_on c (standing_on s.here)) as_it_was ∙ scan_there (λ s. false) waits_at rest [] scan slot first small

    pub still_there : is_occupied_at new slot ≡ true
    still_there = by (held_at new slot) waiting where
      by : (o : Option Held) → waits_on c (standing_on o) ≡ true → is_some o ≡ true
      by None waits = absurd (false≢true waits)
      by (Some h) waits = refl

    -- so that it is unblocked
    woken_same : on_held slot (woken_by Broadcast) new ≡ on_held slot (woken_from c) new
    woken_same = ap (λ (o : Option Held). slice_set new slot (record (slot_at new slot) { here = o })) (by (held_at new slot) waiting) where
      by : (o : Option Held) → waits_on c (standing_on o) ≡ true → option_map (woken_by Broadcast) o ≡ option_map (woken_from c) o
      by None waits = refl
      by (Some h) waits = ap (λ (b : Bool). Some (cond b (woken_by Broadcast h) h)) (sym waits ∙ waits_is c h.thread.status)

    -- one more slot
    pub one_more : (after : List Slot) → after ≡ on_held slot (woken_by Broadcast) new → WokenBut (without_slot slot rest) after
    one_more after woken s low =
        let x : Slot = with_change (woken_from c) (slot_at new slot) in
        let by : Bool → Slot = λ b. cond b (slot_at old s) (with_change (woken_from c) (slot_at old s)) in
        let left : has_slot (without_slot slot rest) s ≡ (not (nat_eq s slot) && has_slot rest s) = has_where (λ k. not (nat_eq k slot) && has_slot rest k) s low in
        ap (λ (threads : List Slot). slot_at threads s) (woken ∙ woken_same)
        ∙ elim (cases_eq s slot) [
          | inl same ↦
              ap (slot_at (on_held slot (woken_from c) new)) same ∙ get_or-set_same new slot x unused (within-occupied new slot still_there)
              ∙ ap (with_change (woken_from c)) (as_it_was ∙ ap (slot_at old) (sym same))
              ∙ sym (ap by (left ∙ ap (λ (b : Bool). not b && has_slot rest s) (eq-eqb s slot same)))
          | inr other ↦ get_or-set_other new slot s x unused other ∙ but s low ∙ sym (ap by (left ∙ ap (λ (b : Bool). not b && has_slot rest s) (ne_eqb s slot other)))
        ]

  -- after the last one
  pub all_woken : (rest : List ℕ) (new : List Slot) → slice_get rest 0 ≡ None → length new ≡ length old → length old ≤ 64 → WokenBut rest new → new ≡ map (with_change (woken_from c)) old
  unfolding has_slot
  all_woken [] new none long few but =
      ext_get_or unused new (map (with_change (woken_from c)) old) (long ∙ sym (length-map old (with_change (woken_from c))))
      (λ s inside. but s (omega (arith, inside, long, few)) ∙ sym (get_or-map (with_change (woken_from c)) old s unused unused (omega (arith, inside, long))))
  all_woken (x ∷ xs) new none long few but = absurd (none-some x (sym none))
