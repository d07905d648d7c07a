-- A transition leaves the condition of each slot that it does not touch.
use Rattle.pct_names.proofs.Names.{◌&&◌, [], All, ap, arith, Bool, cases_eq, cases_lt, cond, false, filter, get_or_past, has_valid_id}
use Rattle.pct_names.proofs.Names.{holds_slot, if◌then◌else◌, inl, inr, KeyValues, length, List, map, named_after, NamedAction, nat_eq}
use Rattle.pct_names.proofs.Names.{NewThread, None, Option, option_map_or, or_parts, refl, Script, shared_after, SharedAction, SharedState}
use Rattle.pct_names.proofs.Names.{slice_get, slice_get-get_or, slice_set, slot_of, Some, subst, sym, Thread, thread_moved, Transition}
use Rattle.pct_names.proofs.Names.{true, ℕ, ◌∙◌, ◌∷◌, ◌≡◌}
use Rattle.std.proofs.lemmas.Bool.{eq-eqb, ne_eqb, true≢false}
use Rattle.std.proofs.lemmas.List.{get_or-set_other}
use Rattle.std.proofs.Math.ListN.{get_or-map}
use Rattle.pct_model.specs.declared.transition.NamedAction.TheVariants as named
use Rattle.pct_model.specs.declared.transition.SharedAction.TheVariants as shared
use Rattle.pct_actions.specs.ProcessChanges.{IsOnSlot, AreOnSlots}
use Rattle.pct_engine_laws.specs.Seen.{SeenSlot, SeenProcess, slot_after, slot_with, with_created, slots_moved, process_seen}
use Rattle.pct_process.specs.ProcessViews.{first_of, slot_on, thread_on_slot}
use Rattle.pct_transitions.specs.declared.readiness.ReadyWhen.{ReadyWhen}
use Rattle.pct_transitions.specs.declared.readiness.ReadyWhen.TheVariants as ready
use Rattle.pct_transitions.specs.Readiness.{ready_when}
use Rattle.pct_ready_sets.specs.ReadyConditions.{condition_of_slot, creates_on, names_slot, touches}

-- ---- what the threads share

restricted_stays : (a : Option SharedAction) (s : SharedState) → (shared_after a s).restricted ≡ s.restricted
unfolding shared_after
restricted_stays None s = refl
restricted_stays (Some (shared.OwnMutex m id)) s = refl
restricted_stays (Some _) s = refl

-- ---- a thread that is not named

-- the second thread is the first one, but for its thread-specific data
abbrev SameBut : Thread → Thread → Type 0
SameBut t u = (own : KeyValues) × (u ≡ record t { specific = own })

unless : (test : Bool) (x y : Thread) → test ≡ false → (if test then x else y) ≡ y
unless true x y fails = absurd (true≢false fails)
unless false x y fails = refl

-- an id of another slot is not that of the thread
other_id : (slots id : ℕ) (t : Thread) (b : Bool) → nat_eq (slot_of slots id) (slot_of slots t.id) ≡ false → (nat_eq t.id id && b) ≡ false
other_id slots id t b apart =
    elim (cases_eq t.id id) [
      | inl same ↦ absurd (true≢false (sym (eq-eqb (slot_of slots id) (slot_of slots t.id) (ap (slot_of slots) (sym same))) ∙ apart))
      | inr other ↦ ap (λ (a : Bool). a && b) (ne_eqb t.id id other)
    ]

both_fail : (a b : Bool) → a ≡ false → (a && b) ≡ false
both_fail a b fails = ap (λ (a : Bool). a && b) fails

not_named : (slots : ℕ) (a : Option NamedAction) (t : Thread) → names_slot slots (slot_of slots t.id) a ≡ false → SameBut t (named_after a t)
unfolding named_after
not_named slots None t apart = (t.specific, refl)
not_named slots (Some (named.EndJoin id)) t apart = (t.specific, unless _ _ t (other_id slots id t (holds_slot t) apart))
not_named slots (Some (named.Request id)) t apart = (t.specific, unless _ _ t (both_fail _ _ (other_id slots id t (holds_slot t) apart)))
not_named slots (Some (named.Detach id)) t apart = (t.specific, unless _ _ t (other_id slots id t (holds_slot t) apart))
not_named slots (Some (named.Wake id)) t apart = (t.specific, unless _ _ t (other_id slots id t (holds_slot t) apart))
not_named slots (Some (named.WakeAll c)) t apart = absurd (true≢false apart)
not_named slots (Some (named.ForgetKey k)) t apart = (_, refl)

-- ---- a slot

module _ (slots tid k : ℕ) (o : Transition) (apart : touches slots tid o k ≡ false) where
  abbrev rest_apart : (creates_on slots k o.created ≡ false) × (names_slot slots k o.named ≡ false)
  rest_apart = or_parts (creates_on slots k o.created) _ (or_parts (nat_eq (slot_of slots tid) k) _ apart).1

  thread_apart : (t : Thread) → slot_of slots t.id ≡ k → SameBut t (thread_moved tid o t)
  thread_apart t on =
      let other : has_valid_id tid t ≡ false = other_id slots tid t (holds_slot t) (ap (nat_eq (slot_of slots tid)) on ∙ (or_parts (nat_eq (slot_of slots tid) k) _ apart).0) in
      let named = not_named slots o.named t (ap (λ (s : ℕ). names_slot slots s o.named) on ∙ rest_apart.1) in
      (named.0, ap (named_after o.named) (unless _ _ t other) ∙ named.1)

  -- the first of the threads on the slot
  first_kept : (u : Thread) (us : List Thread) → holds_slot u ≡ true → first_of (filter holds_slot (u ∷ us)) ≡ Some u
  first_kept u us holds = ap (λ (b : Bool). first_of (cond b (u ∷ filter holds_slot us) (filter holds_slot us))) holds

  module _ (script : Script) (timeouts restricted : Bool) where
    abbrev condition : Option Thread → ReadyWhen
    condition o = option_map_or (ready_when script timeouts restricted) o ready.Never

    here_apart : (here : List Thread) → All (IsOnSlot slots k) here → condition (first_of (filter holds_slot (map (thread_moved tid o) here))) ≡ condition (first_of here)
    here_apart [] on = refl
    here_apart (t ∷ rest) on =
        let is : IsOnSlot slots k t = on 0 t (omega arith) in
        let moved = thread_apart t is.on in
        let holds : holds_slot (thread_moved tid o t) ≡ true = ap holds_slot moved.1 ∙ is.holds in
        ap condition (first_kept (thread_moved tid o t) (map (thread_moved tid o) rest) holds) ∙ ap (ready_when script timeouts restricted) moved.1

-- ---- the slots

module _ (slots k : ℕ) where
  created_apart : (created : Option NewThread) (rows : List SeenSlot) → creates_on slots k created ≡ false → slot_on (with_created slots created rows) k ≡ slot_on rows k
  created_apart None rows apart = refl
  created_apart (Some new) rows apart = by (slice_get rows (slot_of slots new.id)) where
    by : (found : Option SeenSlot) → slot_on (option_map_or (λ s. slice_set rows (slot_of slots new.id) (slot_with new s)) found rows) k ≡ slot_on rows k
    by None = refl
    by (Some s) = get_or-set_other rows (slot_of slots new.id) k (slot_with new s) _ (λ same. true≢false (sym (eq-eqb (slot_of slots new.id) k (sym same)) ∙ apart))

on_here : (slots : List SeenSlot) (k : ℕ) → AreOnSlots slots → All (IsOnSlot (length slots) k) (slot_on slots k).here
on_here slots k on =
    elim (cases_lt k (length slots)) [
      | inl inside ↦ on k (slot_on slots k) (slice_get-get_or slots k _ inside)
      | inr past ↦ subst (λ (s : SeenSlot). All (IsOnSlot (length slots) k) s.here) (sym (get_or_past slots k _ past)) (λ i d inside. absurd (omega (arith, inside)))
    ]

-- the condition of a slot that the transition does not touch stays
pub condition_stays : (script : Script) (timeouts : Bool) (tid k : ℕ) (o : Transition) (p : SeenProcess) → AreOnSlots p.slots → touches (length p.slots) tid o k ≡ false → condition_of_slot script timeouts (process_seen (length p.slots) tid o p) k ≡ condition_of_slot script timeouts p k
condition_stays script timeouts tid k o p on apart =
    let slots : ℕ = length p.slots in
    ap (λ (r : Bool). option_map_or (ready_when script timeouts r) (thread_on_slot (slots_moved slots tid o p.slots) k) ready.Never) (restricted_stays o.shared _)
    ∙ ap (λ (s : SeenSlot). option_map_or (ready_when script timeouts p.shared.restricted) (first_of s.here) ready.Never)
    (created_apart slots k o.created (map (slot_after tid o) p.slots) (rest_apart slots tid k o apart).0 ∙ get_or-map (slot_after tid o) p.slots k _)
    ∙ here_apart slots tid k o apart script timeouts p.shared.restricted (slot_on p.slots k).here (on_here p.slots k on)
