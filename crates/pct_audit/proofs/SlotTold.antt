-- The law of thread ids and slots, by the threads that hold their slots.
use Rattle.std.proofs.Common.{◌≡◌, ℕ, Bool, true, false, not, ◌&&◌, ◌||◌, List, refl, sym, ◌∙◌, nat_eq, true≢false}
use Rattle.std.specs.List.{list_all}
use Rattle.std.proofs.lemmas.Bool.{and_parts}
use Rattle.pct_model.specs.declared.event.Event.{Event}
use Rattle.pct_model.specs.ThreadSlots.{slot_of}
use Rattle.pct_laws.specs.JoinLaw.{is_live}
use Rattle.pct_laws.specs.KnownIds.{known_ids}
use Rattle.pct_laws.specs.KnownThreads.{is_known}
use Rattle.pct_laws.specs.SlotLaw.{leaves_slot}
use Rattle.pct_laws.specs.ThreadSummary.{is_reclaimed}
use Rattle.pct_audit.proofs.KnownIds.{among_known, all_from_members, member_passes}

leaves : (known reclaimed same : Bool) → ((known && not reclaimed) && same) ≡ false → known ≡ true → (not same || reclaimed) ≡ true
leaves true true true held is = refl
leaves true false true held is = absurd (true≢false held)
leaves true reclaimed false held is = refl
leaves false reclaimed same held is = absurd (true≢false (sym is))

holds_still : (reclaimed same : Bool) → not reclaimed ≡ true → same ≡ true → (not same || reclaimed) ≡ false
holds_still true same live is = absurd (true≢false (sym live))
holds_still false true live is = refl
holds_still false false live is = absurd (true≢false (sym is))

no_other : (all : Bool) → (all ≡ true → ⊥) → all ≡ false
no_other true none = absurd (none refl)
no_other false none = refl

module _ (slots pid id : ℕ) (events : List Event) (holds : ℕ → ℕ → ℕ → Bool) (told : (p s t : ℕ) → holds p s t ≡ (is_live p t events && nat_eq (slot_of slots t) s)) where
  all_leave : ((tid : ℕ) → holds pid (slot_of slots id) tid ≡ false) → list_all (leaves_slot slots pid id events) (known_ids pid events) ≡ true
  all_leave none =
      all_from_members (leaves_slot slots pid id events) (known_ids pid events)
      (λ tid among. leaves (is_known pid tid events) (is_reclaimed pid tid events) (nat_eq (slot_of slots tid) (slot_of slots id)) (sym (told pid (slot_of slots id) tid) ∙ none tid) (sym (among_known tid pid events) ∙ among))

  one_stays : (tid : ℕ) → holds pid (slot_of slots id) tid ≡ true → list_all (leaves_slot slots pid id events) (known_ids pid events) ≡ false
  one_stays tid held =
      let parts = and_parts (is_live pid tid events) (nat_eq (slot_of slots tid) (slot_of slots id)) (sym (told pid (slot_of slots id) tid) ∙ held) in
      let live = and_parts (is_known pid tid events) (not (is_reclaimed pid tid events)) parts.0 in
      no_other (list_all (leaves_slot slots pid id events) (known_ids pid events))
      (λ all. true≢false (sym (member_passes (leaves_slot slots pid id events) (known_ids pid events) tid all (among_known tid pid events ∙ live.0))
      ∙ holds_still (is_reclaimed pid tid events) (nat_eq (slot_of slots tid) (slot_of slots id)) live.1 parts.1))

  -- the slot of an id is free exactly if each known thread leaves it
  pub free_told : (free : Bool) → (free ≡ true → (tid : ℕ) → holds pid (slot_of slots id) tid ≡ false) → (free ≡ false → (tid : ℕ) × (holds pid (slot_of slots id) tid ≡ true))
      → free ≡ list_all (leaves_slot slots pid id events) (known_ids pid events)
  free_told true none some = sym (all_leave (none refl))
  free_told false none some = sym (one_stays (some refl).0 (some refl).1)
