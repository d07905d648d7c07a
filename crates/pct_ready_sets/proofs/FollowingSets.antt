-- The sets of slots follow a process through its steps.
use Rattle.pct_names.proofs.Names.{◌&&◌, ◌<◌, ap, arith, Bool, cases_eq, false, get_or-replicate, get_or_from_slice_get, inl, inr, length}
use Rattle.pct_names.proofs.Names.{length-replicate, List, nat_eq, not, or_parts, replicate, Script, slice_get_within, slice_set, subst}
use Rattle.pct_names.proofs.Names.{sym, Transition, true, ◌||◌, ℕ, ◌∙◌, ◌≡◌}
use Rattle.std.proofs.lemmas.Bool.{ne_eqb, true≢false}
use Rattle.std.proofs.lemmas.List.{get_or-set_same, get_or-set_other}
use Rattle.pct_set.specs.Slots.{slots_where, has_slot, without_slot}
use Rattle.pct_set.proofs.SlotLemmas.{has_where}
use Rattle.pct_actions.specs.ProcessChanges.{AreOnSlots}
use Rattle.pct_engine_laws.specs.Seen.{SeenProcess, process_seen}
use Rattle.pct_transitions.specs.declared.readiness.ReadyWhen.{ReadyWhen}
use Rattle.pct_ready_sets.specs.ReadyConditions.{condition_of_slot, touches, Follows, FollowAll}
use Rattle.pct_ready_sets.specs.ReadyGroups.{ReadyValue, condition_on, with_stale, all_stale, unknown}
use Rattle.pct_ready_sets.proofs.UntouchedSlots.{condition_stays}

module _ (script : Script) (timeouts : Bool) (p : SeenProcess) where
  -- where each slot is stale, any conditions follow
  pub all_stale_follow : (v : ReadyValue) → Follows script timeouts p (all_stale v)
  all_stale_follow v = λ k small apart. absurd (true≢false (sym (has_where (λ _. true) k small) ∙ apart))

  -- nothing is known at first
  pub unknown_follow : Follows script timeouts p unknown
  unknown_follow = all_stale_follow unknown

  -- a slot that is not stale was not, and is not among those that are added
  stale_parts : (v : ReadyValue) (more : List ℕ) (k : ℕ) → k < 64 → has_slot (with_stale more v).stale k ≡ false → (has_slot v.stale k ≡ false) × (has_slot more k ≡ false)
  stale_parts v more k small apart = or_parts (has_slot v.stale k) (has_slot more k) (sym (has_where (λ s. has_slot v.stale s || has_slot more s) k small) ∙ apart)

  -- more slots are stale
  pub with_stale_follow : (v : ReadyValue) (more : List ℕ) → Follows script timeouts p v → Follows script timeouts p (with_stale more v)
  with_stale_follow v more follows = λ k small apart. follows k small (stale_parts v more k small apart).0

  -- a thread made a transition, and the slots that it touches are stale
  pub step_follow : (v : ReadyValue) (tid : ℕ) (o : Transition) → AreOnSlots p.slots → Follows script timeouts p v → Follows script timeouts (process_seen (length p.slots) tid o p) (with_stale (slots_where (touches (length p.slots) tid o)) v)
  step_follow v tid o on follows = λ k small apart.
      let parts = stale_parts v (slots_where (touches (length p.slots) tid o)) k small apart in
      follows k small parts.0 ∙ sym (condition_stays script timeouts tid k o p on (sym (has_where (touches (length p.slots) tid o) k small) ∙ parts.1))

  -- a slot was looked at again
  pub put_follows : (v : ReadyValue) (slot : ℕ) (now : ReadyWhen) → length v.conditions ≡ 64 → slot < 64 → now ≡ condition_of_slot script timeouts p slot → Follows script timeouts p v → Follows script timeouts p (record { conditions = slice_set v.conditions slot now; stale = without_slot slot v.stale })
  put_follows v slot now all inside is follows = λ k small apart.
      let left : (not (nat_eq k slot) && has_slot v.stale k) ≡ false = sym (has_where (λ s. not (nat_eq s slot) && has_slot v.stale s) k small) ∙ apart in
      elim (cases_eq k slot) [
        | inl same ↦ subst (λ (n : ℕ). condition_on (slice_set v.conditions slot now) n ≡ condition_of_slot script timeouts p n) (sym same) (get_or-set_same v.conditions slot now _ (omega (arith, inside, all)) ∙ is)
        | inr other ↦ get_or-set_other v.conditions slot k now _ other ∙ follows k small (sym (ap (λ (b : Bool). not b && has_slot v.stale k) (ne_eqb k slot other)) ∙ left)
      ]

-- nothing is known of several processes
pub unknown_follow_all : (script : Script) (timeouts : Bool) (ps : List SeenProcess) (n : ℕ) → FollowAll script timeouts ps (replicate n unknown)
unknown_follow_all script timeouts ps n = λ i p here v at.
    let is : unknown ≡ v = sym (get_or-replicate n i unknown unknown (subst (λ (m : ℕ). i < m) (length-replicate n unknown) (slice_get_within (replicate n unknown) i v at))) ∙ get_or_from_slice_get (replicate n unknown) i v unknown at in
    subst (Follows script timeouts p) is (unknown_follow script timeouts p)
