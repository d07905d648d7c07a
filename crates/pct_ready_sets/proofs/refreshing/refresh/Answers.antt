use Rattle.pct_names.proofs.Names.{[], ap, false, false≢true, List, None, none-some, refl, slice_get, sym, ℕ, ◌∙◌, ◌∷◌, ◌≡◌}
use Rattle.pct_set.specs.Slots.{slots_where, has_slot, without_slot}
use Rattle.pct_set.proofs.SlotScans.{scan_begun, scan_fewer, scan_more}
use Rattle.pct_ready_sets.proofs.refreshing.refresh.Goals as goal

-- a set without a first slot is empty
no_first : (set : List ℕ) → None ≡ slice_get set 0 → set ≡ []
no_first [] none = refl
no_first (slot ∷ rest) none = absurd (none-some slot none)

pub loop-slot-init : goal.loop-slot-init
loop-slot-init c = record {
  scan = scan_begun (λ _. false) (has_slot c.args.sets.now.stale) c.stale-rest.result [] (c.len-count.ensures.determined ∙ ap (λ (set : List ℕ). slots_where (has_slot set)) c.stale-rest.ensures.value) refl (λ s passes. absurd (false≢true passes));
  follows = c.requires;
  same = sym c.stale-rest.ensures.value;
}

pub loop-slot-smaller : goal.loop-slot-smaller
loop-slot-smaller c = scan_fewer _ _ c.loop-slot.rest [] c.loop-slot.invariant.scan c.in-Some.slot c.in-Some.ensures.value c.in-Some.ensures.below c.remove.new.self c.remove.ensures

pub loop-slot-preserved : goal.loop-slot-preserved
loop-slot-preserved c = record {
  scan = scan_more _ _ c.loop-slot.rest [] c.loop-slot.invariant.scan c.in-Some.slot c.in-Some.ensures.value c.in-Some.ensures.below c.remove.new.self c.remove.ensures [] false refl refl;
  follows = c.refresh_slot.ensures.follows;
  same = c.refresh_slot.ensures.stale ∙ ap (without_slot c.in-Some.slot) c.loop-slot.invariant.same ∙ sym c.remove.ensures;
}

pub returns-clause-fresh : goal.returns-clause-fresh
returns-clause-fresh c = c.loop-slot.invariant.same ∙ no_first c.loop-slot.rest c.in_default.ensures.value
