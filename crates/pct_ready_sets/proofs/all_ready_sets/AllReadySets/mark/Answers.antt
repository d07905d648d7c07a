use Rattle.pct_names.proofs.Names.{◌≡◌, List, option_map, replicate, slice_get, subst, sym, ◌∙◌}
use Rattle.pct_set.specs.Slots.{slots_where}
use Rattle.pct_ready_sets.specs.ReadyConditions.{touches}
use Rattle.pct_ready_sets.specs.ReadyGroups.{ReadyValue, unknown, with_stale}
use Rattle.pct_ready_sets.proofs.UnknownSets.{marked_unknown}
use Rattle.pct_ready_sets.proofs.all_ready_sets.AllReadySets.mark.Goals as goal

pub returns-then-not-self : goal.returns-then-not-self
returns-then-not-self c = λ i _.
    let touched = touches c.args.slots c.args.tid c.args.transition.now in
    let all : c.args.self.now ≡ replicate 8 unknown = sym c.self.view_is ∙ c.self.invariant c.if-not-self.true in
    subst (λ (vs : List ReadyValue). slice_get vs i ≡ option_map (with_stale (slots_where touched)) (slice_get vs i)) (sym all) (marked_unknown touched 8 i)
