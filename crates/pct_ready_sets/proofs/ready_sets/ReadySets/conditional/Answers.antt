use Rattle.pct_names.proofs.Names.{◌∙◌, ap, arith}
use Rattle.pct_set.specs.Slots.{slots_where}
use Rattle.pct_ready_sets.specs.ReadyGroups.{ReadyValue, is_in_group, is_conditional, condition_on}
use Rattle.pct_ready_sets.proofs.MovedGroups.{group_at}
use Rattle.pct_ready_sets.proofs.TouchedSlots.{outside_where}
use Rattle.pct_ready_sets.proofs.ready_sets.ReadySets.conditional.Goals as goal

pub returns : goal.returns
returns c =
    let s = c.self.inside in
    let zero = c.index.ensures ∙ group_at s.conditions.items s.groups.items c.self.invariant 0 c.index.result.now (omega arith) in
    let one = c.index-2.ensures ∙ group_at s.conditions.items s.groups.items c.self.invariant 1 c.index-2.result.now (omega arith) in
    c.minus-2.ensures
    ∙ rw (c.minus.ensures, c.all.ensures, zero, one) (outside_where (λ k. is_in_group 0 (condition_on s.conditions.items k)) (λ k. is_in_group 1 (condition_on s.conditions.items k)))
    ∙ ap (λ (v : ReadyValue). slots_where (λ k. is_conditional (condition_on v.conditions k))) c.self.view_is
