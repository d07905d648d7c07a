use Rattle.pct_names.proofs.Names.{◌≡◌, ◌∙◌, ap, sym}
use Rattle.pct_set.specs.Slots.{slots_where}
use Rattle.pct_ready_sets.specs.ReadyGroups.{ReadyValue, is_alike, condition_on, group_of}
use Rattle.pct_ready_sets.proofs.MovedGroups.{group_at, alike_in}
use Rattle.pct_ready_sets.proofs.ready_sets.ReadySets.alike.Goals as goal

pub returns-else-group-eq2 : goal.returns-else-group-eq2
returns-else-group-eq2 c =
    let s = c.self.inside in
    let group = c.group_of-group.result in
    let is : group ≡ group_of (condition_on s.conditions.items c.args.slot) = c.group_of-group.ensures.value ∙ ap group_of (c.condition.ensures ∙ ap (λ (v : ReadyValue). condition_on v.conditions c.args.slot) (sym c.self.view_is)) in
    c.index.ensures
    ∙ group_at s.conditions.items s.groups.items c.self.invariant group c.index.result.now c.group_of-group.ensures.few
    ∙ alike_in s.conditions.items c.args.slot group is c.if-group-eq2.false
    ∙ ap (λ (v : ReadyValue). slots_where (is_alike v.conditions c.args.slot)) c.self.view_is
