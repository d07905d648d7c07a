use Rattle.pct_names.proofs.Names.{◌<◌, ◌∙◌, sym, ap, slice_set, subst}
use Rattle.pct_ready_sets.specs.declared.ready_sets.ReadySets.TheInside.{Inside}
use Rattle.pct_ready_sets.specs.declared.ready_sets.TheConstants.{GROUPS}
use Rattle.pct_ready_sets.specs.ReadyGroups.{ReadyValue, AreGroups, group_of, condition_on}
use Rattle.pct_ready_sets.proofs.MovedGroups.{groups_moved, groups_kept}
use Rattle.pct_ready_sets.proofs.ready_sets.ReadySets.replace.Goals as goal
use Rattle.pct_ready_sets.proofs.ready_sets.ReadySets.replace.Goals.{then-from-to, else-from-to}

pub invariant_of-self : goal.invariant_of-self
invariant_of-self c =
    let s = c.self.inside in
    let was = c.condition.ensures ∙ ap (λ (v : ReadyValue). condition_on v.conditions c.args.slot) (sym c.self.view_is) in
    let first : group_of c.condition.result < GROUPS = subst (λ n. n < GROUPS) c.group_of-from.ensures.value c.group_of-from.ensures.few in
    let second : group_of c.args.condition < GROUPS = subst (λ n. n < GROUPS) c.group_of-to.ensures.value c.group_of-to.ensures.few in
    elim c.if-from-to.branch [
      | then-from-to w ↦
          subst (λ (x : Inside). AreGroups (slice_set x.conditions.items c.args.slot c.args.condition) x.groups.items) (sym w.self-inside-is)
          (rw (w.put_in.ensures, w.take_out.ensures, c.group_of-from.ensures.value, c.group_of-to.ensures.value)
          (groups_moved s.conditions.items s.groups.items c.self.invariant c.args.slot c.args.condition c.requires c.condition.result was first second))
      | else-from-to w ↦
          subst (λ (x : Inside). AreGroups (slice_set x.conditions.items c.args.slot c.args.condition) x.groups.items) (sym w.self-inside-is)
          (groups_kept s.conditions.items s.groups.items c.self.invariant c.args.slot c.args.condition c.requires c.condition.result was first second (sym c.group_of-from.ensures.value ∙ w.if-from-to.false ∙ c.group_of-to.ensures.value))
    ]
