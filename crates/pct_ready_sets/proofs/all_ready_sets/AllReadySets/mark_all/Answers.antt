use Rattle.pct_names.proofs.Names.{◌<◌, length, slice_set, sym, ap, ◌∙◌, arith, map_over_more}
use Rattle.pct_ready_sets.specs.ReadyGroups.{all_stale}
use Rattle.pct_ready_sets.proofs.all_ready_sets.AllReadySets.mark_all.Goals as goal

pub loop-sets-preserved : goal.loop-sets-preserved
loop-sets-preserved c =
    let i = c.loop-sets.sets-index in
    let inside : i < length c.args.self.now = omega (arith, c.loop-sets-test.true, ap length c.deref_mut-sets-items.ensures.value, ap length c.self.view_is) in
    ap (slice_set c.loop-sets.sets-items i) (c.mark_all.ensures ∙ ap all_stale (sym c.sets-item.is))
    ∙ map_over_more all_stale c.args.self.now c.loop-sets.sets-items i c.sets-item.result inside c.loop-sets.invariant c.sets-item.is
