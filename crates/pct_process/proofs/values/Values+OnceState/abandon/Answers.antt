use Rattle.pct_names.proofs.Names.{abandoned, ap, arith, get_or_default, length, map_over_more, ◌∙◌}
use Rattle.pct_process.proofs.values.Values+OnceState.abandon.Goals as goal

pub loop-state-preserved : goal.loop-state-preserved
loop-state-preserved c =
    let test = c.loop-state-test.true in
    rw c.abandoned.ensures
    (map_over_more (abandoned c.args.tid) c.args.self.now c.loop-state.state-items c.loop-state.state-index _
    (omega (arith, test, ap length (c.deref_mut-state-items.ensures.value ∙ c.self.view_is)))
    c.loop-state.invariant
    (get_or_default c.loop-state.state-items c.loop-state.state-index _ _ (omega (arith, test, c.loop-state.auto.state-items))))
