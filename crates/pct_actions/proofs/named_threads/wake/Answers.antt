use Rattle.pct_names.proofs.Names.{◌<◌, arith, Signalled}
use Rattle.pct_threads.specs.Slots.{with_change}
use Rattle.pct_threads.proofs.TableLemmas.{within-occupied}
use Rattle.pct_actions.specs.SharedChanges.{woken_by}
use Rattle.pct_actions.proofs.Stands.{standings_after}
use Rattle.pct_actions.proofs.named_threads.wake.Goals as goal

pub returns-in-Some-clause-standings : goal.returns-in-Some-clause-standings
returns-in-Some-clause-standings g c =
    let old = c.args.threads.now in
    let target = c.in-Some.target in
    let count = c.slot_count-count.ensures in
    let woken = c.wake_on-stand in
    let small : target < 64 = omega (arith, within-occupied old target c.in-Some.ensures.occupied, count.value, count.few) in
    standings_after c.args.standings.now old c.requires target woken.new.threads (with_change (woken_by Signalled)) woken.result small woken.ensures.table woken.ensures.stand c.put.new.self c.put.ensures
