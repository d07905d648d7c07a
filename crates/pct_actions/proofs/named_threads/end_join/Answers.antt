use Rattle.pct_names.proofs.Names.{◌<◌, arith}
use Rattle.pct_threads.proofs.TableLemmas.{within-occupied}
use Rattle.pct_actions.proofs.Stands.{standings_reclaimed}
use Rattle.pct_actions.proofs.named_threads.end_join.Goals as goal

pub returns-in-Some-clause-standings : goal.returns-in-Some-clause-standings
returns-in-Some-clause-standings c =
    let old = c.args.threads.now in
    let target = c.in-Some.target in
    let count = c.slot_count-count.ensures in
    let small : target < 64 = omega (arith, within-occupied old target c.in-Some.ensures.occupied, count.value, count.few) in
    standings_reclaimed c.args.standings.now old c.requires.standings target c.reclaim.new.self small c.in-Some.ensures.occupied c.reclaim.ensures c.put.new.self c.put.ensures
