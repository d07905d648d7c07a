use Rattle.pct_names.proofs.Names.{◌<◌, arith, false, rules, true, ◌≡◌}
use Rattle.pct_threads.specs.Slots.{after_change, after_detach}
use Rattle.pct_threads.specs.Tables.{is_occupied_at}
use Rattle.pct_threads.proofs.TableLemmas.{within-occupied}
use Rattle.pct_actions.proofs.Stands.{standings_detached, standings_freed}
use Rattle.pct_actions.proofs.named_threads.detach.Goals as goal

pub returns-then-not-is_occupied-clause-standings : goal.returns-then-not-is_occupied-clause-standings
returns-then-not-is_occupied-clause-standings c =
    let old = c.args.threads.now in
    let target = c.in-Some.target in
    let count = c.slot_count-count.ensures in
    let small : target < 64 = omega (arith, within-occupied old target c.in-Some.ensures.occupied, count.value, count.few) in
    let free : is_occupied_at c.detach.new.self target ≡ false = search rules in
    standings_freed c.args.standings.now old c.requires target c.detach.new.self (after_change after_detach) small c.detach.ensures free c.put.new.self c.put.ensures

pub returns-else-not-is_occupied-clause-standings : goal.returns-else-not-is_occupied-clause-standings
returns-else-not-is_occupied-clause-standings c =
    let held : is_occupied_at c.detach.new.self c.in-Some.target ≡ true = search rules in
    standings_detached c.args.standings.now c.args.threads.now c.requires c.in-Some.target c.detach.new.self c.in-Some.ensures.occupied c.detach.ensures held
