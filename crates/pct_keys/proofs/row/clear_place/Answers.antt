use Rattle.pct_names.proofs.Names.{map_over_more, without_value}
use Rattle.pct_keys.proofs.row.clear_place.Goals as goal

pub loop-row-preserved : goal.loop-row-preserved
loop-row-preserved c =
    rw (c.clear.ensures, ← c.row-item.is)
    (map_over_more (without_value c.args.place) c.args.rows.now c.loop-row.rows c.loop-row.row-index c.row-item.result c.loop-row-test.true c.loop-row.invariant c.row-item.is)
