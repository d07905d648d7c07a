use Rattle.pct_names.proofs.Names.{◌++◌, drop, map, take, without_value, ◌≡◌}
use Rattle.pct_keys.proofs.row.clear_place.Given as goal

abbrev pub invariant-loop-row : goal.invariant-loop-row
invariant-loop-row l = l.rows ≡ map (without_value l.place) (take l.row-index l.fn.rows) ++ drop l.row-index l.fn.rows
