use Rattle.pct_names.proofs.Names.{◌++◌, drop, map, no_values, take, ◌≡◌}
use Rattle.pct_keys.proofs.row.clear_rows.Given as goal

abbrev pub invariant-loop-row : goal.invariant-loop-row
invariant-loop-row l = l.rows ≡ map (λ _. no_values) (take l.row-index l.fn.rows) ++ drop l.row-index l.fn.rows
