use Rattle.std.proofs.Common.{◌≡◌, Some}
use Rattle.pct_stack.specs.Rows.{set_from}
use Rattle.pct_stack.proofs.words.clear_cells.Given as goal

abbrev pub invariant-loop-i : goal.invariant-loop-i
invariant-loop-i l = record {
  at : l.cells.at ≡ l.initial.cells.at;
  values : l.cells.values ≡ set_from (Some 0) l.first l.i l.initial.cells.values;
}
