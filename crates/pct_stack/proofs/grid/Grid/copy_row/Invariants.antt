use Rattle.std.proofs.Common.{◌≡◌}
use Rattle.pct_stack.specs.Rows.{row_at, with_row}
use Rattle.pct_stack.proofs.RowLemmas.{written}
use Rattle.pct_stack.proofs.grid.Grid.copy_row.Given as goal

abbrev pub invariant-loop-i : goal.invariant-loop-i
invariant-loop-i l = l.self ≡ with_row l.fn.row (written l.i (row_at l.fn.other l.fn.row) (row_at l.fn.self l.fn.row)) l.fn.self
