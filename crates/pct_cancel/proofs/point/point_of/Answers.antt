use Rattle.pct_names.proofs.Names.{arith, ◌∙◌}
use Rattle.pct_cancel.proofs.Table.{found, not_found, found_within}
use Rattle.pct_cancel.proofs.point.point_of.Goals as goal

pub row_at-kind-requires : goal.row_at-kind-requires
row_at-kind-requires c = found_within c.table.result.now c.table.ensures c.args.name.now c.in_ok-index.index c.in_ok-index.ensures

pub overflow_cast-result : goal.overflow_cast-result
overflow_cast-result c = omega (arith, found_within c.table.result.now c.table.ensures c.args.name.now c.in_ok-index.index c.in_ok-index.ensures)

pub returns : goal.returns
returns c = found c.table.result.now c.table.ensures c.args.name.now c.in_ok-index.index _ c.in_ok-index.ensures c.row_at-kind.ensures

pub returns-in_err-index : goal.returns-in_err-index
returns-in_err-index c = c.from_residual.ensures ∙ not_found c.table.result.now c.table.ensures c.args.name.now c.in_err-index.ensures
