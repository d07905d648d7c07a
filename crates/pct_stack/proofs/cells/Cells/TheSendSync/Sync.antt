use denote.RattleType.{RattleType}
use denote.Param.Send.{IsSync}
use Rattle.pct_stack.proofs.CellCrossing.{Cells-sync}
use Rattle.pct_stack.specs.contracts.cells.Cells.{the_row}

pub sync : (R : RattleType) → IsSync R → IsSync (the_row R)
sync = Cells-sync
