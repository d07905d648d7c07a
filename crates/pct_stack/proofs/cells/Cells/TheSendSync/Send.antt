use denote.RattleType.{RattleType}
use denote.Param.Send.{IsSend}
use Rattle.pct_stack.proofs.CellCrossing.{Cells-send}
use Rattle.pct_stack.specs.contracts.cells.Cells.{the_row}

pub send : (R : RattleType) → IsSend R → IsSend (the_row R)
send = Cells-send
