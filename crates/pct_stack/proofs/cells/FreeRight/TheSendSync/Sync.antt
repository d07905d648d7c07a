use denote.RattleType.{RattleType}
use denote.Param.Send.{IsSync}
use Rattle.std.specs.declared.alloc.Allocator.{Ghosts}
use Rattle.pct_stack.proofs.CellCrossing.{FreeRight-sync}
use Rattle.pct_stack.specs.contracts.cells.FreeRight.{the_row}

pub sync : (R A : RattleType) (g : Ghosts A.Denot) → IsSync (the_row R A g)
sync = FreeRight-sync
