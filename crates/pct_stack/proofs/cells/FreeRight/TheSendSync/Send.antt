use denote.RattleType.{RattleType}
use denote.Param.Send.{IsSend, Frees}
use Rattle.std.specs.declared.alloc.Allocator.{Ghosts}
use Rattle.pct_stack.proofs.CellCrossing.{FreeRight-send}
use Rattle.pct_stack.specs.contracts.cells.FreeRight.{the_row}

pub send : (R A : RattleType) (g : Ghosts A.Denot) → IsSend A → Frees g g.dealloc_token → IsSend (the_row R A g)
send R A g s = FreeRight-send R A g
