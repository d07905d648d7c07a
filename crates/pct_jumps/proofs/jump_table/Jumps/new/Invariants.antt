use Rattle.pct_names.proofs.Names.{take, ◌≡◌}
use Rattle.pct_jumps.specs.JumpTable.{jumps_of}
use Rattle.pct_jumps.proofs.jump_table.Jumps.new.Given as goal

abbrev pub invariant-loop-func : goal.invariant-loop-func
invariant-loop-func l = record {
  so_far : l.bodies.items ≡ jumps_of (take l.func-index l.funcs);
}
