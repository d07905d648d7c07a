use Rattle.pct_jumps.proofs.JumpTableFacts.{few_in}
use Rattle.pct_jumps.proofs.jump_table.Jumps.new.Goals as goal

pub blocks_of-requires : goal.blocks_of-requires
blocks_of-requires c = few_in c.args.script.now c.as_slice-funcs.result.now c.loop-func.func-index c.func-item.result c.as_slice.result.now c.as_slice-funcs.ensures c.loop-func-test.true c.func-item.is c.as_slice.ensures
