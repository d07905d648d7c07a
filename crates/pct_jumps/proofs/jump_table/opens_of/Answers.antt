use Rattle.pct_names.proofs.Names.{open_of}
use Rattle.pct_jumps.proofs.Closing.{one_more}
use Rattle.pct_jumps.proofs.jump_table.opens_of.Goals as goal

pub loop-pc-preserved : goal.loop-pc-preserved
loop-pc-preserved c = record {
  so_far = one_more (open_of c.args.body.now) c.loop-pc.pc _ _ c.open_of.result c.loop-pc.invariant.so_far c.open_of.ensures c.in_ok-push.ensures.items;
}
