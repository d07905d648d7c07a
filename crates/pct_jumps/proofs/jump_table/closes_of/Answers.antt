use Rattle.pct_names.proofs.Names.{close_of}
use Rattle.pct_jumps.proofs.Closing.{one_more}
use Rattle.pct_jumps.proofs.jump_table.closes_of.Goals as goal

pub loop-pc-preserved : goal.loop-pc-preserved
loop-pc-preserved c = record {
  so_far = one_more (close_of c.args.body.now) c.loop-pc.pc _ _ c.close_of.result c.loop-pc.invariant.so_far c.close_of.ensures c.in_ok-push.ensures.items;
}
