use Rattle.pct_names.proofs.Names.{ap, arith, drop_all, is_in_handler, sym, ◌∙◌}
use Rattle.pct_transitions.proofs.HandlerFrames.{found, passed}
use Rattle.pct_transitions.proofs.stop_table.is_in_handler.Goals as goal

pub returns-then-is_handler_at : goal.returns-then-is_handler_at
returns-then-is_handler_at c =
    sym (found c.args.frames.now c.loop-index.index _ c.is_handler_at.ensures c.if-is_handler_at.true) ∙ c.loop-index.invariant

pub loop-index-preserved : goal.loop-index-preserved
loop-index-preserved c =
    passed c.args.frames.now c.loop-index.index _ c.is_handler_at.ensures c.if-is_handler_at.false ∙ c.loop-index.invariant

pub returns : goal.returns
returns c =
    sym (ap is_in_handler (drop_all c.loop-index.index c.args.frames.now (omega (arith, c.len-index-end.ensures.value)))) ∙ c.loop-index.invariant
