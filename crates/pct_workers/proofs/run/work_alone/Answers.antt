use Rattle.pct_names.proofs.Names.{ap, arith, not, ◌∙◌}
use Rattle.pct_workers.proofs.LoneRuns.{made_all, made_more, made_none}
use Rattle.pct_workers.proofs.run.work_alone.Goals as goal

pub loop-made-init : goal.loop-made-init
loop-made-init g c = record { few = omega arith; so_far = made_none c.args.picks.now c.args.engine.now c.requires }

pub returns-then-is_none-clause-whole : goal.returns-then-is_none-clause-whole
returns-then-is_none-clause-whole g c = λ fewer.
    made_all c.loop-made.made c.args.picks.now c.loop-made.picks c.args.engine.now c.loop-made.engine c.advance.new.self c.draw-a.result c.loop-made.invariant.so_far c.advance.ensures.runs
    c.advance.result c.advance.ensures.choice c.advance.ensures.same (c.is_none.ensures ∙ ap not c.if-is_none.true)

pub loop-made-preserved : goal.loop-made-preserved
loop-made-preserved g c = record {
  few = omega (arith, c.loop-made-test.true);
  so_far =
      made_more c.loop-made.made c.args.picks.now c.loop-made.picks c.args.engine.now c.loop-made.engine c.advance.new.self c.draw-a.result c.loop-made.invariant.so_far c.advance.ensures.runs
      c.draw-a.new.self c.advance.result c.draw-a.ensures.drawn c.draw-a.ensures.words c.advance.ensures.choice c.advance.ensures.made (c.is_none.ensures ∙ ap not c.if-is_none.false);
}
