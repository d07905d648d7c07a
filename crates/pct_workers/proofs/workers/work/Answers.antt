use Rattle.pct_names.proofs.Names.{arith}
use Rattle.pct_workers.proofs.Working.{so_far_next, so_far_none, worked_all, worked_over}
use Rattle.pct_workers.proofs.workers.work.Goals as goal

pub loop-made-init : goal.loop-made-init
loop-made-init g c = record { few = omega arith; so_far = so_far_none c.args.worker.now c.number-number.ensures.at_rest }

pub returns-in-Over : goal.returns-in-Over
returns-in-Over g c =
    worked_over c.loop-made.made c.args.worker.now c.loop-made.worker c.work_once.new.worker c.loop-made.invariant.so_far c.work_once.ensures.one c.work_once.ensures.picks
    c.args.turns c.in-Over.field-0 c.loop-made-test.true c.in-Over.ensures.turn

pub loop-made-preserved : goal.loop-made-preserved
loop-made-preserved g c = record {
  few = omega (arith, c.loop-made-test.true);
  so_far =
      so_far_next c.loop-made.made c.args.worker.now c.loop-made.worker c.work_once.new.worker c.loop-made.invariant.so_far c.work_once.ensures.one c.work_once.ensures.picks
      c.work_once.result c.work_once.ensures.turn c.in_default.not-Over;
}

pub returns : goal.returns
returns g c = worked_all c.args.turns c.loop-made.made c.args.worker.now c.loop-made.worker c.loop-made.invariant.so_far c.loop-made.invariant.few c.loop-made-test.false
