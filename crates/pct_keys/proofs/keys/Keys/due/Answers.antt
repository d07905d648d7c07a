use Rattle.pct_names.proofs.Names.{ap, arith, is_due, length}
use Rattle.pct_keys.specs.Tables.{row_at}
use Rattle.pct_keys.proofs.NoValues.{is_due-unset}
use Rattle.pct_keys.proofs.Scan.{due-start, count-step, count-rest}
use Rattle.pct_keys.proofs.keys.Keys.due.Goals as goal

pub loop-place-init : goal.loop-place-init
loop-place-init c = record { few = omega arith; counted = omega (arith, ap length (due-start c.args.self.now.places (row_at c.args.self.now c.args.slot))) }

pub loop-place-preserved : goal.loop-place-preserved
loop-place-preserved c =
    let loop = c.loop-place.invariant in
    let next = count-step (is_due c.args.self.now.places (row_at c.args.self.now c.args.slot)) c.loop-place.place c.loop-place.count c.from-count.result _ c.is_due.result (omega (arith, c.end_of-end.ensures.within)) c.is_due.ensures c.from-count.ensures loop.counted in
    record { few = omega (arith, next.0, loop.few); counted = next.1 }

pub returns : goal.returns
returns c =
    let own = row_at c.args.self.now c.args.slot in
    count-rest (is_due c.args.self.now.places own) c.loop-place.place c.end_of-end.result c.loop-place.count _ (omega arith) (is_due-unset c.args.self.now.places own c.end_of-end.result c.end_of-end.ensures.unset) c.loop-place.invariant.counted
