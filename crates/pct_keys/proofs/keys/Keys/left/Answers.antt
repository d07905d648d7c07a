use Rattle.pct_names.proofs.Names.{ap, arith, is_left, length}
use Rattle.pct_keys.specs.Tables.{row_at}
use Rattle.pct_keys.proofs.NoValues.{is_left-unset}
use Rattle.pct_keys.proofs.Scan.{left-start, count-step, count-rest}
use Rattle.pct_keys.proofs.keys.Keys.left.Goals as goal

pub loop-place-init : goal.loop-place-init
loop-place-init c = record { few = omega arith; counted = omega (arith, ap length (left-start c.args.self.now.places (row_at c.args.self.now c.args.slot))) }

pub loop-place-preserved : goal.loop-place-preserved
loop-place-preserved c =
    let loop = c.loop-place.invariant in
    let next = count-step (is_left c.args.self.now.places (row_at c.args.self.now c.args.slot)) c.loop-place.place c.loop-place.count c.from-count.result _ c.is_left.result (omega (arith, c.end_of-end.ensures.within)) c.is_left.ensures c.from-count.ensures loop.counted in
    record { few = omega (arith, next.0, loop.few); counted = next.1 }

pub returns : goal.returns
returns c =
    let own = row_at c.args.self.now c.args.slot in
    count-rest (is_left c.args.self.now.places own) c.loop-place.place c.end_of-end.result c.loop-place.count _ (omega arith) (is_left-unset c.args.self.now.places own c.end_of-end.result c.end_of-end.ensures.unset) c.loop-place.invariant.counted
