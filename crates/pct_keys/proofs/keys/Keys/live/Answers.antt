use Rattle.pct_names.proofs.Names.{◌+◌, ap, arith, is_none, key_at, length, not, sym}
use Rattle.pct_keys.proofs.Scan.{free-start, others-step, others-end}
use Rattle.pct_keys.proofs.keys.Keys.live.Goals as goal

pub loop-place-init : goal.loop-place-init
loop-place-init c = record { few = omega arith; counted = sym (ap (λ places. 0 + length places) (free-start c.args.self.now.places)) }

pub loop-place-preserved : goal.loop-place-preserved
loop-place-preserved c =
    let loop = c.loop-place.invariant in
    let next = others-step (λ place. is_none (key_at c.args.self.now.places place)) c.loop-place.place c.loop-place.count c.from-count.result _ c.is_live.result (omega arith) (ap not c.is_live.ensures) c.from-count.ensures loop.counted in
    record { few = omega (arith, next.0, loop.few); counted = next.1 }

pub returns : goal.returns
returns c = others-end (λ place. is_none (key_at c.args.self.now.places place)) c.loop-place.place c.loop-place.count _ (omega arith) c.loop-place.invariant.counted
