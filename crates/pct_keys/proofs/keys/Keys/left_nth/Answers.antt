use Rattle.pct_names.proofs.Names.{ap, arith, is_left, slice_get, sym, ◌∙◌}
use Rattle.pct_keys.specs.Tables.{row_at}
use Rattle.pct_keys.proofs.NoValues.{is_left-unset}
use Rattle.pct_keys.proofs.Scan.{left-start, nth-miss, nth-hit, nth-found, nth-rest}
use Rattle.pct_keys.proofs.keys.Keys.left_nth.Goals as goal
use Rattle.pct_keys.proofs.keys.Keys.left_nth.Goals.{then-is_left+else-rest-eq0, else-is_left}

pub loop-place-init : goal.loop-place-init
loop-place-init c = ap (λ places. slice_get places c.args.n) (left-start c.args.self.now.places (row_at c.args.self.now c.args.slot))

pub loop-place-preserved : goal.loop-place-preserved
loop-place-preserved c =
    elim c.if-is_left.branch [
      | then-is_left+else-rest-eq0 w ↦ rw w.rest-is (nth-hit (is_left c.args.self.now.places (row_at c.args.self.now c.args.slot)) c.loop-place.place c.loop-place.rest _ (omega (arith, c.end_of-end.ensures.within)) (sym c.is_left.ensures ∙ w.if-is_left.true) (omega arith) c.loop-place.invariant)
      | else-is_left w ↦ rw w.rest-is (nth-miss (is_left c.args.self.now.places (row_at c.args.self.now c.args.slot)) c.loop-place.place c.loop-place.rest _ (omega (arith, c.end_of-end.ensures.within)) (sym c.is_left.ensures ∙ w.if-is_left.false) c.loop-place.invariant)
    ]

pub returns-then-rest-eq0-clause-value : goal.returns-then-rest-eq0-clause-value
returns-then-rest-eq0-clause-value c =
    nth-found (is_left c.args.self.now.places (row_at c.args.self.now c.args.slot)) c.loop-place.place c.loop-place.rest _ (omega (arith, c.end_of-end.ensures.within)) (sym c.is_left.ensures ∙ c.if-is_left.true) c.if-rest-eq0.true c.loop-place.invariant

pub returns-clause-value : goal.returns-clause-value
returns-clause-value c =
    let own = row_at c.args.self.now c.args.slot in
    nth-rest (is_left c.args.self.now.places own) c.loop-place.place c.end_of-end.result c.loop-place.rest _ (omega arith) (is_left-unset c.args.self.now.places own c.end_of-end.result c.end_of-end.ensures.unset) c.loop-place.invariant
