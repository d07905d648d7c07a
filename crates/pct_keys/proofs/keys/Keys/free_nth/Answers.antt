use Rattle.pct_names.proofs.Names.{ap, arith, is_none, key_at, not, slice_get, sym, ◌∙◌}
use Rattle.pct_keys.proofs.Scan.{free-start, nth-miss, nth-hit, nth-found, nth-end}
use Rattle.pct_keys.proofs.keys.Keys.free_nth.Goals as goal
use Rattle.pct_keys.proofs.keys.Keys.free_nth.Goals.{then-not-is_live+else-rest-eq0, else-not-is_live}

pub loop-place-init : goal.loop-place-init
loop-place-init c = ap (λ places. slice_get places c.args.n) (free-start c.args.self.now.places)

pub loop-place-preserved : goal.loop-place-preserved
loop-place-preserved c =
    elim c.if-not-is_live.branch [
      | then-not-is_live+else-rest-eq0 w ↦ rw w.rest-is (nth-hit (λ place. is_none (key_at c.args.self.now.places place)) c.loop-place.place c.loop-place.rest _ (omega arith) (ap not (sym c.is_live.ensures ∙ w.if-not-is_live.true)) (omega arith) c.loop-place.invariant)
      | else-not-is_live w ↦ rw w.rest-is (nth-miss (λ place. is_none (key_at c.args.self.now.places place)) c.loop-place.place c.loop-place.rest _ (omega arith) (ap not (sym c.is_live.ensures ∙ w.if-not-is_live.false)) c.loop-place.invariant)
    ]

pub returns-then-rest-eq0-clause-value : goal.returns-then-rest-eq0-clause-value
returns-then-rest-eq0-clause-value c =
    nth-found (λ place. is_none (key_at c.args.self.now.places place)) c.loop-place.place c.loop-place.rest _ (omega arith) (ap not (sym c.is_live.ensures ∙ c.if-not-is_live.true)) c.if-rest-eq0.true c.loop-place.invariant

pub returns-clause-value : goal.returns-clause-value
returns-clause-value c = nth-end (λ place. is_none (key_at c.args.self.now.places place)) c.loop-place.place c.loop-place.rest _ (omega arith) c.loop-place.invariant
