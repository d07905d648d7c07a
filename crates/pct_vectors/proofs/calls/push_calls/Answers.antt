use Rattle.pct_names.proofs.Names.{◌++◌, [], ap, arith, refl, Stmt, sym, ◌∙◌, ◌∷◌, ◌≡◌}
use Rattle.pct_vectors.specs.GeneratedContents.{statement_of}
use Rattle.pct_vectors.proofs.Numbered.{after-more}
use Rattle.pct_vectors.proofs.calls.push_calls.Goals as goal

pub loop-number-preserved : goal.loop-number-preserved
loop-number-preserved c =
    let items = c.in_ok-push.ensures.items in
    let first = c.loop-number.invariant.from in
    let within = c.loop-number-test.true in
    let value = c.statement_of.ensures in
    record {
      from = omega (arith, first);
      within = omega (arith, within);
      end = refl;
      made = items ∙ ap (λ (s : Stmt). c.loop-number.body.items ++ s ∷ []) value ∙ after-more (statement_of c.args.call) c.args.body.now.items c.loop-number.body.items c.loop-number.number first c.loop-number.invariant.made;
    }
