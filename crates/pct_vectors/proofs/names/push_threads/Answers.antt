use Rattle.pct_names.proofs.Names.{◌++◌, [], ap, arith, List, refl, sym, ℕ, ◌∙◌, ◌∷◌, ◌≡◌}
use Rattle.pct_vectors.specs.GeneratedContents.{thread_name}
use Rattle.pct_vectors.proofs.Numbered.{after-more}
use Rattle.pct_vectors.proofs.names.push_threads.Goals as goal

pub loop-number-preserved : goal.loop-number-preserved
loop-number-preserved c =
    let items = c.in_ok-push.ensures.items in
    let first = c.loop-number.invariant.from in
    let within = c.loop-number-test.true in
    let value = c.thread_name.ensures in
    record {
      from = omega (arith, first);
      within = omega (arith, within);
      end = refl;
      made = items ∙ ap (λ (s : List ℕ). c.loop-number.names.items ++ s ∷ []) value ∙ after-more thread_name c.args.names.now.items c.loop-number.names.items c.loop-number.number first c.loop-number.invariant.made;
    }
