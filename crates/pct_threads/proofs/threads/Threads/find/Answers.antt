use Rattle.pct_names.proofs.Names.{arith, position-Some, sym, ◌∙◌}
use Rattle.pct_threads.specs.Slots.{unused, has_id}
use Rattle.pct_threads.specs.Tables.{held_at}
use Rattle.pct_threads.proofs.TableLemmas.{occupied-test}
use Rattle.pct_threads.proofs.threads.Threads.find.Goals as goal

pub overflow_cast-result : goal.overflow_cast-result
overflow_cast-result c =
    let found = position-Some (has_id c.args.id) c.args.self.now c.in-Some.index unused (sym c.index_of.ensures.value ∙ c.in-Some.is) in
    omega (arith, found.0, c.index_of.ensures.few)

pub returns-in-Some-clause-occupied : goal.returns-in-Some-clause-occupied
returns-in-Some-clause-occupied c =
    let found = position-Some (has_id c.args.id) c.args.self.now c.in-Some.index unused (sym c.index_of.ensures.value ∙ c.in-Some.is) in
    occupied-test _ (held_at c.args.self.now c.in-Some.index) found.1
