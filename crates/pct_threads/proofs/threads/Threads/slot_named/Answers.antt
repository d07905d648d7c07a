use Rattle.pct_names.proofs.Names.{nat_eq, sym, ◌∙◌}
use Rattle.pct_threads.specs.Tables.{held_at}
use Rattle.pct_threads.proofs.TableLemmas.{occupied-test}
use Rattle.pct_threads.proofs.threads.Threads.slot_named.Goals as goal

pub returns-then-has_id-clause-occupied : goal.returns-then-has_id-clause-occupied
returns-then-has_id-clause-occupied c = occupied-test (λ held. nat_eq held.id c.args.id) (held_at c.args.self.now c.slot_of-slot.result) (sym c.has_id.ensures ∙ c.if-has_id.true)
