use Rattle.pct_names.proofs.Names.{arith, pick_or_go, refl}
use Rattle.pct_model.specs.declared.schedule.Alt.TheVariants as alt
use Rattle.pct_transitions.proofs.WaiterChoices.{some_wait}
use Rattle.pct_transitions.proofs.choice_table.pick_or_go.Goals as goal

pub returns-else-len-eq0-clause-value : goal.returns-else-len-eq0-clause-value
returns-else-len-eq0-clause-value c = λ threads keys waiters. some_wait (λ n. alt.Pick n) pick_or_go (λ w ws. refl) threads c.args.waiting.now waiters (omega (arith, c.len.ensures.value, c.if-len-eq0.false))
