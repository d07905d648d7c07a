use Rattle.pct_names.proofs.Names.{arith}
use Rattle.pct_transitions.proofs.ListedChoices.{news_listed}
use Rattle.pct_transitions.proofs.choice_table.new_or_go.Goals as goal

pub returns-else-len-eq0-clause-value : goal.returns-else-len-eq0-clause-value
returns-else-len-eq0-clause-value c = λ threads keys. news_listed threads c.args.free.now (omega (arith, c.len.ensures.value, c.if-len-eq0.false))
