use Rattle.pct_script.proofs.EmptyTexts.{empty_fault}
use Rattle.pct_script.proofs.parser.no_main_or_no_memory.Goals as goal

pub returns-then-spells_nothing-clause-found : goal.returns-then-spells_nothing-clause-found
returns-then-spells_nothing-clause-found c = empty_fault c.args.text.now (c.spells_nothing.ensures.0 c.if-spells_nothing.true)
