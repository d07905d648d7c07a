use Rattle.pct_grammar.proofs.CanonSpells.{canon_spells}
use Rattle.pct_grammar.proofs.Scripts.{spelled_is_faultless, faultless_is_spelled, spells_one_script}
use Rattle.pct_grammar.proofs.law.texts_spell_scripts.Goals as goal

pub returns-clause-faultless : goal.returns-clause-faultless
returns-clause-faultless c = spelled_is_faultless

pub returns-clause-spelled : goal.returns-clause-spelled
returns-clause-spelled c = faultless_is_spelled

pub returns-clause-one : goal.returns-clause-one
returns-clause-one c = spells_one_script

pub returns-clause-canon : goal.returns-clause-canon
returns-clause-canon c = canon_spells
