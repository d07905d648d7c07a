use Rattle.pct_event_bounds.proofs.ScriptNames.{names_of_scripts}
use Rattle.pct_event_bounds.proofs.law.scripts_have_names.Goals as goal

pub returns : goal.returns
returns c = names_of_scripts
