use Rattle.pct_engine.proofs.EngineLaws.{keeps_laws}
use Rattle.pct_history.proofs.replaying.replay.Goals as goal

pub returns-in_default-None-clause-laws : goal.returns-in_default-None-clause-laws
returns-in_default-None-clause-laws c = keeps_laws _
