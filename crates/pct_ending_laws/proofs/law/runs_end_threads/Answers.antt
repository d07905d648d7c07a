use Rattle.pct_ending_laws.proofs.KeptStates.{every_run_keeps_laws, every_state_is_kept}
use Rattle.pct_ending_laws.proofs.law.runs_end_threads.Goals as goal

pub returns-clause-laws : goal.returns-clause-laws
returns-clause-laws c = every_run_keeps_laws

pub returns-clause-kept : goal.returns-clause-kept
returns-clause-kept c = every_state_is_kept
