use Rattle.pct_engine_laws.proofs.TransitionSeen.{transition_is_seen}
use Rattle.pct_engine_laws.proofs.AfterSeen.{after_is_seen}
use Rattle.pct_engine_laws.proofs.VerdictSeen.{verdict_is_seen}
use Rattle.pct_engine_laws.proofs.ChosenSeen.{chosen_is_seen}
use Rattle.pct_engine_laws.proofs.OpenRuns.{steps_if_legal, goes_on_while_open}
use Rattle.pct_engine_laws.proofs.FewThreads.{few_made}
use Rattle.pct_engine_laws.proofs.FewKeys.{few_keys_made}
use Rattle.pct_engine_laws.proofs.FewProcesses.{few_processes_made}
use Rattle.pct_engine_laws.proofs.RunNumbers.{run_numbers_fit}
use Rattle.pct_engine_laws.proofs.law.seen_parts_decide.Goals as goal

pub returns-clause-transition : goal.returns-clause-transition
returns-clause-transition c = transition_is_seen

pub returns-clause-after : goal.returns-clause-after
returns-clause-after c = after_is_seen

pub returns-clause-verdict : goal.returns-clause-verdict
returns-clause-verdict c = verdict_is_seen

pub returns-clause-chosen : goal.returns-clause-chosen
returns-clause-chosen c = chosen_is_seen

pub returns-clause-step : goal.returns-clause-step
returns-clause-step c = steps_if_legal

pub returns-clause-open : goal.returns-clause-open
returns-clause-open c = goes_on_while_open

pub returns-clause-few : goal.returns-clause-few
returns-clause-few c = few_made

pub returns-clause-few_keys : goal.returns-clause-few_keys
returns-clause-few_keys c = few_keys_made

pub returns-clause-few_processes : goal.returns-clause-few_processes
returns-clause-few_processes c = few_processes_made

pub returns-clause-numbers : goal.returns-clause-numbers
returns-clause-numbers c = run_numbers_fit
