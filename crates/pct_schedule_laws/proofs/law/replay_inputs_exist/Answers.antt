use Rattle.pct_schedule_laws.proofs.ReplayInput.{replay_input_is_split, replay_input_exists, run_has_input, read_schedule_has_input}
use Rattle.pct_schedule_laws.proofs.law.replay_inputs_exist.Goals as goal

pub returns-clause-split : goal.returns-clause-split
returns-clause-split c = replay_input_is_split

pub returns-clause-exist : goal.returns-clause-exist
returns-clause-exist c = replay_input_exists

pub returns-clause-runs : goal.returns-clause-runs
returns-clause-runs c = run_has_input

pub returns-clause-read : goal.returns-clause-read
returns-clause-read c = read_schedule_has_input
