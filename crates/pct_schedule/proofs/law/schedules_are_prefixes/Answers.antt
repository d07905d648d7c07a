use Rattle.pct_schedule.proofs.Prefixes.{schedule_is_prefix, prefix_fault_is_schedule_fault, only_end_is_missing}
use Rattle.pct_schedule.proofs.law.schedules_are_prefixes.Goals as goal

pub returns-clause-same : goal.returns-clause-same
returns-clause-same c = schedule_is_prefix

pub returns-clause-refused : goal.returns-clause-refused
returns-clause-refused c = prefix_fault_is_schedule_fault

pub returns-clause-unended : goal.returns-clause-unended
returns-clause-unended c = only_end_is_missing
