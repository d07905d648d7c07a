use Rattle.pct_schedule_laws.proofs.ReadBack.{report_again, report_is_read_back}
use Rattle.pct_schedule_laws.proofs.law.reports_are_read_back.Goals as goal

pub returns-clause-texts : goal.returns-clause-texts
returns-clause-texts c = report_again

pub returns-clause-runs : goal.returns-clause-runs
returns-clause-runs c = report_is_read_back
