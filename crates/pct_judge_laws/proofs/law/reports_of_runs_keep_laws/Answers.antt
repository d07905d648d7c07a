-- The answer for `reports_of_runs_keep_laws`.
use Rattle.pct_names.proofs.Names.{length, report_of}
use Rattle.pct_judge_laws.proofs.KeptReports.{keeps_laws}
use Rattle.pct_judge_laws.proofs.law.reports_of_runs_keep_laws.Goals as goal

pub returns : goal.returns
returns c = λ script config entries r ran.
    keeps_laws config (length r.events) (report_of script config entries r) (c.reports_of_runs_are_lawful.ensures script config entries r ran)
