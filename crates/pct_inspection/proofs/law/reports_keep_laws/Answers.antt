use Rattle.pct_names.proofs.Names.{length, report_of}
use Rattle.pct_inspection.proofs.KeptReports.{kept_report}
use Rattle.pct_inspection.proofs.law.reports_keep_laws.Goals as goal

pub returns : goal.returns
returns c = λ script config entries r ran fits.
    kept_report config (length r.events) (report_of script config entries r) fits (c.reports_of_runs_keep_laws.ensures script config entries r ran)
