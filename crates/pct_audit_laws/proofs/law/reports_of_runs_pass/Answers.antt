-- The answer for `reports_of_runs_pass`.
use Rattle.pct_names.proofs.Names.{length, report_of}
use Rattle.pct_audit_laws.proofs.Passes.{passes}
use Rattle.pct_audit_laws.proofs.law.reports_of_runs_pass.Goals as goal

pub returns : goal.returns
returns c = λ script config entries r ran.
    passes config (length r.events) (report_of script config entries r) (c.reports_of_runs_are_lawful.ensures script config entries r ran)
