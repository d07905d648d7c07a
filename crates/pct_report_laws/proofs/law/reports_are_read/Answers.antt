-- The answer for `reports_are_read`.
use Rattle.pct_event_lines.proofs.EventsAgain.{have_texts}
use Rattle.pct_report_laws.proofs.ReportReads.{report_is_read}
use Rattle.pct_report_laws.proofs.law.reports_are_read.Goals as goal

pub returns : goal.returns
returns c = λ script config events verdict entries is items fit. report_is_read script config events verdict entries is (have_texts script events items fit)
