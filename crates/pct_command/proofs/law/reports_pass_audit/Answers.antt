use Rattle.pct_command.proofs.PassedAudits.{reports_pass}
use Rattle.pct_command.proofs.law.reports_pass_audit.Goals as goal

pub returns : goal.returns
returns c = reports_pass
