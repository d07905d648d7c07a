-- The answers for `judge_report`.
use Rattle.pct_names.proofs.Names.{refl}
use Rattle.pct_report_audit.proofs.ReadReports.{report_refused, some_body, some_report}
use Rattle.pct_report_judge.proofs.report_findings.judge_report.Goals as goal

pub returns-in_err-found-in-Ok-clause-memory : goal.returns-in_err-found-in-Ok-clause-memory
returns-in_err-found-in-Ok-clause-memory c = λ _. some_report c.args.text.now _ _ _ c.in-Ok.ensures.read

pub returns-in-Err-Refused-clause-findings : goal.returns-in-Err-Refused-clause-findings
returns-in-Err-Refused-clause-findings c =
    rw c.in-Err-Refused.field-0-is
    (report_refused c.args.text.now c.in-Err-Refused.line c.in-Err-Refused.why (rw c.in-Err-Refused.field-0-is at c.in-Err-Refused.ensures.read))

pub returns-in-Err-NoMemory-clause-memory : goal.returns-in-Err-NoMemory-clause-memory
returns-in-Err-NoMemory-clause-memory c = λ _. some_body c.args.text.now (c.in-Err-NoMemory.ensures.memory (rw c.in-Err-NoMemory.field-0-is refl))
