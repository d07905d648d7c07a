use Rattle.pct_names.proofs.Names.{◌∙◌, ap, List, subst}
use Rattle.pct_expect.specs.declared.span.Span.{Span}
use Rattle.pct_report_judge.specs.declared.report_findings.ReportFindings.{ReportFindings}
use Rattle.pct_report_judge.specs.FindingsTexts.{findings_text}
use Rattle.pct_report_judge.specs.ReportFindings.{AreReportFindings}
use Rattle.pct_inspection.proofs.JudgedReports.{some_judged}
use Rattle.pct_inspection.proofs.Outcomes.{judge-answer, report-answer}
use Rattle.pct_inspection.proofs.judging.answer_of.Goals as goal

pub returns-in_err-text-in-Judged-clause-memory : goal.returns-in_err-text-in-Judged-clause-memory
returns-in_err-text-in-Judged-clause-memory c = λ _.
    some_judged c.args.input.now c.in-Judged.found c.in-Judged.lines (subst (λ (f : ReportFindings). AreReportFindings c.args.input.now f) c.in-Judged.is c.requires.findings)

pub returns-in_ok-text-in-Judged-clause-answer : goal.returns-in_ok-text-in-Judged-clause-answer
returns-in_ok-text-in-Judged-clause-answer c = λ words asks.
    judge-answer words c.args.input.now c.in_ok-text-in-Judged.text.items c.are_kept.result c.in-Judged.found c.in-Judged.lines asks c.requires.fits
    (subst (λ (f : ReportFindings). AreReportFindings c.args.input.now f) c.in-Judged.is c.requires.findings) c.are_kept.ensures
    (c.in_ok-text-in-Judged.ensures ∙ ap (λ (lines : List Span). findings_text c.args.input.now lines c.in-Judged.found) c.as_slice.ensures)

pub returns-in-Refused-clause-answer : goal.returns-in-Refused-clause-answer
returns-in-Refused-clause-answer c = λ words asks.
    report-answer words c.args.input.now c.in-Refused.line c.in-Refused.why asks c.requires.fits
    (subst (λ (f : ReportFindings). AreReportFindings c.args.input.now f) c.in-Refused.is c.requires.findings)
