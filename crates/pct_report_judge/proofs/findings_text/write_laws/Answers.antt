-- The answers for `write_laws`.
use Rattle.pct_names.proofs.Names.{arith, err_from_is_err_and}
use Rattle.pct_io.proofs.WritesInTurn.{Writes-last, Writes-next, Writes-next_fails}
use Rattle.pct_report_judge.specs.FindingsTexts.{law_line}
use Rattle.pct_report_judge.proofs.findings_text.write_laws.Goals as goal

pub loop-law-preserved : goal.loop-law-preserved
loop-law-preserved g c = λ new r writes.
    c.loop-law.invariant new r (Writes-next (law_line c.args.report.text.now c.args.report.lines.now c.args.found.now) _ c.loop-law.law-index _ r (omega arith) (rw c.of.ensures at c.in_ok-write_finding.ensures) writes)

pub returns-in_err-write_finding : goal.returns-in_err-write_finding
returns-in_err-write_finding g c =
    let p = err_from_is_err_and c.from_residual.result c.from_residual.ensures.1 in
    rw p.1
    (c.loop-law.invariant _ _ (Writes-next_fails (law_line c.args.report.text.now c.args.report.lines.now c.args.found.now) _ c.loop-law.law-index _ (omega arith) (rw c.of.ensures at c.in_err-write_finding.ensures)))

pub returns : goal.returns
returns g c = c.loop-law.invariant _ _ (Writes-last (law_line c.args.report.text.now c.args.report.lines.now c.args.found.now) _ c.loop-law.law-index _ (omega arith))
