use Rattle.pct_names.proofs.Names.{refl}
use Rattle.pct_judgement.proofs.NonEmptyRules.{some_rules}
use Rattle.pct_command.proofs.Outcomes.{audit-answer, judgement-answer}
use Rattle.pct_command.proofs.answering.answer_of.Goals as goal

pub returns-in_err-judge_input-in-Expect-clause-memory : goal.returns-in_err-judge_input-in-Expect-clause-memory
returns-in_err-judge_input-in-Expect-clause-memory g c = λ _. some_rules c.args.text.now (c.in_err-judge_input-in-Expect.ensures.memory refl)

pub returns-in_ok-judge_input-in-Expect-clause-answer : goal.returns-in_ok-judge_input-in-Expect-clause-answer
returns-in_ok-judge_input-in-Expect-clause-answer g c = λ words asks.
    judgement-answer words c.args.text.now c.in_ok-judge_input-in-Expect.field-0 (rw c.in-Expect.is at asks) c.requires.fits c.in_ok-judge_input-in-Expect.ensures.judgement

pub returns-in_ok-audit_report-in-Audit-clause-answer : goal.returns-in_ok-audit_report-in-Audit-clause-answer
returns-in_ok-audit_report-in-Audit-clause-answer g c = λ words asks.
    audit-answer words c.args.text.now c.in_ok-audit_report-in-Audit.field-0 (rw c.in-Audit.is at asks) c.requires.fits c.in_ok-audit_report-in-Audit.ensures.audit
