use Rattle.pct_inspection.proofs.Outcomes.{expectation-answer, survey-answer}
use Rattle.pct_inspection.proofs.surveying.survey_script.Goals as goal

pub returns-in_ok-counted-in-Ok : goal.returns-in_ok-counted-in-Ok
returns-in_ok-counted-in-Ok g c = λ words input asks has.
    survey-answer words input c.args.expectation.now c.args.asked.0 c.args.asked.1 _ c.args.script.now c.in-Ok.rules c.in_ok-counted-in-Ok.counted asks has c.in-Ok.ensures.read
    (λ i. record c.args.asked.1 { format = c.format_of.ensures i }) c.in_ok-counted-in-Ok.ensures

pub returns-in-Err-Refused : goal.returns-in-Err-Refused
returns-in-Err-Refused g c = λ words input asks has.
    rw c.in-Err-Refused.field-0-is
    (expectation-answer words input c.args.expectation.now c.args.asked.0 c.args.asked.1 c.args.script.now c.in-Err-Refused.line c.in-Err-Refused.why asks has
    (rw c.in-Err-Refused.field-0-is at c.in-Err-Refused.ensures.read))
