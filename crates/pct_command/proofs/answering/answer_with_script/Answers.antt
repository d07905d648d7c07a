use Rattle.pct_names.proofs.Names.{FirstFault, refl, subst, take}
use Rattle.pct_command.proofs.AskedWords.{job_needs_input, is_part}
use Rattle.pct_command.proofs.Scripts.{has-parts}
use Rattle.pct_command.proofs.Outcomes.{script-answer}
use Rattle.pct_command.proofs.NonEmptyTexts.{needs_bytes, faultless_bytes, some_of_prefix}
use Rattle.pct_command.proofs.answering.answer_with_script.Goals as goal

pub returns-in-Ok-clause-answer : goal.returns-in-Ok-clause-answer
returns-in-Ok-clause-answer g c = λ words asks.
    c.answer_script.ensures words c.args.text.now asks
    (has-parts words c.args.job c.args.text.now c.in-Ok.script c.parts_of-end.result asks c.requires.fits c.parts_of-end.ensures.parts c.in-Ok.ensures.spelled)

pub returns-in-Err-Refused-clause-answer : goal.returns-in-Err-Refused-clause-answer
returns-in-Err-Refused-clause-answer g c = λ words asks.
    rw c.in-Err-Refused.field-0-is
    (script-answer words c.args.text.now c.in-Err-Refused.line c.in-Err-Refused.why (job_needs_input words c.args.job asks c.requires.input) c.requires.fits
    (subst (λ part. FirstFault part c.in-Err-Refused.line c.in-Err-Refused.why) (is_part words c.args.job c.args.text.now c.parts_of-end.result asks c.parts_of-end.ensures.parts) (rw c.in-Err-Refused.field-0-is at c.in-Err-Refused.ensures.refused)))

pub returns-in-Ok-clause-memory : goal.returns-in-Ok-clause-memory
returns-in-Ok-clause-memory g c = λ _.
    some_of_prefix c.parts_of-end.result.0 c.args.text.now (faultless_bytes (take c.parts_of-end.result.0 c.args.text.now) c.in-Ok.ensures.faultless)

pub returns-in-Err-NoMemory-clause-memory : goal.returns-in-Err-NoMemory-clause-memory
returns-in-Err-NoMemory-clause-memory g c = λ _.
    some_of_prefix c.parts_of-end.result.0 c.args.text.now
    (needs_bytes (take c.parts_of-end.result.0 c.args.text.now) (c.in-Err-NoMemory.ensures.memory (rw c.in-Err-NoMemory.field-0-is refl)))
