use Rattle.pct_names.proofs.Names.{refl}
use Rattle.pct_inspection.proofs.Outcomes.{sum-answer, sum_refusal-answer}
use Rattle.pct_inspection.proofs.tallying.sum_tallies.Goals as goal

pub returns-in-Ok-clause-answer : goal.returns-in-Ok-clause-answer
returns-in-Ok-clause-answer c = λ words asks. sum-answer words c.args.input.now c.in-Ok.range asks c.requires c.in-Ok.ensures.total

pub returns-in-Err-Refused-clause-answer : goal.returns-in-Err-Refused-clause-answer
returns-in-Err-Refused-clause-answer c = λ words asks.
    sum_refusal-answer words c.args.input.now c.in-Err-Refused.line c.in-Err-Refused.why asks c.requires (rw c.in-Err-Refused.field-0-is at c.in-Err-Refused.ensures.total)

pub returns-in-Err-NoMemory-clause-memory : goal.returns-in-Err-NoMemory-clause-memory
returns-in-Err-NoMemory-clause-memory c = λ _. c.in-Err-NoMemory.ensures.memory (rw c.in-Err-NoMemory.field-0-is refl)
