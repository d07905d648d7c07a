use Rattle.pct_names.proofs.Names.{refl}
use Rattle.pct_inspection.specs.declared.words.Inspection.TheVariants as inspection
use Rattle.pct_inspection.proofs.Outcomes.{continue-answer, prefix-answer}
use Rattle.pct_inspection.proofs.continuing.continue_script.Goals as goal

pub returns-in-Ok-follow : goal.returns-in-Ok-follow
returns-in-Ok-follow c = λ words input asks has.
    continue-answer words input c.args.seed c.args.script c.in-Ok.config c.in-Ok.entries c.in-Ok-follow.engine c.continue_seeded.new.engine c.in-Ok-follow.illegal asks has.has_script
    (rw (c.format_of.ensures, has.rest) at c.in-Ok.ensures.read) c.in-Ok-follow.ensures.followed c.continue_seeded.ensures.same c.continue_seeded.ensures.run

pub returns-in-Err-Refused : goal.returns-in-Err-Refused
returns-in-Err-Refused c = λ words input asks has.
    rw c.in-Err-Refused.field-0-is
    (prefix-answer words input (inspection.Continue c.args.seed) c.args.script c.in-Err-Refused.line c.in-Err-Refused.why asks refl has.has_script (rw (c.in-Err-Refused.field-0-is, c.format_of.ensures, has.rest) at c.in-Err-Refused.ensures.read))
