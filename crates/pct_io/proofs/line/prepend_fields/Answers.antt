use Rattle.std.proofs.Common.{arith}
use Rattle.std.proofs.lemmas.Grind.{common_steps}
use Rattle.pct_io.specs.Fields.{field_text}
use Rattle.pct_io.proofs.Joined.{joined}
use Rattle.pct_io.proofs.line.prepend_fields.Goals as goal

pub returns-in_err-start-in-Some : goal.returns-in_err-start-in-Some
returns-in_err-start-in-Some c = rw (c.in-Some.ensures.cases.0, joined field_text c.in-Some.first.now c.in-Some.rest.now) (grind (arith, common_steps))

pub returns-in_ok-start-in-Some : goal.returns-in_ok-start-in-Some
returns-in_ok-start-in-Some c = rw (c.in-Some.ensures.cases.0, joined field_text c.in-Some.first.now c.in-Some.rest.now) (grind (arith, common_steps))
