use Rattle.pct_names.proofs.Names.{nil_from_length, subst, sym, ◌∙◌}
use Rattle.memchr.specs.Find.{IsFirstByte, is_byte}
use Rattle.pct_text.proofs.FirstLines.{empty_first, end_found, no_end_found}
use Rattle.pct_text.proofs.line.first_line.Goals as goal

pub returns-in_err-first : goal.returns-in_err-first
returns-in_err-first c = rw c.from_residual.ensures (nil_from_length c.args.text.now c.in_err-first.ensures.cases)

pub returns-then-first-eq10 : goal.returns-then-first-eq10
returns-then-first-eq10 c = empty_first c.args.text.now c.in_ok-first.rest.now c.in_ok-first.first.now c.in_ok-first.ensures.cases.0 c.if-first-eq10.true

pub returns-in_ok-after-in-Some : goal.returns-in_ok-after-in-Some
returns-in_ok-after-in-Some c =
    let found = subst (λ r. IsFirstByte (is_byte 10) c.args.text.now r) c.in-Some.is c.memchr.ensures in
    end_found c.args.text.now c.split_at.result.0.now c.in_ok-after-in-Some.after.now c.in-Some.end c.in_ok-after-in-Some.field-0-0.now found c.split_at.ensures.front
    (sym c.split_at.ensures.back ∙ c.in_ok-after-in-Some.ensures.cases.0)

pub returns-in-None : goal.returns-in-None
returns-in-None c =
    let none = subst (λ r. IsFirstByte (is_byte 10) c.args.text.now r) c.in-None.is c.memchr.ensures in
    no_end_found c.args.text.now c.in_ok-first.rest.now c.in_ok-first.first.now c.in_ok-first.ensures.cases.0 none
