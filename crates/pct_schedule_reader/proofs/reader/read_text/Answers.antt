use Rattle.pct_names.proofs.Names.{ap, Config, Err, err_from_is_err_and, header_of, lines_of, List, None, Option, Result, Some, sym, ℕ, ◌∙◌}
use Rattle.pct_names.proofs.Names.{◌≡◌}
use Rattle.pct_schedule.specs.declared.end.End.{End}
use Rattle.pct_schedule.specs.Ends.{schedule_to}
use Rattle.pct_schedule.specs.Memory.{header_line}
use Rattle.pct_schedule.proofs.ByHeader.{at_header, from_its_header}
use Rattle.pct_schedule.proofs.LineLoops.{stored_after}
use Rattle.pct_schedule.proofs.WithinLimits.{text_within}
use Rattle.pct_schedule_reader.proofs.reader.read_text.Goals as goal

abbrev ErrOf : (Y E : Type 0) → E → Result Y E
ErrOf Y E e = Err e

passed_on : {X Y E : Type 0} (r : Result X E) (passed failed e : E) → r ≡ Err passed → passed ≡ failed → r ≡ Err e → ErrOf Y E failed ≡ Err e
passed_on r passed failed e is from gives =
    let same : failed ≡ e = cc in
    ap (λ x. Err x) same

by_config : (to : End) (text : List ℕ) (n : ℕ) (line : List ℕ) (lines : List (List ℕ)) (o : Option Config) → header_line 1 (lines_of text) ≡ Some (n, line, lines) → o ≡ header_of line
    → schedule_to to text ≡ at_header to n o lines
by_config to text n line lines o found e = from_its_header to text _ found ∙ ap (λ (h : Option Config). at_header to n h lines) (sym e)

pub returns-in_default-clause-read : goal.returns-in_default-clause-read
returns-in_default-clause-read c = from_its_header c.args.end c.args.text.now None c.in_default.ensures.found

pub returns-in_default-header_of-clause-read : goal.returns-in_default-header_of-clause-read
returns-in_default-header_of-clause-read c =
    by_config c.args.end c.args.text.now c.in-Some.number c.in-Some.line.now (lines_of c.in-Some.after.now) None c.in-Some.ensures.found c.in_default-header_of.ensures

pub returns-in_err-entries-clause-read : goal.returns-in_err-entries-clause-read
returns-in_err-entries-clause-read c =
    let p = err_from_is_err_and c.from_residual.result c.from_residual.ensures.1 in
    let all = by_config c.args.end c.args.text.now c.in-Some.number c.in-Some.line.now (lines_of c.in-Some.after.now) (Some c.in-Some-header_of.config) c.in-Some.ensures.found c.in-Some-header_of.ensures in
    rw (p.1, p.2, all) c.in_err-entries.ensures.read

pub returns-in_err-entries-clause-memory : goal.returns-in_err-entries-clause-memory
returns-in_err-entries-clause-memory c = λ e.
    let p = err_from_is_err_and c.from_residual.result c.from_residual.ensures.1 in
    stored_after c.args.text.now c.in-Some.number c.in-Some.line.now (lines_of c.in-Some.after.now) c.in-Some-header_of.config c.in-Some.ensures.found (sym c.in-Some-header_of.ensures) (c.in_err-entries.ensures.memory (passed_on c.from_residual.result _ _ _ p.1 p.2 e))

pub returns-clause-read : goal.returns-clause-read
returns-clause-read c =
    by_config c.args.end c.args.text.now c.in-Some.number c.in-Some.line.now (lines_of c.in-Some.after.now) (Some c.in-Some-header_of.config) c.in-Some.ensures.found c.in-Some-header_of.ensures
    ∙ c.in_ok-entries.ensures.read

pub returns-clause-within : goal.returns-clause-within
returns-clause-within c = text_within c.args.end c.args.text.now c.in-Some-header_of.config c.in_ok-entries.entries (returns-clause-read c)
