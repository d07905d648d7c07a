use Rattle.pct_names.proofs.Names.{ap, lines_of, None, Some, subst, sym, ◌∙◌}
use Rattle.pct_text.proofs.Lines.{lines_of-nil}
use Rattle.pct_report_reader.specs.Body.{as_body}
use Rattle.pct_report_reader.specs.Gives.{GivesAlways}
use Rattle.pct_report_reader.specs.Reading.{format_of_title, Read, ReadBody}
use Rattle.pct_report_reader.proofs.BodyLines.{by_title, no_line}
use Rattle.pct_report_reader.proofs.reader.body_in.Goals as goal

pub returns-in_default-clause-read : goal.returns-in_default-clause-read
returns-in_default-clause-read c = no_line (lines_of c.args.text.now) (ap lines_of c.in_default.ensures ∙ lines_of-nil)

pub returns-in-Some-format_of_title-clause-read : goal.returns-in-Some-format_of_title-clause-read
returns-in-Some-format_of_title-clause-read c =
    let whole = by_title (lines_of c.args.text.now) c.in-Some.title.now (lines_of c.in-Some.after.now) (Some c.in-Some-format_of_title.format) c.in-Some.ensures.lines
    (ap format_of_title (sym c.strip_cr.ensures) ∙ sym c.in-Some-format_of_title.ensures) in
    subst (λ (read : Read ReadBody). GivesAlways as_body c.body_from.result read) (sym whole) c.body_from.ensures.read

pub returns-in-None-clause-read : goal.returns-in-None-clause-read
returns-in-None-clause-read c =
    by_title (lines_of c.args.text.now) c.in-Some.title.now (lines_of c.in-Some.after.now) None c.in-Some.ensures.lines
    (ap format_of_title (sym c.strip_cr.ensures) ∙ sym c.in-None.ensures)
