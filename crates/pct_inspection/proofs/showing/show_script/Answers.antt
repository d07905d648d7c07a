use Rattle.pct_names.proofs.Names.{ap, refl, subst, ◌∙◌}
use Rattle.pct_script_lines.specs.StatementLines.{statement_lines}
use Rattle.pct_view_texts.specs.TextBuffers.{text_in}
use Rattle.pct_inspection.specs.declared.words.Inspection.TheVariants as inspection
use Rattle.pct_inspection.specs.declared.words.View.{View}
use Rattle.pct_inspection.specs.Answer.{AsksFor}
use Rattle.pct_inspection.proofs.Outcomes.{prefix-answer}
use Rattle.pct_inspection.proofs.Views.{state-answered, steps-answered}
use Rattle.pct_inspection.proofs.showing.show_script.Goals as goal

pub returns-in-Choices : goal.returns-in-Choices
returns-in-Choices c = λ words input asks has of_text.
    state-answered words input c.args.script c.in-Ok.config c.in-Ok.entries has.has_script (rw (c.format_of.ensures, has.rest) at c.in-Ok.ensures.read) c.in_ok-lines.lines c.args.view c.show_state.result
    (c.in_ok-lines.ensures ∙ ap statement_lines of_text)
    c.in-Choices.is
    asks
    c.show_state.ensures

pub returns-in-Ok : goal.returns-in-Ok
returns-in-Ok c = λ words input asks has of_text.
    let steps = c.in_ok-steps-in-Steps in
    let shown = steps.steps in
    steps-answered words input c.args.script c.in-Ok.config c.in-Ok.entries has.has_script (rw (c.format_of.ensures, has.rest) at c.in-Ok.ensures.read) c.in-Steps.form shown.illegal c.in_ok-lines.lines (text_in shown.text) shown.verdict c.in_form.result
    (subst (λ (view : View). AsksFor words (inspection.Show view)) c.in-Steps.is asks)
    (c.in_ok-lines.ensures ∙ ap statement_lines of_text)
    steps.ensures
    c.in_form.ensures

pub returns-in-Err-Refused : goal.returns-in-Err-Refused
returns-in-Err-Refused c = λ words input asks has of_text.
    rw c.in-Err-Refused.field-0-is
    (prefix-answer words input (inspection.Show c.args.view) c.args.script c.in-Err-Refused.line c.in-Err-Refused.why asks refl has.has_script (rw (c.in-Err-Refused.field-0-is, c.format_of.ensures, has.rest) at c.in-Err-Refused.ensures.read))
