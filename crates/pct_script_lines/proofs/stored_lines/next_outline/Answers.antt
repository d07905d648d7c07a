use Rattle.pct_names.proofs.Names.{ap, sym, ◌∙◌}
use Rattle.pct_script_lines.specs.Outlines.{outlines_in}
use Rattle.pct_script_lines.proofs.LineOutlines.{no_outlines, outline_first, outline_later}
use Rattle.pct_script_lines.proofs.stored_lines.next_outline.Goals as goal

pub returns-in-Some-outline_in : goal.returns-in-Some-outline_in
returns-in-Some-outline_in c =
    c.loop-number.invariant ∙ ap outlines_in c.in-Some.ensures ∙ outline_first c.in-Some.number c.in-Some.line.now c.next.new.self c.in-Some-outline_in.outline (sym c.in-Some-outline_in.ensures)

pub loop-number-preserved : goal.loop-number-preserved
loop-number-preserved c =
    c.loop-number.invariant ∙ ap outlines_in c.in-Some.ensures ∙ outline_later c.in-Some.number c.in-Some.line.now c.next.new.self (sym c.in_default-outline_in.ensures)

pub returns : goal.returns
returns c = c.loop-number.invariant ∙ ap outlines_in c.in_default.ensures.0 ∙ no_outlines
