use Rattle.pct_names.proofs.Names.{ap, length, unwrap_or, ◌∙◌}
use Rattle.pct_script_lines.proofs.SectionSteps.{first_section}
use Rattle.pct_script_lines.proofs.sections.next_section.Goals as goal

pub returns-clause-section : goal.returns-clause-section
returns-clause-section c =
    let after = c.in_ok-header.after.now in
    let index = c.unwrap_or.ensures ∙ ap (λ index. unwrap_or index (length after)) c.next_header.ensures in
    first_section c.args.lines.now c.in_ok-header.header.now after c.unwrap_or.result c.split_at.result.0.now c.split_at.result.1.now
    c.requires c.in_ok-header.ensures.cases.0 index c.split_at.ensures.front c.split_at.ensures.back
