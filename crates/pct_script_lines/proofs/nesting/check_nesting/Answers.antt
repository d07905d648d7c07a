use Rattle.pct_names.proofs.Names.{ap, change_at, kinds_of, nesting_in, sym, ◌∙◌}
use Rattle.pct_script_lines.specs.Outlines.{outline_roles}
use Rattle.pct_script_lines.proofs.LineOutlines.{nesting_of_outlines, nesting_stops, nesting_goes_on, nesting_unclosed, nesting_closed}
use Rattle.pct_script_lines.proofs.nesting.check_nesting.Goals as goal

pub loop-number-preserved : goal.loop-number-preserved
loop-number-preserved c =
    let blocks = c.loop-number.blocks in
    let after = c.next.new.self in
    c.loop-number.invariant ∙ ap (λ outlines. nesting_in blocks (outline_roles outlines)) c.in-Some.ensures
    ∙ nesting_goes_on blocks c.in-Some.number c.in-Some.outline after c.in-Ok.change (ap (change_at (kinds_of blocks)) (sym c.role.ensures) ∙ sym c.in-Ok.ensures)
    ∙ ap (λ left. nesting_in left (outline_roles after)) (sym c.in_ok-change-in-Ok.ensures)

pub returns-in-Err : goal.returns-in-Err
returns-in-Err c =
    let blocks = c.loop-number.blocks in
    sym (nesting_of_outlines c.args.lines.now) ∙ c.loop-number.invariant ∙ ap (λ outlines. nesting_in blocks (outline_roles outlines)) c.in-Some.ensures
    ∙ nesting_stops blocks c.in-Some.number c.in-Some.outline c.next.new.self c.in-Err.why (ap (change_at (kinds_of blocks)) (sym c.role.ensures) ∙ sym c.in-Err.ensures)

pub returns-in-Some-innermost : goal.returns-in-Some-innermost
returns-in-Some-innermost c =
    let blocks = c.loop-number.blocks in
    sym (nesting_of_outlines c.args.lines.now) ∙ c.loop-number.invariant ∙ ap (λ outlines. nesting_in blocks (outline_roles outlines)) c.in_default.ensures
    ∙ nesting_unclosed blocks c.in-Some-innermost.line c.in-Some-innermost.field-0-1 (sym c.in-Some-innermost.ensures)

pub returns : goal.returns
returns c =
    let blocks = c.loop-number.blocks in
    sym (nesting_of_outlines c.args.lines.now) ∙ c.loop-number.invariant ∙ ap (λ outlines. nesting_in blocks (outline_roles outlines)) c.in_default.ensures
    ∙ nesting_closed blocks (sym c.in-None.ensures)
