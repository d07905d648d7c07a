use Rattle.pct_names.proofs.Names.{ap, fault_at_line, sym, TooMany, ◌∙◌}
use Rattle.pct_script_lines.specs.LineCounts.{limit_in}
use Rattle.pct_script_lines.proofs.LineLimits.{limit_stops, limit_goes_on, limit_none}
use Rattle.pct_script_lines.proofs.limits.check_limits.Goals as goal

pub loop-number-preserved : goal.loop-number-preserved
loop-number-preserved c =
    let counts = c.loop-number.counts in
    c.loop-number.invariant ∙ ap (limit_in counts) c.in-Some.ensures
    ∙ limit_goes_on counts c.in-Some-with_outline.next c.in-Some.number c.in-Some.outline c.next.new.self (sym c.in-Some-with_outline.ensures)

pub returns-in-None : goal.returns-in-None
returns-in-None c =
    let counts = c.loop-number.counts in
    sym (ap (fault_at_line TooMany) (c.loop-number.invariant ∙ ap (limit_in counts) c.in-Some.ensures ∙ limit_stops counts c.in-Some.number c.in-Some.outline c.next.new.self (sym c.in-None.ensures)))

pub returns : goal.returns
returns c =
    let counts = c.loop-number.counts in
    sym (ap (fault_at_line TooMany) (c.loop-number.invariant ∙ ap (limit_in counts) c.in_default.ensures ∙ limit_none counts))
