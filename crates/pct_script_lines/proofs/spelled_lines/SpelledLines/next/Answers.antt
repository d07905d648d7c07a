use Rattle.pct_names.proofs.Names.{arith, sym, ◌∙◌}
use Rattle.pct_script_lines.proofs.TextSpelling.{none_spelled, spelled_first, spelled_later}
use Rattle.pct_script_lines.proofs.spelled_lines.SpelledLines.next.Goals as goal

pub returns-then-spells_something : goal.returns-then-spells_something
returns-then-spells_something c =
    let left = c.loop-line.self-inside in
    c.loop-line.invariant.0 ∙ spelled_first left.number left.rest.now c.in-Some.line.now c.in-Some.after.now c.in-Some.ensures.lines (sym c.if-spells_something.ensures)

pub loop-line-preserved : goal.loop-line-preserved
loop-line-preserved c =
    let left = c.loop-line.self-inside in (
      c.loop-line.invariant.0 ∙ spelled_later left.number left.rest.now c.in-Some.line.now c.in-Some.after.now c.in-Some.ensures.lines (sym c.if-spells_something.ensures),
      omega (arith, c.in-Some.ensures.shorter),
    )

pub returns : goal.returns
returns c =
    let none = none_spelled c.loop-line.self-inside.number c.loop-line.self-inside.rest.now c.in_default.ensures in
    (c.loop-line.invariant.0 ∙ none, none)
