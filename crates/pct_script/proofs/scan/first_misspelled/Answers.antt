use Rattle.pct_names.proofs.Names.{ap, spelling, sym, ◌∙◌}
use Rattle.pct_script_lines.proofs.TextSpelling.{misspelled_first, spelled_right, none_misspelled}
use Rattle.pct_script.proofs.scan.first_misspelled.Goals as goal

pub returns-in-Some-misspelled : goal.returns-in-Some-misspelled
returns-in-Some-misspelled c =
    sym (c.loop-number.invariant ∙ ap spelling c.in-Some.ensures ∙ misspelled_first c.in-Some.number c.in-Some.line.now c.next.new.self c.in-Some-misspelled.why (sym c.in-Some-misspelled.ensures))

pub loop-number-preserved : goal.loop-number-preserved
loop-number-preserved c =
    c.loop-number.invariant ∙ ap spelling c.in-Some.ensures ∙ spelled_right c.in-Some.number c.in-Some.line.now c.next.new.self (sym c.in_default-misspelled.ensures)

pub returns : goal.returns
returns c = sym (c.loop-number.invariant ∙ ap spelling c.in_default.ensures.0 ∙ none_misspelled)
