use Rattle.std.proofs.Common.{ap, sym, ◌∙◌}
use Rattle.pct_tallies.specs.Totals.{first_subject_fault}
use Rattle.pct_tallies.proofs.NextItem.{next_item, past_all}
use Rattle.pct_tallies.proofs.SubjectFaults.{here, later, nowhere}
use Rattle.pct_tallies.proofs.total.first_subject_fault.Goals as goal

pub returns-in-Some : goal.returns-in-Some
returns-in-Some c =
    let i = c.loop-placed.placed-index in
    let placed = c.placed-item.result in
    sym (c.loop-placed.invariant
    ∙ ap (first_subject_fault c.args.subject) (next_item c.args.tallies.now i placed c.placed-item.is c.loop-placed-test.true)
    ∙ here c.args.subject placed _ c.in-Some.why (sym c.subject_fault.ensures ∙ c.in-Some.is))

pub loop-placed-preserved : goal.loop-placed-preserved
loop-placed-preserved c =
    let i = c.loop-placed.placed-index in
    let placed = c.placed-item.result in
    c.loop-placed.invariant
    ∙ ap (first_subject_fault c.args.subject) (next_item c.args.tallies.now i placed c.placed-item.is c.loop-placed-test.true)
    ∙ later c.args.subject placed _ (sym c.subject_fault.ensures ∙ c.in_default.is)

pub returns : goal.returns
returns c =
    sym (c.loop-placed.invariant
    ∙ ap (first_subject_fault c.args.subject) (past_all c.args.tallies.now c.loop-placed.placed-index c.loop-placed-test.false)
    ∙ nowhere c.args.subject)
