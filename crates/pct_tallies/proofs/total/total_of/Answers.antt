use Rattle.std.proofs.Common.{◌≡◌, List, ap, refl, sym, ◌∙◌}
use Rattle.pct_tallies.specs.declared.range_tally.PlacedTally.{PlacedTally}
use Rattle.pct_tallies.specs.Totals.{AreOrdered, IsTotalOf, fault_of_subjects, total_in_order}
use Rattle.pct_tallies.specs.Totals as total
use Rattle.pct_tallies.proofs.TotalResults.{total_has}
use Rattle.pct_tallies.proofs.total.total_of.Goals as goal

pub returns-in-Some : goal.returns-in-Some
returns-in-Some c =
    rw c.refused.ensures
    (total.Differ (c.in-Some.line, c.in-Some.why) (sym (ap fault_of_subjects c.as_slice.ensures.value) ∙ sym c.fault_of_subjects.ensures ∙ c.in-Some.is) refl)

pub returns : goal.returns
returns c =
    let alike = sym (ap fault_of_subjects c.as_slice.ensures.value) ∙ sym c.fault_of_subjects.ensures ∙ c.in_default.is in
    total_has (λ t. (x : List PlacedTally) × AreOrdered c.args.tallies.items x × (total_in_order x ≡ t)) (IsTotalOf c.args.tallies.items)
    (λ t (h : (x : List PlacedTally) × AreOrdered c.args.tallies.items x × (total_in_order x ≡ t)). total.Added alike h.0 h.1 h.2) c.total_of_alike.result c.total_of_alike.ensures
