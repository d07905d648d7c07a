-- Tallies have one sum.
use Rattle.std.proofs.Common.{◌≡◌, ap, sym, ◌∙◌, List, Some, None}
use Rattle.std.specs.Prelude.{Result, Err}
use Rattle.pct_names.proofs.Names.{none-some, same_Some}
use Rattle.pct_tallies.specs.declared.range_tally.PlacedTally.{PlacedTally}
use Rattle.pct_tallies.specs.declared.range_tally.RangeTally.{RangeTally}
use Rattle.pct_tallies.specs.Faults.{Fault}
use Rattle.pct_tallies.specs.Totals.{AreOrdered, IsTotalOf, TotalsAreOne, total_in_order}
use Rattle.pct_tallies.specs.Totals as total
use Rattle.pct_tallies.proofs.OneOrder.{sorted_alike}

pub orders_are_one : (tallies one other : List PlacedTally) → AreOrdered tallies one → AreOrdered tallies other → one ≡ other
orders_are_one tallies one other a b = sorted_alike (λ placed. placed.range.seeds.first) tallies one other a.sorted a.stable b.sorted b.stable

pub totals_are_one : TotalsAreOne
totals_are_one tallies one other (total.Differ f e is) (total.Differ g d same) = is ∙ ap Err (same_Some f g (sym e ∙ d)) ∙ sym same
totals_are_one tallies one other (total.Differ f e is) (total.Added alike ordered are same) = absurd (none-some f (sym alike ∙ e))
totals_are_one tallies one other (total.Added alike ordered are is) (total.Differ g d same) = absurd (none-some g (sym alike ∙ d))
totals_are_one tallies one other (total.Added alike ordered are is) (total.Added also others were same) = sym is ∙ ap total_in_order (orders_are_one tallies ordered others are were) ∙ same
