use Rattle.std.proofs.Common.{◌≡◌, ap, refl, rules, sym, subst, ◌∙◌, List}
use Rattle.std.specs.Prelude.{Result}
use Rattle.std.proofs.lemmas.Fn.{always_returns_same}
use Rattle.pct_tallies.specs.declared.range_tally.PlacedTally.{PlacedTally}
use Rattle.pct_tallies.specs.declared.range_tally.RangeTally.{RangeTally}
use Rattle.pct_tallies.specs.Faults.{Fault, Gives}
use Rattle.pct_tallies.specs.Totals.{AreOrdered, total_in_order}
use Rattle.pct_tallies.proofs.TotalResults.{gives_total}
use Rattle.pct_tallies.proofs.total.total_of_alike.Goals as goal

pub returns : goal.returns
returns c =
    let sorted = c.sort_by_key.new.self.items in
    let ordered : AreOrdered c.args.tallies.items sorted = record {
      same = c.in_ok-sort_by_key.ensures.permutation;
      sorted = c.in_ok-sort_by_key.ensures.sorted (λ (placed : PlacedTally). placed.range.seeds.first) (always_returns_same _ (λ a r. r ≡ a.0.now.range.seeds.first) _ (λ a r q k. search rules));
      stable = c.in_ok-sort_by_key.ensures.stable (λ (placed : PlacedTally). placed.range.seeds.first) (always_returns_same _ (λ a r. r ≡ a.0.now.range.seeds.first) _ (λ a r q k. search rules));
    } in
    gives_total (λ total. (x : List PlacedTally) × AreOrdered c.args.tallies.items x × (total_in_order x ≡ total)) c.total_in_order.result (total_in_order sorted)
    (rw c.as_slice.ensures.value at c.total_in_order.ensures) (sorted, ordered, refl)
