-- The sum of ranges, one after the other.
use Rattle.std.proofs.Common.{◌≡◌, ℕ, List, [], ◌∷◌, Option, Some, None, ap, refl, sym, ◌∙◌}
use Rattle.std.specs.Prelude.{Result, Ok, Err}
use Rattle.pct_tallies.specs.declared.fault.TallyFault.{TallyFault}
use Rattle.pct_tallies.specs.declared.fault.TallyFault.TheVariants as fault
use Rattle.pct_tallies.specs.declared.fault.TallyWhy.{TallyWhy}
use Rattle.pct_tallies.specs.declared.range_tally.PlacedTally.{PlacedTally}
use Rattle.pct_tallies.specs.declared.range_tally.RangeTally.{RangeTally}
use Rattle.pct_tallies.specs.Faults.{Fails, Fault}
use Rattle.pct_tallies.specs.Totals.{fault_after, next_sum, sum_with, total_from, unless}

-- the fault of the next range is that of all
same_fault : (why : Option TallyWhy) (line : ℕ) (sum : RangeTally) (more : Result RangeTally Fault) (f : Fault) → unless why line (Ok sum) ≡ Err f → unless why line more ≡ Err f
same_fault (Some why) line sum more f is = is
same_fault None line sum more f is = absurd cc

pub total_fails : (e : TallyFault) (total : RangeTally) (next : PlacedTally) (rest : List PlacedTally) → Fails e (next_sum total next) → Fails e (total_from total (next ∷ rest))
unfolding total_from
total_fails fault.NoMemory total next rest h = tt
total_fails (fault.Refused line why) total next rest h =
    same_fault (fault_after total next) next.line (sum_with total next.range) (total_from (sum_with total next.range) rest) (line, why) h

-- the sum with the next range, and then those after it
same_sum : (why : Option TallyWhy) (line : ℕ) (sum given : RangeTally) (more : RangeTally → Result RangeTally Fault) → unless why line (Ok sum) ≡ Ok given → unless why line (more sum) ≡ more given
same_sum (Some why) line sum given more is = absurd cc
same_sum None line sum given more is = ap more (same_Ok sum given is)
  where
    same_Ok : (a b : RangeTally) → ◌≡◌ {A = Result RangeTally Fault} (Ok a) (Ok b) → a ≡ b
    same_Ok a b h = cc

pub total_goes_on : (total sum : RangeTally) (next : PlacedTally) (rest : List PlacedTally) → next_sum total next ≡ Ok sum → total_from total (next ∷ rest) ≡ total_from sum rest
unfolding total_from
total_goes_on total sum next rest is = same_sum (fault_after total next) next.line (sum_with total next.range) sum (λ (t : RangeTally). total_from t rest) is

pub total_of_one : (total : RangeTally) → total_from total [] ≡ Ok total
unfolding total_from
total_of_one total = refl
