-- The sum of the tallies of ranges.
use Rattle.std.specs.Prelude.{◌≡◌, ℕ, ◌+◌, Bool, not, if◌then◌else◌, List, [], ◌∷◌, Option, Some, None, Result, Ok, Err, bytes_eq, nat_eq, nat_le, nat_lt, IsPermutation, IsSortedByKey}
use Rattle.std.specs.List.Sorted.{IsStableByKey}
use Rattle.std.specs.Ordering.{nat_cmp}
use Rattle.pct_tallies.specs.declared.fault.TallyWhy.{TallyWhy}
use Rattle.pct_tallies.specs.declared.fault.TallyWhy.TheVariants as why
use Rattle.pct_tallies.specs.declared.range_tally.Limits.{Limits}
use Rattle.pct_tallies.specs.declared.range_tally.PlacedTally.{PlacedTally}
use Rattle.pct_tallies.specs.declared.range_tally.RangeTally.{RangeTally}
use Rattle.pct_tallies.specs.declared.range_tally.Subject.{Subject}
use Rattle.pct_tallies.specs.contracts.range_tally.LimitsPartialEq.TheImpl as limits_eq
use Rattle.pct_tallies.specs.Faults.{Fault}
use Rattle.pct_tallies.specs.Sums.{fits, sum_of}

-- ---- what is run

-- why a tally is refused that is of another script, or of other limits
abbrev pub subject_fault : Subject → Subject → Option TallyWhy
subject_fault subject other =
    if not (bytes_eq other.digest subject.digest) then Some why.OtherScript
    else if not (limits_eq.ghosts.eq other.limits subject.limits) then Some why.OtherLimits
    else None

-- the fault of the tally that begins at a line, if there is one, or else that of others
abbrev pub fault_or : ℕ → Option TallyWhy → Option Fault → Option Fault
fault_or line (Some fault) others = Some (line, fault)
fault_or line None others = others

-- that of the first of these tallies that has one
unfoldable pub first_subject_fault : Subject → List PlacedTally → Option Fault
first_subject_fault subject [] = None
first_subject_fault subject (placed ∷ tallies) = fault_or placed.line (subject_fault subject placed.range.subject) (first_subject_fault subject tallies)

-- ---- the sum in the order of seeds

-- the fault of a range after a sum of ranges: it has a seed of theirs, or not the next one, or a number of the sum has more than 64 bits
abbrev pub fault_after : RangeTally → PlacedTally → Option TallyWhy
fault_after total next =
    if nat_le next.range.seeds.first total.seeds.last then Some why.Overlap
    else if nat_lt (total.seeds.last + 1) next.range.seeds.first then Some why.Gap
    else if not (fits total.tally next.range.tally) then Some why.TooLarge
    else None

-- the tally of the seeds of a sum of ranges and of the range after it
abbrev pub sum_with : RangeTally → RangeTally → RangeTally
sum_with total next = record {
  seeds = record { first = total.seeds.first; last = next.seeds.last };
  subject = total.subject;
  tally = sum_of total.tally next.tally;
}

-- the fault of the tally that begins at a line, or else the sum with it and those after it
abbrev pub unless : Option TallyWhy → ℕ → Result RangeTally Fault → Result RangeTally Fault
unless (Some fault) line sum = Err (line, fault)
unless None line sum = sum

-- the sum of a sum of ranges and the range after it, or the fault of that
abbrev pub next_sum : RangeTally → PlacedTally → Result RangeTally Fault
next_sum total next = unless (fault_after total next) next.line (Ok (sum_with total next.range))

-- the sum of a range and those after it, in order
unfoldable pub total_from : RangeTally → List PlacedTally → Result RangeTally Fault
total_from total [] = Ok total
total_from total (next ∷ rest) = unless (fault_after total next) next.line (total_from (sum_with total next.range) rest)

-- of tallies in the order of their first seeds
abbrev pub total_in_order : List PlacedTally → Result RangeTally Fault
total_in_order [] = Err (1, why.NoTally)
total_in_order (first ∷ rest) = total_from first.range rest

-- ---- the sum of tallies in any order

-- the same tallies in the order of their first seeds; those with the same first seed keep their order
pub record AreOrdered (tallies ordered : List PlacedTally) : Type 0 where
  pub same : IsPermutation tallies ordered
  pub sorted : IsSortedByKey (λ placed. placed.range.seeds.first) nat_cmp ordered
  pub stable : IsStableByKey (λ placed. placed.range.seeds.first) nat_cmp tallies ordered

-- the fault of tallies by what is run
abbrev pub fault_of_subjects : List PlacedTally → Option Fault
fault_of_subjects [] = None
fault_of_subjects (first ∷ rest) = first_subject_fault first.range.subject rest

-- the sum of tallies, or their fault
pub data IsTotalOf (tallies : List PlacedTally) (total : Result RangeTally Fault) : Type 0 where
  Differ : (fault : Fault) → fault_of_subjects tallies ≡ Some fault → total ≡ Err fault → IsTotalOf tallies total
  Added : fault_of_subjects tallies ≡ None → (ordered : List PlacedTally) → AreOrdered tallies ordered → total_in_order ordered ≡ total → IsTotalOf tallies total

-- ---- laws

-- tallies have one sum, or one fault
abbrev pub TotalsAreOne : Type 0
TotalsAreOne = (tallies : List PlacedTally) (one other : Result RangeTally Fault) → IsTotalOf tallies one → IsTotalOf tallies other → one ≡ other
