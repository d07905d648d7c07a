-- The tallies in an input have one sum, or one fault.
use Rattle.pct_names.proofs.Names.{◌<◌, ◌∙◌, ◌∷◌, ◌≡◌, [], ap, arith, Err, length, List, Ok, refl, Result, subst, sym, ℕ}
use Rattle.pct_tallies.specs.declared.fault.TallyFault.{TallyFault}
use Rattle.pct_tallies.specs.declared.fault.TallyFault.TheVariants as fault
use Rattle.pct_tallies.specs.declared.range_tally.PlacedTally.{PlacedTally}
use Rattle.pct_tallies.specs.declared.range_tally.RangeTally.{RangeTally}
use Rattle.pct_tallies.specs.Faults.{Fails, Fault, GivesTotal}
use Rattle.pct_tallies.specs.Readings.{tallies_from, tallies_in}
use Rattle.pct_tallies.specs.Totals.{IsTotalOf}
use Rattle.pct_tallies.proofs.OneTotal.{totals_are_one}
use Rattle.pct_inspection.specs.TallyOutcomes.{IsTotalIn, NotRead, Totalled}

-- a result is a value or a fault
pub ok_or_err : {X Y : Type 0} (r : Result X Y) (x : X) (y : Y) → r ≡ Ok x → r ≡ Err y → ⊥
ok_or_err r x y good bad = absurd cc

-- and one of each
given_by : {X Y : Type 0} → Result X Y → X → X
given_by (Ok x) other = x
given_by (Err y) other = other

same_ok : {X Y : Type 0} (r : Result X Y) (one other : X) → r ≡ Ok one → r ≡ Ok other → one ≡ other
unfolding given_by
same_ok {X = X} {Y = Y} r one other a b = ap (λ (s : Result X Y). given_by s one) (sym a ∙ b)

fault_by : {X Y : Type 0} → Result X Y → Y → Y
fault_by (Ok x) other = other
fault_by (Err y) other = y

pub same_err : {X Y : Type 0} (r : Result X Y) (one other : Y) → r ≡ Err one → r ≡ Err other → one ≡ other
unfolding fault_by
same_err {X = X} {Y = Y} r one other a b = ap (λ (s : Result X Y). fault_by s one) (sym a ∙ b)

pub totals_in_are_one : (text : List ℕ) (one other : Result RangeTally Fault) → IsTotalIn text one → IsTotalIn text other → one ≡ other
totals_in_are_one text one other (NotRead f read is) (NotRead g also same) = is ∙ ap Err (same_err (tallies_in text) f g read also) ∙ sym same
totals_in_are_one text one other (NotRead f read is) (Totalled tallies also total) = absurd (ok_or_err (tallies_in text) tallies f also read)
totals_in_are_one text one other (Totalled tallies read total) (NotRead g also same) = absurd (ok_or_err (tallies_in text) tallies g read also)
totals_in_are_one text one other (Totalled tallies read total) (Totalled others also sum) =
    let same : tallies ≡ others = same_ok (tallies_in text) tallies others read also in
    totals_are_one others one other (subst (λ (ts : List PlacedTally). IsTotalOf ts one) same total) sum

-- ---- what the code gives of a text

-- a text that is not read has no sum
pub none_read : (text : List ℕ) (f : TallyFault) → Fails f (tallies_in text) → GivesTotal {X = RangeTally} (IsTotalIn text) (Err f)
none_read text (fault.Refused line why) read = NotRead (line, why) read refl
none_read text fault.NoMemory read = tt

-- the sum of the tallies that are read is that in the text
pub total_read : (text : List ℕ) (tallies : List PlacedTally) (r : Result RangeTally TallyFault) → tallies_in text ≡ Ok tallies → GivesTotal (IsTotalOf tallies) r → GivesTotal (IsTotalIn text) r
total_read text tallies (Ok total) read summed = Totalled tallies read summed
total_read text tallies (Err (fault.Refused line why)) read refused = Totalled tallies read refused
total_read text tallies (Err fault.NoMemory) read _ = tt

-- a text that is read is not empty
pub some_text : (text : List ℕ) (tallies : List PlacedTally) → tallies_in text ≡ Ok tallies → 0 < length text
unfolding tallies_in tallies_from
some_text [] tallies read = absurd cc
some_text (b ∷ text) tallies read = omega arith
