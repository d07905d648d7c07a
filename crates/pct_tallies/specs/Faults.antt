-- Why tallies are refused, and how a result compares with what a text gives.
use Rattle.std.specs.Prelude.{◌≡◌, ℕ, List, codes, Result, Ok, Err}
use Rattle.pct_tallies.specs.declared.fault.TallyFault.{TallyFault}
use Rattle.pct_tallies.specs.declared.fault.TallyFault.TheVariants as fault
use Rattle.pct_tallies.specs.declared.fault.TallyWhy.{TallyWhy}
use Rattle.pct_tallies.specs.declared.fault.TallyWhy.TheVariants as why

-- the word for each reason
unfoldable pub why_text : TallyWhy → List ℕ
why_text why.BadLine = codes "bad_line"
why_text why.NoTally = codes "no_tally"
why_text why.OtherScript = codes "other_script"
why_text why.OtherLimits = codes "other_limits"
why_text why.Overlap = codes "overlap"
why_text why.Gap = codes "gap"
why_text why.TooLarge = codes "too_large"

-- a fault: the line, and the reason
abbrev pub Fault : Type 0
Fault = ℕ × TallyWhy

-- a refusal is the fault of the text; out of memory has no condition here
abbrev pub Fails : {Y : Type 0} → TallyFault → Result Y Fault → Type 0
Fails fault.NoMemory read = Unit {0}
Fails (fault.Refused line why) read = read ≡ Err (line, why)

-- the result, seen by view, is what the text gives, unless memory ran out
abbrev pub Gives : {X Y : Type 0} → (X → Y) → Result X TallyFault → Result Y Fault → Type 0
Gives view (Ok x) read = read ≡ Ok (view x)
Gives view (Err e) read = Fails e read

-- the result is one for which a fact holds, unless memory ran out
abbrev pub GivesTotal : {X : Type 0} → (Result X Fault → Type 0) → Result X TallyFault → Type 0
GivesTotal holds (Ok x) = holds (Ok x)
GivesTotal holds (Err fault.NoMemory) = Unit {0}
GivesTotal holds (Err (fault.Refused line why)) = holds (Err (line, why))

-- a refusal is the fault, and out of memory is excluded
abbrev pub Refuses : {Y : Type 0} → TallyFault → Result Y Fault → Type 0
Refuses fault.NoMemory read = ⊥
Refuses (fault.Refused line why) read = read ≡ Err (line, why)

-- the result, seen by view, is what the text gives, and memory does not run out
abbrev pub GivesAlways : {X Y : Type 0} → (X → Y) → Result X TallyFault → Result Y Fault → Type 0
GivesAlways view (Ok x) read = read ≡ Ok (view x)
GivesAlways view (Err e) read = Refuses e read
