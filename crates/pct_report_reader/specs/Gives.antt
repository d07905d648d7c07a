-- How a result compares with what the text gives.
use Rattle.std.specs.Prelude.{◌≡◌, Result, Ok, Err}
use Rattle.pct_report_reader.specs.declared.fault.ReportFault.{ReportFault}
use Rattle.pct_report_reader.specs.declared.fault.ReportFault.TheVariants as fault
use Rattle.pct_report_reader.specs.Reading.{Read}

-- a refusal is the text's first fault and its line; out of memory has no condition here
abbrev pub Fails : {Y : Type 0} → ReportFault → Read Y → Type 0
Fails fault.NoMemory read = Unit {0}
Fails (fault.Refused line why) read = read ≡ Err (line, why)

-- the result, seen by view, is what the text gives, unless memory ran out
abbrev pub Gives : {X Y : Type 0} → (X → Y) → Result X ReportFault → Read Y → Type 0
Gives view (Ok x) read = read ≡ Ok (view x)
Gives view (Err e) read = Fails e read

-- a refusal is the first fault and its line, and out of memory is excluded
abbrev pub Refuses : {Y : Type 0} → ReportFault → Read Y → Type 0
Refuses fault.NoMemory read = ⊥
Refuses (fault.Refused line why) read = read ≡ Err (line, why)

-- the result, seen by view, is what the text gives, and memory does not run out
abbrev pub GivesAlways : {X Y : Type 0} → (X → Y) → Result X ReportFault → Read Y → Type 0
GivesAlways view (Ok x) read = read ≡ Ok (view x)
GivesAlways view (Err e) read = Refuses e read
