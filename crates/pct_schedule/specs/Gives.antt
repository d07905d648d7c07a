-- How a result compares with what the text gives.
use Rattle.std.specs.Prelude.{◌≡◌, ℕ, Result, Ok, Err}
use Rattle.pct_model.specs.declared.refusal.ScheduleWhy.{ScheduleWhy}
use Rattle.pct_schedule.specs.declared.fault.ScheduleFault.{ScheduleFault}
use Rattle.pct_schedule.specs.declared.fault.ScheduleFault.TheVariants as fault

-- a refusal is the text's first fault and its line; out of memory has no condition here
abbrev pub Fails : {Y : Type 0} → ScheduleFault → Result Y (ℕ × ScheduleWhy) → Type 0
Fails fault.NoMemory read = Unit {0}
Fails (fault.Refused line why) read = read ≡ Err (line, why)

-- the result, seen by view, is what the text gives, unless memory ran out
abbrev pub Gives : {X Y : Type 0} → (X → Y) → Result X ScheduleFault → Result Y (ℕ × ScheduleWhy) → Type 0
Gives view (Ok x) read = read ≡ Ok (view x)
Gives view (Err e) read = Fails e read

-- a refusal is the first fault and its line, and out of memory is excluded
abbrev pub Refuses : {Y : Type 0} → ScheduleFault → Result Y (ℕ × ScheduleWhy) → Type 0
Refuses fault.NoMemory read = ⊥
Refuses (fault.Refused line why) read = read ≡ Err (line, why)

-- the result, seen by view, is what the text gives, and memory does not run out
abbrev pub GivesAlways : {X Y : Type 0} → (X → Y) → Result X ScheduleFault → Result Y (ℕ × ScheduleWhy) → Type 0
GivesAlways view (Ok x) read = read ≡ Ok (view x)
GivesAlways view (Err e) read = Refuses e read
