-- How a result compares with what the text gives.
use Rattle.std.specs.Prelude.{◌≡◌, List, Result, Ok, Err}
use Rattle.pct_expect.specs.declared.rule.Rule.{Rule}
use Rattle.pct_expect.specs.declared.fault.ExpectFault.{ExpectFault}
use Rattle.pct_expect.specs.declared.fault.ExpectFault.TheVariants as fault
use Rattle.pct_expect.specs.Reading.{Fault}

-- a refusal is the text's first fault; out of memory has no condition here
abbrev pub Fails : ExpectFault → Result (List Rule) Fault → Type 0
Fails fault.NoMemory read = Unit {0}
Fails (fault.Refused line why) read = read ≡ Err (line, why)

-- the result is what the text gives, unless memory ran out
abbrev pub Gives : Result (List Rule) ExpectFault → Result (List Rule) Fault → Type 0
Gives (Ok rules) read = read ≡ Ok rules
Gives (Err e) read = Fails e read
