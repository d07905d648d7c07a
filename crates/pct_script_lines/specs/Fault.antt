-- What a `ParseFault` reports about the text.
use Rattle.std.specs.Prelude.{◌≡◌, ◌≢◌, ℕ, List, [], Option, Some, None, Result, Ok, Err}
use Rattle.pct_model.specs.LineParsing.{spelled_lines}
use Rattle.pct_model.specs.Spelling.{Fault, spelling}
use Rattle.pct_model.specs.Checks.{FirstFault}
use Rattle.pct_script_lines.specs.declared.fault.ParseFault.{ParseFault}
use Rattle.pct_script_lines.specs.declared.fault.ParseFault.TheVariants as fault

-- a refusal is the first fault of the text; `NoMemory` reports nothing
abbrev pub IsFaultOf : List ℕ → ParseFault → Type 0
IsFaultOf text fault.NoMemory = Unit {0}
IsFaultOf text (fault.Refused line why) = FirstFault text line why

-- a text whose fault, if it has one, is not found without memory: it spells something, and no line is misspelled
pub record NeedsMemory (text : List ℕ) : Type 0 where
  pub some : spelled_lines text ≢ []
  pub spelled : spelling (spelled_lines text) ≡ None

-- a refusal is the fault that the check finds; `NoMemory` reports nothing
abbrev pub IsFoundBy : Option Fault → ParseFault → Type 0
IsFoundBy check fault.NoMemory = Unit {0}
IsFoundBy check (fault.Refused line why) = check ≡ Some (line, why)

-- the result of a function that parses and checks: a value, seen by `view`, if the check finds no fault, otherwise its fault
abbrev pub ParsesTo : {X Y : Type 0} → (X → Y) → Result X ParseFault → Option Fault → Option Y → Type 0
ParsesTo view (Ok x) check read = (check ≡ None) × (read ≡ Some (view x))
ParsesTo view (Err e) check read = IsFoundBy check e

-- the result of a check
abbrev pub Passes : Result (Unit {0}) ParseFault → Option Fault → Type 0
Passes (Ok done) check = check ≡ None
Passes (Err e) check = IsFoundBy check e
