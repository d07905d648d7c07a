-- Reading a text of expectations. A fault is the number of the line that is refused, and the reason.
use Rattle.std.specs.Prelude.{ℕ, if◌then◌else◌, List, Option, Some, None, Result, Ok, Err, filter_map, find, is_none, option_map, slice_get}
use Rattle.std.specs.Option.{option_or}
use Rattle.pct_model.specs.LineParsing.{Numbered, is_empty, spelled_lines}
use Rattle.pct_expect.specs.declared.rule.Rule.{Rule}
use Rattle.pct_expect.specs.declared.fault.ExpectWhy.{ExpectWhy}
use Rattle.pct_expect.specs.declared.fault.ExpectWhy.TheVariants as why
use Rattle.pct_expect.specs.Rules.{rule_in}

abbrev pub Fault : Type 0
Fault = ℕ × ExpectWhy

-- the first line that is no rule
unfoldable pub bad_line : List (Numbered (List ℕ)) → Option Fault
bad_line lines = option_map (λ l. (l.0, why.BadLine)) (find (λ l. is_none (rule_in l.0 l.1)) lines)

-- the 65th rule
unfoldable pub too_many : List (Numbered (List ℕ)) → Option Fault
too_many lines = option_map (λ l. (l.0, why.TooMany)) (slice_get lines 64)

-- line 1, where there is no rule
unfoldable pub no_rule : List (Numbered (List ℕ)) → Option Fault
no_rule lines = if is_empty lines then Some (1, why.NoRule) else None

-- the first fault, in the order of the checks
unfoldable pub fault_in : List (Numbered (List ℕ)) → Option Fault
fault_in lines = option_or (bad_line lines) (option_or (too_many lines) (no_rule lines))

-- the rules of the lines
unfoldable pub rules_in : List (Numbered (List ℕ)) → List Rule
rules_in lines = filter_map (λ l. rule_in l.0 l.1) lines

-- the rules, unless there is a fault
abbrev pub unless : Option Fault → List Rule → Result (List Rule) Fault
unless None rules = Ok rules
unless (Some fault) rules = Err fault

-- the rules in a text, one for each line that is neither blank nor a comment, or its first fault
unfoldable pub expects_in : List ℕ → Result (List Rule) Fault
expects_in text = unless (fault_in (spelled_lines text)) (rules_in (spelled_lines text))
