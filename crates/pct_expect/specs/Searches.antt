-- What the search for the event at which a rule fails has found. No public clause cites this file.
use Rattle.std.specs.Prelude.{ℕ, List, Option, Some, None}
use Rattle.pct_expect.specs.declared.rule.Rule.{Rule}
use Rattle.pct_expect.specs.declared.rule.RuleKind.{RuleKind}
use Rattle.pct_expect.specs.Answers.{HoldsAs, MissAs}

-- the number that is reported of a rule of a kind, or none if the rule holds
abbrev pub IsFailure : RuleKind → Rule → List (List (List ℕ)) → Option ℕ → Type 0
IsFailure kind rule events None = HoldsAs kind rule events
IsFailure kind rule events (Some n) = (HoldsAs kind rule events → ⊥) × MissAs kind rule events n
