use Rattle.pct_names.proofs.Names.{take}
use Rattle.pct_survey.specs.JudgedRuns.{AreHeld}
use Rattle.pct_survey.proofs.EventLines.{lines}
use Rattle.pct_survey.proofs.holding.rules_held.Given as goal

-- the rules so far are judged
abbrev pub invariant-loop-rule : goal.invariant-loop-rule
invariant-loop-rule l = AreHeld (lines l.script l.events) (take l.rule-index l.rules) l.held.items
