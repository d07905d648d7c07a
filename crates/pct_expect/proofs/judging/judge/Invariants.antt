use Rattle.pct_names.proofs.Names.{take}
use Rattle.pct_expect.specs.Answers.{AreAnswers}
use Rattle.pct_expect.specs.Events.{events_in}
use Rattle.pct_expect.proofs.judging.judge.Given as goal

-- the rules so far are answered
abbrev pub invariant-loop-rule : goal.invariant-loop-rule
invariant-loop-rule l = AreAnswers (events_in l.text l.lines) (take l.rule-index l.expects) l.verdicts.items
