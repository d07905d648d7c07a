use Rattle.pct_names.proofs.Names.{take, ◌≡◌}
use Rattle.pct_judgement.specs.Judgements.{failed_count}
use Rattle.pct_judgement.proofs.judgement.failed_count.Given as goal

-- the rules so far that do not hold are counted
abbrev pub invariant-loop-answer : goal.invariant-loop-answer
invariant-loop-answer l = l.count ≡ failed_count (take l.answer-index l.answers)
