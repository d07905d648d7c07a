-- The law on the answers to rules.
use Rattle.std.specs.Prelude.{◌≡◌, ℕ, List}
use Rattle.pct_expect.specs.declared.rule.Rule.{Rule}
use Rattle.pct_expect.specs.declared.verdict.Judged.{Judged}
use Rattle.pct_expect.specs.Answers.{AreAnswers}

-- rules have at most one list of answers for a list of events
abbrev pub AnswersAreOne : Type 0
AnswersAreOne = (events : List (List (List ℕ))) (rules : List Rule) (xs ys : List Judged) → AreAnswers events rules xs → AreAnswers events rules ys → xs ≡ ys
