use Rattle.pct_names.proofs.Names.{ap, Some, ◌∙◌}
use Rattle.pct_inspection.proofs.Inputs.{of_script}
use Rattle.pct_inspection.proofs.answering.answer_input.Goals as goal

pub returns-in-Sum-clause-answer : goal.returns-in-Sum-clause-answer
returns-in-Sum-clause-answer g c = λ words asks. c.sum_tallies.ensures.answer words (asks ∙ ap Some c.in-Sum.is)

pub returns-in-Judge-clause-answer : goal.returns-in-Judge-clause-answer
returns-in-Judge-clause-answer g c = λ words asks. c.judge_input.ensures.answer words (asks ∙ ap Some c.in-Judge.is)

pub answer_script-requires-clause-script : goal.answer_script-requires-clause-script
answer_script-requires-clause-script g c = λ _ _. of_script c.args.asked c.in_default.not-Sum c.in_default.not-Judge
