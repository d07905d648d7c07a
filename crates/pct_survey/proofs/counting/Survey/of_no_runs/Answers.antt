use Rattle.pct_names.proofs.Names.{◌∙◌}
use Rattle.pct_survey.specs.Surveys.{all_endings}
use Rattle.pct_survey.proofs.MoreRuns.{endings_none, rules_uncounted}
use Rattle.pct_survey.proofs.counting.Survey.of_no_runs.Goals as goal

pub returns : goal.returns
returns c = λ i. record {
  rules = (c.of.ensures ∙ c.in_ok-uncounted_rules.ensures ∙ rules_uncounted 0 c.args.rules.now) i;
  endings = (c.in_ok-uncounted_endings.ensures ∙ endings_none all_endings) i;
}
