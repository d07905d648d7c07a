use Rattle.pct_survey.proofs.OneSurvey.{surveys_are_one}
use Rattle.pct_survey.proofs.law.surveys_are_one.Goals as goal

pub returns : goal.returns
returns c = surveys_are_one
