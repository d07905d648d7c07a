-- A script has one survey for each configuration, list of rules and number of seeds.
use Rattle.std.specs.Prelude.{◌≡◌, ℕ, List}
use Rattle.pct_expect.specs.declared.rule.Rule.{Rule}
use Rattle.pct_model.specs.declared.schedule.Config.{Config}
use Rattle.pct_model.specs.declared.script.Script.{Script}
use Rattle.pct_survey.specs.declared.counting.Survey.{Survey}
use Rattle.pct_survey.specs.Surveys.{IsSurveyOf}

abbrev pub SurveysAreOne : Type 0
SurveysAreOne =
    (script : Script) (config : Config) (rules : List Rule) (count : ℕ) (one other : Survey)
    → IsSurveyOf script config rules count one → IsSurveyOf script config rules count other → one ≡ other
