-- The outcomes of `survey`.
use Rattle.std.specs.Prelude.{◌≡◌, ℕ, ◌≤◌, true, if◌then◌else◌, List, [], ◌∷◌, length, Some, Ok, Err, codes, decimal}
use Rattle.pct_expect.specs.declared.fault.ExpectWhy.{ExpectWhy}
use Rattle.pct_expect.specs.declared.rule.Rule.{Rule}
use Rattle.pct_expect.specs.Faults.{why_text}
use Rattle.pct_expect.specs.Reading.{expects_in}
use Rattle.pct_model.specs.declared.keyword.Keyword.TheVariants as keyword
use Rattle.pct_model.specs.declared.limits.TheConstants.{MAX_INPUT}
use Rattle.pct_model.specs.declared.schedule.Config.{Config}
use Rattle.pct_model.specs.declared.script.Script.{Script}
use Rattle.pct_model.specs.Formats.{config_for}
use Rattle.pct_model.specs.Keywords.{keyword_text, line_text}
use Rattle.pct_model.specs.Run.{is_config}
use Rattle.pct_model.specs.Spells.{Spells}
use Rattle.pct_survey.specs.declared.counting.Survey.{Survey}
use Rattle.pct_survey.specs.declared.surveying.TheConstants.{MAX_SURVEYED}
use Rattle.pct_survey.specs.Surveys.{IsSurveyOf, has_failure}
use Rattle.pct_survey.specs.SurveyTexts.{survey_text}
use Rattle.pct_inspection.specs.declared.words.Inspection.TheVariants as inspection
use Rattle.pct_inspection.specs.Inputs.{expectation_in, script_in}
use Rattle.pct_inspection.specs.Words.{inspection_asked}

-- what is asked is within the limits
abbrev pub IsSurveyed : ℕ → Config → Type 0
IsSurveyed seeds config = (seeds ≤ MAX_SURVEYED) × (is_config config ≡ true)

-- `refused expect LINE WHY`
unfoldable pub refused_expect : ℕ → ExpectWhy → List (List ℕ)
refused_expect line why = keyword_text keyword.Refused ∷ codes "expect" ∷ decimal line ∷ why_text why ∷ []

-- the exit code of a survey: whether each rule holds of each run
abbrev pub code_of_survey : Survey → ℕ
code_of_survey survey = if has_failure survey then 14 else 0

-- `survey` of an input whose script has no fault, and whose expectation has one: the first one is reported
pub record RefusesExpectation (words : List (List ℕ)) (input : List ℕ) (code : ℕ) (text : List ℕ) : Type 0 where
  pub seeds : ℕ
  pub config : Config
  pub asked : inspection_asked words ≡ Some (inspection.Survey seeds config)
  pub fits : length input ≤ MAX_INPUT
  pub script : Script
  pub spelled : Spells (script_in input) script
  pub line : ℕ
  pub why : ExpectWhy
  pub first : expects_in (expectation_in input) ≡ Err (line, why)
  pub code_is : code ≡ 15
  pub text_is : text ≡ line_text (refused_expect line why)

-- `survey`: what is counted of the rules over the runs of the script under the seeds from 1 on
pub record Surveys (words : List (List ℕ)) (input : List ℕ) (code : ℕ) (text : List ℕ) : Type 0 where
  pub seeds : ℕ
  pub config : Config
  pub asked : inspection_asked words ≡ Some (inspection.Survey seeds config)
  pub fits : length input ≤ MAX_INPUT
  pub script : Script
  pub spelled : Spells (script_in input) script
  pub rules : List Rule
  pub read : expects_in (expectation_in input) ≡ Ok rules
  pub survey : Survey
  pub counted : IsSurveyOf script (config_for script config) rules seeds survey
  pub code_is : code ≡ code_of_survey survey
  pub text_is : text ≡ survey_text survey
