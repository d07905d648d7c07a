-- What is counted of the runs of a script under the seeds from 1 on.
use Rattle.std.specs.Prelude.{◌≡◌, ℕ, Bool, false, not, List, ◌∷◌, count_by, find, map, nat_eq, option_map, slice_get, unwrap_or}
use Rattle.std.specs.List.{AllZip, enumerate_from, list_any, range_with_len}
use Rattle.pct_expect.specs.declared.rule.Rule.{Rule}
use Rattle.pct_model.specs.declared.schedule.Config.{Config}
use Rattle.pct_model.specs.declared.script.Script.{Script}
use Rattle.pct_model.specs.declared.stop.Verdict.{Verdict}
use Rattle.pct_model.specs.declared.stop.Verdict.TheVariants as verdict
use Rattle.pct_model.specs.contracts.stop.VerdictPartialEq.TheImpl as verdict_eq
use Rattle.pct_tallies.specs.declared.count.Count.{Count}
use Rattle.pct_tallies.specs.Tallies.{all_stops}
use Rattle.pct_survey.specs.declared.counting.EndingCount.{EndingCount}
use Rattle.pct_survey.specs.declared.counting.RuleCount.{RuleCount}
use Rattle.pct_survey.specs.declared.counting.Survey.{Survey}
use Rattle.pct_survey.specs.declared.judging.JudgedRun.{JudgedRun}
use Rattle.pct_survey.specs.declared.property.Property.{Property}
use Rattle.pct_survey.specs.declared.property.Property.TheVariants.{Holds, Fails, Ends}
use Rattle.pct_survey.specs.JudgedRuns.{IsJudgedRun}

-- ---- properties

-- the rule with an index, counted from 0, holds of the run
abbrev pub is_held : ℕ → JudgedRun → Bool
is_held index run = unwrap_or (slice_get run.held index) false

-- the run has the property; verdicts are compared by the equality that `Verdict` derives
unfoldable pub has : Property → JudgedRun → Bool
has (Holds index) run = is_held index run
has (Fails index) run = not (is_held index run)
has (Ends v) run = verdict_eq.ghosts.eq run.verdict v

-- ---- counts

-- the seed of the first of the runs that pass a test, 0 if none does
abbrev pub first_of : (JudgedRun → Bool) → List JudgedRun → ℕ
first_of passes runs = unwrap_or (option_map (λ r. r.seed) (find passes runs)) 0

-- how many of the runs pass a test, and the seed of the first of them
abbrev pub count_of : (JudgedRun → Bool) → List JudgedRun → Count
count_of passes runs = record { runs = count_by passes runs; first = first_of passes runs }

-- what is counted of a rule with an index
abbrev pub rule_count : List JudgedRun → ℕ × Rule → RuleCount
rule_count runs rule = record { line = rule.1.line; holds = count_of (has (Holds rule.0)) runs; fails = count_of (has (Fails rule.0)) runs }

-- the verdicts that a run can end with, in the order of a tally
unfoldable pub all_endings : List Verdict
all_endings = verdict.Complete ∷ verdict.Deadlock ∷ verdict.Budget ∷ map verdict.Undefined all_stops

-- the runs that end with a verdict
abbrev pub ending_count : List JudgedRun → Verdict → EndingCount
ending_count runs v = record { verdict = v; count = count_of (has (Ends v)) runs }

-- what is counted of runs
abbrev pub survey_of : List Rule → List JudgedRun → Survey
survey_of rules runs = record { rules = map (rule_count runs) (enumerate_from 0 rules); endings = map (ending_count runs) all_endings }

-- a rule does not hold of one of the runs
abbrev pub has_failure : Survey → Bool
has_failure survey = list_any (λ rule. not (nat_eq rule.fails.runs 0)) survey.rules

-- ---- the seeds from 1 on

-- what is counted of the runs of a script under the seeds 1 to a number
pub record IsSurveyOf (script : Script) (config : Config) (rules : List Rule) (count : ℕ) (survey : Survey) : Type 0 where
  pub runs : List JudgedRun
  pub of_seeds : AllZip (IsJudgedRun script config rules) (range_with_len 1 count) runs
  pub counted : survey ≡ survey_of rules runs
