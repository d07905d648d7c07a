-- What is counted of some runs and of more of them. No public clause cites this file.
use Rattle.std.specs.Prelude.{ℕ, ◌≤◌, All, List, map}
use Rattle.std.specs.List.{enumerate_from}
use Rattle.pct_tallies.specs.declared.count.Count.{Count}
use Rattle.pct_tallies.specs.Sums.{sum_of_counts}
use Rattle.pct_survey.specs.declared.counting.EndingCount.{EndingCount}
use Rattle.pct_survey.specs.declared.counting.RuleCount.{RuleCount}
use Rattle.pct_survey.specs.declared.counting.Survey.{Survey}
use Rattle.pct_survey.specs.declared.judging.JudgedRun.{JudgedRun}
use Rattle.pct_survey.specs.declared.property.Property.{Property}
use Rattle.pct_survey.specs.declared.property.Property.TheVariants.{Holds, Fails, Ends}
use Rattle.pct_survey.specs.declared.surveying.TheConstants.{MAX_SURVEYED}
use Rattle.pct_survey.specs.Surveys.{count_of, has}

-- the runs with a property, with more runs
abbrev pub count_with : Property → Count → List JudgedRun → Count
count_with property count runs = sum_of_counts count (count_of (has property) runs)

abbrev pub rule_with : List JudgedRun → ℕ × RuleCount → RuleCount
rule_with runs rule = record { line = rule.1.line; holds = count_with (Holds rule.0) rule.1.holds runs; fails = count_with (Fails rule.0) rule.1.fails runs }

abbrev pub ending_with : List JudgedRun → EndingCount → EndingCount
ending_with runs ending = record { verdict = ending.verdict; count = count_with (Ends ending.verdict) ending.count runs }

abbrev pub survey_with : Survey → List JudgedRun → Survey
survey_with survey runs = record { rules = map (rule_with runs) (enumerate_from 0 survey.rules); endings = map (ending_with runs) survey.endings }

-- the counts are of at most 100,000 runs
abbrev pub IsFewOfRule : RuleCount → Type 0
IsFewOfRule rule = (rule.holds.runs ≤ MAX_SURVEYED) × (rule.fails.runs ≤ MAX_SURVEYED)

abbrev pub IsFewOfEnding : EndingCount → Type 0
IsFewOfEnding ending = ending.count.runs ≤ MAX_SURVEYED

pub record AreFew (survey : Survey) : Type 0 where
  pub rules : All IsFewOfRule survey.rules
  pub endings : All IsFewOfEnding survey.endings
