use Rattle.pct_names.proofs.Names.{◌-◌, ◌≤◌}
use Rattle.pct_survey.specs.Surveys.{IsSurveyOf}
use Rattle.pct_survey.proofs.surveying.survey.Given as goal

abbrev pub invariant-loop-done : goal.invariant-loop-done
invariant-loop-done g l = record {
  counted : IsSurveyOf l.subject.script.now l.subject.config l.subject.rules.now l.done l.survey;
  within : l.done ≤ l.count;
}

abbrev pub decreases-loop-done : goal.decreases-loop-done
decreases-loop-done g l = l.count - l.done
