use Rattle.pct_names.proofs.Names.{◌+◌, ◌∙◌, ap, arith, List}
use Rattle.pct_survey.specs.declared.judging.JudgedRun.{JudgedRun}
use Rattle.pct_survey.specs.MoreRuns.{survey_with}
use Rattle.pct_survey.proofs.MoreRuns.{more_seeds, run_count, survey_is_few}
use Rattle.pct_survey.proofs.surveying.survey.Goals as goal

pub with-requires-clause-counts : goal.with-requires-clause-counts
with-requires-clause-counts g c =
    let subject = c.args.subject.now in
    survey_is_few subject.script.now subject.config subject.rules.now c.loop-done.done c.loop-done.survey (omega (arith, c.loop-done.invariant.within, c.requires.few)) c.loop-done.invariant.counted

pub with-requires-clause-runs : goal.with-requires-clause-runs
with-requires-clause-runs g c =
    let subject = c.args.subject.now in
    let as_many = run_count subject.script.now subject.config subject.rules.now (c.loop-done.done + 1) c.min-more.result c.in_ok-runs.runs.items c.in_ok-runs.ensures in
    omega (arith, c.as_slice-in-loop-done.ensures.len, as_many, c.min-more.ensures)

pub loop-done-preserved : goal.loop-done-preserved
loop-done-preserved g c =
    let subject = c.args.subject.now in
    let runs = c.in_ok-runs.runs.items in
    record {
      counted = more_seeds subject.script.now subject.config subject.rules.now c.loop-done.done c.min-more.result c.loop-done.survey c.in_ok-survey-2.survey runs c.loop-done.invariant.counted c.in_ok-runs.ensures
          (c.in_ok-survey-2.ensures ∙ ap (λ (xs : List JudgedRun). survey_with c.loop-done.survey xs) c.as_slice-in-loop-done.ensures.value);
      within = omega (arith, c.min-more.ensures, c.loop-done.invariant.within);
    }
