use Rattle.pct_names.proofs.Names.{Bool, event_line, List, map, Script, subst, sym}
use Rattle.pct_survey.specs.JudgedRuns.{AreHeld, IsJudgedRun}
use Rattle.pct_survey.proofs.JudgedEngines.{judged}
use Rattle.pct_survey.proofs.judging.judged_run.Goals as goal

pub returns-clause-run : goal.returns-clause-run
returns-clause-run c =
    let before = c.args.engine.now in
    let rules = c.args.rules.now in
    let events = c.events.result.now in
    let ran = c.verdict.ensures.runs in
    let held = subst (λ (script : Script). AreHeld (map (event_line script) events) rules c.in_ok-held.held.items) c.script.ensures c.in_ok-held.ensures in
    let is = judged before.script before.config rules c.args.seed c.run_again.new.engine ran.0 c.verdict.result events c.in_ok-held.held.items c.run_again.ensures.run ran.1
    (c.verdict.ensures.value ran.0 ran.1) (c.events.ensures.value ran.0 ran.1) held in
    subst (λ (answers : List Bool). IsJudgedRun before.script before.config rules c.args.seed (record { seed = c.args.seed; verdict = c.verdict.result; held = answers })) (sym c.of.ensures) is
