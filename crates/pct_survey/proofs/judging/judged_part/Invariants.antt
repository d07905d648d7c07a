use Rattle.pct_names.proofs.Names.{AllZip, take, ◌≡◌}
use Rattle.pct_survey.specs.JudgedRuns.{IsJudgedRun}
use Rattle.pct_survey.proofs.judging.judged_part.Given as goal

-- the runs so far are judged
abbrev pub invariant-loop-seed : goal.invariant-loop-seed
invariant-loop-seed l = record {
  script : l.engine.script ≡ l.subject.script.now;
  config : l.engine.config ≡ l.subject.config;
  runs : AllZip (IsJudgedRun l.subject.script.now l.subject.config l.subject.rules.now) (take l.seed-index l.seeds) l.runs.items;
}
