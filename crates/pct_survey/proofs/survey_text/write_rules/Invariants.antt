use Rattle.pct_names.proofs.Names.{drop, Result}
use Rattle.std.specs.List.{flat_map}
use Rattle.pct_io.specs.declared.failed.Failed.{Failed}
use Rattle.pct_io.specs.Writes.{Writes}
use Rattle.pct_survey.specs.SurveyTexts.{rule_text}
use Rattle.pct_survey.proofs.survey_text.write_rules.Given as goal

-- what completes the rest completes all
abbrev pub invariant-loop-rule : goal.invariant-loop-rule
invariant-loop-rule g l = (new : g.row.K.Denot) (r : Result (Unit {0}) Failed)
    → Writes g.K.Sink.written g.K.Sink.errors g.K.Sink.inners l.sink new (flat_map rule_text (drop l.rule-index l.rules)) r
    → Writes g.K.Sink.written g.K.Sink.errors g.K.Sink.inners l.initial.sink new (flat_map rule_text l.rules) r
