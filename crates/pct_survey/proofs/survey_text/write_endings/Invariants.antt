use Rattle.pct_names.proofs.Names.{drop, Result}
use Rattle.std.specs.List.{flat_map}
use Rattle.pct_io.specs.declared.failed.Failed.{Failed}
use Rattle.pct_io.specs.Writes.{Writes}
use Rattle.pct_survey.specs.SurveyTexts.{shown_ending}
use Rattle.pct_survey.proofs.survey_text.write_endings.Given as goal

-- what completes the rest completes all
abbrev pub invariant-loop-ending : goal.invariant-loop-ending
invariant-loop-ending g l = (new : g.row.K.Denot) (r : Result (Unit {0}) Failed)
    → Writes g.K.Sink.written g.K.Sink.errors g.K.Sink.inners l.sink new (flat_map shown_ending (drop l.ending-index l.endings)) r
    → Writes g.K.Sink.written g.K.Sink.errors g.K.Sink.inners l.initial.sink new (flat_map shown_ending l.endings) r
