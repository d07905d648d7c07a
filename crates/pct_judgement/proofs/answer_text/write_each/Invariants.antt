use Rattle.pct_names.proofs.Names.{drop, line_text, Result}
use Rattle.std.specs.List.{flat_map}
use Rattle.pct_io.specs.declared.failed.Failed.{Failed}
use Rattle.pct_io.specs.Writes.{Writes}
use Rattle.pct_judgement.specs.AnswerTexts.{answer_line}
use Rattle.pct_judgement.proofs.answer_text.write_each.Given as goal

-- what completes the rest completes all
abbrev pub invariant-loop-answer : goal.invariant-loop-answer
invariant-loop-answer g l = (new : g.row.K.Denot) (r : Result (Unit {0}) Failed)
    → Writes g.K.Sink.written g.K.Sink.errors g.K.Sink.inners l.sink new (flat_map (λ answer. line_text (answer_line answer)) (drop l.answer-index l.answers)) r
    → Writes g.K.Sink.written g.K.Sink.errors g.K.Sink.inners l.initial.sink new (flat_map (λ answer. line_text (answer_line answer)) l.answers) r
