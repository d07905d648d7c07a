-- What `write_laws` keeps in its loop.
use Rattle.pct_names.proofs.Names.{drop, Result}
use Rattle.std.specs.List.{flat_map}
use Rattle.pct_io.specs.declared.failed.Failed.{Failed}
use Rattle.pct_io.specs.Writes.{Writes}
use Rattle.pct_report_judge.specs.FindingsTexts.{law_line}
use Rattle.pct_report_judge.proofs.findings_text.write_laws.Given as goal

-- what completes the rest completes all
abbrev pub invariant-loop-law : goal.invariant-loop-law
invariant-loop-law g l = (new : g.row.K.Denot) (r : Result (Unit {0}) Failed)
    → Writes g.K.Sink.written g.K.Sink.errors g.K.Sink.inners l.sink new (flat_map (law_line l.report.text.now l.report.lines.now l.found) (drop l.law-index l.laws)) r
    → Writes g.K.Sink.written g.K.Sink.errors g.K.Sink.inners l.initial.sink new (flat_map (law_line l.report.text.now l.report.lines.now l.found) l.laws) r
