use Rattle.pct_names.proofs.Names.{drop, entry_line, line_text, Result}
use Rattle.std.specs.List.{flat_map}
use Rattle.pct_io.specs.declared.failed.Failed.{Failed}
use Rattle.pct_io.specs.Writes.{Writes}
use Rattle.pct_schedule.proofs.writer.write_each.Given as goal

-- what completes the rest completes all
abbrev pub invariant-loop-entry : goal.invariant-loop-entry
invariant-loop-entry g l = (new : g.row.K.Denot) (r : Result (Unit {0}) Failed)
    → Writes g.K.Sink.written g.K.Sink.errors g.K.Sink.inners l.sink new (flat_map (λ e. line_text (entry_line e)) (drop l.entry-index l.entries)) r
    → Writes g.K.Sink.written g.K.Sink.errors g.K.Sink.inners l.initial.sink new (flat_map (λ e. line_text (entry_line e)) l.entries) r
