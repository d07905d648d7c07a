use Rattle.pct_names.proofs.Names.{entry_line, length, line_text, Result}
use Rattle.std.specs.List.{flat_map}
use Rattle.pct_io.specs.declared.failed.Failed.{Failed}
use Rattle.pct_io.specs.Writes.{Writes}
use Rattle.pct_schedule.proofs.writer.write_entries.Given as goal

-- what completes the rest completes all
abbrev pub invariant-loop-rest : goal.invariant-loop-rest
invariant-loop-rest g l = (new : g.row.K.Denot) (r : Result (Unit {0}) Failed)
    → Writes g.K.Sink.written g.K.Sink.errors g.K.Sink.inners l.sink new (flat_map (λ e. line_text (entry_line e)) l.rest) r
    → Writes g.K.Sink.written g.K.Sink.errors g.K.Sink.inners l.initial.sink new (flat_map (λ e. line_text (entry_line e)) l.entries) r

abbrev pub decreases-loop-rest : goal.decreases-loop-rest
decreases-loop-rest g l = length l.rest
