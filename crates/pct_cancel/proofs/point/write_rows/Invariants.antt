use Rattle.pct_names.proofs.Names.{drop, line_text, Result, row_words}
use Rattle.std.specs.List.{flat_map}
use Rattle.pct_io.specs.declared.failed.Failed.{Failed}
use Rattle.pct_io.specs.Writes.{Writes}
use Rattle.pct_cancel.specs.Rows.{as_row}
use Rattle.pct_cancel.proofs.point.write_rows.Given as goal

-- a write of the remaining rows completes the whole write
abbrev pub invariant-loop-name : goal.invariant-loop-name
invariant-loop-name g l = (new : g.row.K.Denot) (r : Result (Unit {0}) Failed)
    → Writes g.K.Sink.written g.K.Sink.errors g.K.Sink.inners l.sink new (flat_map (λ row. line_text (row_words (as_row row))) (drop l.name-index l.rows)) r
    → Writes g.K.Sink.written g.K.Sink.errors g.K.Sink.inners l.initial.sink new (flat_map (λ row. line_text (row_words (as_row row))) l.rows) r
