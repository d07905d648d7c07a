use Rattle.pct_names.proofs.Names.{drop, Result}
use Rattle.pct_io.specs.declared.failed.Failed.{Failed}
use Rattle.pct_io.specs.Writes.{Writes}
use Rattle.pct_printer.specs.Printing.{spaced}
use Rattle.pct_printer.proofs.printer.write_spaced_names.Given as goal

-- a write of the rest completes the whole write
abbrev pub invariant-loop-name : goal.invariant-loop-name
invariant-loop-name g l = (new : g.row.K.Denot) (r : Result (Unit {0}) Failed)
    → Writes g.K.Sink.written g.K.Sink.errors g.K.Sink.inners l.sink new (spaced (drop l.name-index l.names)) r
    → Writes g.K.Sink.written g.K.Sink.errors g.K.Sink.inners l.initial.sink new (spaced l.names) r
