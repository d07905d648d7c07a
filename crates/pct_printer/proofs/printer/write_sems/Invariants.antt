use Rattle.pct_names.proofs.Names.{drop, Result}
use Rattle.pct_io.specs.declared.failed.Failed.{Failed}
use Rattle.pct_io.specs.Writes.{Writes}
use Rattle.pct_printer.specs.Printing.{sems_text}
use Rattle.pct_printer.proofs.printer.write_sems.Given as goal

-- a write of the rest completes the whole write
abbrev pub invariant-loop-sem : goal.invariant-loop-sem
invariant-loop-sem g l = (new : g.row.K.Denot) (r : Result (Unit {0}) Failed)
    → Writes g.K.Sink.written g.K.Sink.errors g.K.Sink.inners l.sink new (sems_text (drop l.sem-index l.sems)) r
    → Writes g.K.Sink.written g.K.Sink.errors g.K.Sink.inners l.initial.sink new (sems_text l.sems) r
