use Rattle.pct_names.proofs.Names.{contents_of, drop, Result}
use Rattle.pct_io.specs.declared.failed.Failed.{Failed}
use Rattle.pct_io.specs.Writes.{Writes}
use Rattle.pct_printer.specs.Printing.{body_text}
use Rattle.pct_printer.proofs.printer.write_body.Given as goal

-- a write of the rest completes the whole write
abbrev pub invariant-loop-statement : goal.invariant-loop-statement
invariant-loop-statement g l = (new : g.row.K.Denot) (r : Result (Unit {0}) Failed)
    → Writes g.K.Sink.written g.K.Sink.errors g.K.Sink.inners l.sink new (body_text (contents_of l.script) l.locals (drop l.statement-index l.body)) r
    → Writes g.K.Sink.written g.K.Sink.errors g.K.Sink.inners l.initial.sink new (body_text (contents_of l.script) l.locals l.body) r
