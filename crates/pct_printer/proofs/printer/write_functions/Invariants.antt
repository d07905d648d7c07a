use Rattle.pct_names.proofs.Names.{contents_of, drop, Result}
use Rattle.pct_io.specs.declared.failed.Failed.{Failed}
use Rattle.pct_io.specs.Writes.{Writes}
use Rattle.pct_printer.specs.Printing.{functions_text}
use Rattle.pct_printer.proofs.printer.write_functions.Given as goal

-- a write of the rest completes the whole write
abbrev pub invariant-loop-func : goal.invariant-loop-func
invariant-loop-func g l = (new : g.row.K.Denot) (r : Result (Unit {0}) Failed)
    → Writes g.K.Sink.written g.K.Sink.errors g.K.Sink.inners l.sink new (functions_text (contents_of l.script) (drop l.func-index l.funcs)) r
    → Writes g.K.Sink.written g.K.Sink.errors g.K.Sink.inners l.initial.sink new (functions_text (contents_of l.script) l.funcs) r
