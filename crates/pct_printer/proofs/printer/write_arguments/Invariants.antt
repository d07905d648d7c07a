use Rattle.pct_names.proofs.Names.{◌+◌, contents_of, drop, length, Result, syntax_of, ◌≤◌}
use Rattle.pct_io.specs.declared.failed.Failed.{Failed}
use Rattle.pct_io.specs.Writes.{Writes}
use Rattle.pct_printer.specs.Printing.{arguments_text}
use Rattle.pct_printer.proofs.printer.write_arguments.Given as goal

-- a write of the rest completes the whole write
abbrev pub invariant-loop-argument : goal.invariant-loop-argument
invariant-loop-argument g l = record {
  few : l.at + length l.rest ≤ length l.arguments;
  completes : (new : g.row.K.Denot) (r : Result (Unit {0}) Failed)
      → Writes g.K.Sink.written g.K.Sink.errors g.K.Sink.inners l.sink new (arguments_text (contents_of l.script) l.locals (drop l.at ((syntax_of l.line_kind).argument_kinds (length l.arguments))) l.rest) r
      → Writes g.K.Sink.written g.K.Sink.errors g.K.Sink.inners l.initial.sink new (arguments_text (contents_of l.script) l.locals ((syntax_of l.line_kind).argument_kinds (length l.arguments)) l.arguments) r;
}

abbrev pub decreases-loop-argument : goal.decreases-loop-argument
decreases-loop-argument g l = length l.rest
