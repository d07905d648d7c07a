use Rattle.std.proofs.Common.{Result, drop}
use Rattle.std.specs.List.{flat_map}
use Rattle.pct_io.specs.declared.failed.Failed.{Failed}
use Rattle.pct_io.specs.Writes.{Writes}
use Rattle.pct_io.proofs.read_write.write_parts.Given as goal

-- a result of writing the remaining parts is a result of writing all parts
abbrev pub invariant-loop-part : goal.invariant-loop-part
invariant-loop-part g l = (new : g.row.K.Denot) (r : Result (Unit {0}) Failed)
    → Writes g.K.Sink.written g.K.Sink.errors g.K.Sink.inners l.sink new (flat_map (λ part. part.now) (drop l.part-index l.parts)) r
    → Writes g.K.Sink.written g.K.Sink.errors g.K.Sink.inners l.initial.sink new (flat_map (λ part. part.now) l.parts) r
