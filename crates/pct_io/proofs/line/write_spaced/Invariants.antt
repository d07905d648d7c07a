use Rattle.std.proofs.Common.{Result, ◌∷◌, drop}
use Rattle.std.specs.List.{flat_map}
use Rattle.pct_io.specs.declared.failed.Failed.{Failed}
use Rattle.pct_io.specs.Writes.{Writes}
use Rattle.pct_io.specs.Fields.{field_text}
use Rattle.pct_io.proofs.line.write_spaced.Given as goal

-- a result of writing the remaining fields is a result of writing all fields
abbrev pub invariant-loop-field : goal.invariant-loop-field
invariant-loop-field g l = (new : g.row.K.Denot) (r : Result (Unit {0}) Failed)
    → Writes g.K.Sink.written g.K.Sink.errors g.K.Sink.inners l.sink new (flat_map (λ field. 32 ∷ field_text field) (drop l.field-index l.fields)) r
    → Writes g.K.Sink.written g.K.Sink.errors g.K.Sink.inners l.initial.sink new (flat_map (λ field. 32 ∷ field_text field) l.fields) r
