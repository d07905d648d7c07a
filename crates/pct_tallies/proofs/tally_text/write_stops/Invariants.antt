use Rattle.pct_names.proofs.Names.{drop, line_text, Result}
use Rattle.std.specs.List.{flat_map}
use Rattle.pct_io.specs.declared.failed.Failed.{Failed}
use Rattle.pct_io.specs.Writes.{Writes}
use Rattle.pct_tallies.specs.TallyTexts.{stop_line}
use Rattle.pct_tallies.proofs.tally_text.write_stops.Given as goal

-- what completes the rest completes all
abbrev pub invariant-loop-stop : goal.invariant-loop-stop
invariant-loop-stop g l = (new : g.row.K.Denot) (r : Result (Unit {0}) Failed)
    → Writes g.K.Sink.written g.K.Sink.errors g.K.Sink.inners l.sink new (flat_map (λ s. line_text (stop_line s)) (drop l.stop-index l.stops)) r
    → Writes g.K.Sink.written g.K.Sink.errors g.K.Sink.inners l.initial.sink new (flat_map (λ s. line_text (stop_line s)) l.stops) r
