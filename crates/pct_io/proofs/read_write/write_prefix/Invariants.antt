use Rattle.std.proofs.Common.{◌≡◌, length, ◌-◌, ◌≤◌, take}
use Rattle.std.specs.Io.KnownBytes.{Appends}
use Rattle.pct_io.specs.Inners.{KeepsInners}
use Rattle.pct_io.proofs.read_write.write_prefix.Given as goal

abbrev pub invariant-loop-done : goal.invariant-loop-done
invariant-loop-done g l = record {
  within : l.done ≤ length l.piece;
  written : Appends (g.K.Sink.written l.initial.sink) (g.K.Sink.written l.sink) (take l.done l.piece);
  no_error : g.K.Sink.errors l.sink ≡ g.K.Sink.errors l.initial.sink;
  inners : KeepsInners (g.K.Sink.inners l.initial.sink) (g.K.Sink.inners l.sink);
}

abbrev pub decreases-loop-done : goal.decreases-loop-done
decreases-loop-done g l = length l.piece - l.done
