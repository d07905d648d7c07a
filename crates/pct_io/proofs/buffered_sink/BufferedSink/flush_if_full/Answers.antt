use Rattle.std.proofs.Common.{refl}
use Rattle.std.proofs.KnownBytes.{Keeps-refl}
use Rattle.pct_io.specs.Buffered.{buffered, inners_through}
use Rattle.pct_io.proofs.Unchanged.{KeepsInners-refl}
use Rattle.pct_io.proofs.buffered_sink.BufferedSink.flush_if_full.Goals as goal

pub returns-then-has_capacity-clause-kept : goal.returns-then-has_capacity-clause-kept
returns-then-has_capacity-clause-kept g c = record {
  bytes = Keeps-refl (buffered g.K.Sink.written c.args.self.now);
  cause = record { ok = refl; err = tt };
  inners = KeepsInners-refl (inners_through g.K.Sink.written g.K.Sink.inners c.args.self.now);
}
