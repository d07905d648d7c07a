use Rattle.std.proofs.Common.{ap, ◌∙◌}
use Rattle.std.specs.Io.KnownBytes.{append_known}
use Rattle.pct_io.proofs.BufferedWrites.{append_known-nil}
use Rattle.pct_io.proofs.buffered_sink.BufferedSink.new.Goals as goal

pub returns-clause-written : goal.returns-clause-written
returns-clause-written g c =
    let bytes = g.K.Sink.written c.args.sink.now in
    ap (append_known bytes) c.new.ensures ∙ append_known-nil bytes
