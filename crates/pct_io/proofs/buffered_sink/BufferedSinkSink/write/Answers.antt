use Rattle.std.proofs.Common.{length, sym, ◌∙◌}
use Rattle.std.proofs.lemmas.Bool.{eqb-true}
use Rattle.std.proofs.lemmas.List.{nil_from_length}
use Rattle.pct_io.proofs.Fifo.{IsFifo-then, IsFifo-direct}
use Rattle.pct_io.proofs.Unchanged.{Grows-trans, Grows-written, KeepsInners-trans}
use Rattle.pct_io.proofs.buffered_sink.BufferedSinkSink.write.Goals as goal

pub returns-then-piece-ge-CAPACITY-clause-inners : goal.returns-then-piece-ge-CAPACITY-clause-inners
returns-then-piece-ge-CAPACITY-clause-inners g c =
    let first = c.flush_if_full.ensures.kept.inners in (
      record {
        same_reference = first.0.same_reference;
        grows = Grows-trans _ _ _ first.0.grows (Grows-written _ _ c.write.result _ c.write.ensures.bytes);
      },
      KeepsInners-trans _ _ _ first.1 c.write.ensures.inners,
    )

pub returns-then-piece-ge-CAPACITY-clause-passes : goal.returns-then-piece-ge-CAPACITY-clause-passes
returns-then-piece-ge-CAPACITY-clause-passes g c =
    let empty = nil_from_length c.flush_if_full.new.self.buffer (eqb-true (length c.flush_if_full.new.self.buffer) 0 (sym c.is_empty.ensures ∙ c.if-is_empty.true)) in
    IsFifo-then _ _ _ _ _ _ _ c.flush_if_full.ensures.passes (IsFifo-direct _ _ _ _ c.write.result empty c.write.ensures.bytes)
