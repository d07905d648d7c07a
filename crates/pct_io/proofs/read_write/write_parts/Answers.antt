use Rattle.std.proofs.Common.{arith}
use Rattle.std.proofs.lemmas.Result.{err_from_is_err_and}
use Rattle.pct_io.proofs.WritesInTurn.{Writes-last, Writes-next, Writes-next_fails}
use Rattle.pct_io.proofs.read_write.write_parts.Goals as goal

pub loop-part-preserved : goal.loop-part-preserved
loop-part-preserved g c = λ new r writes. c.loop-part.invariant new r (Writes-next (λ part. part.now) _ c.loop-part.part-index _ r (omega arith) c.in_ok-write_all.ensures writes)

pub returns-in_err-write_all : goal.returns-in_err-write_all
returns-in_err-write_all g c =
    let p = err_from_is_err_and c.from_residual.result c.from_residual.ensures.1 in
    rw p.1 (c.loop-part.invariant _ _ (Writes-next_fails (λ part. part.now) _ c.loop-part.part-index _ (omega arith) c.in_err-write_all.ensures))

pub returns : goal.returns
returns g c = c.loop-part.invariant _ _ (Writes-last (λ part. part.now) _ c.loop-part.part-index _ (omega arith))
