use Rattle.pct_names.proofs.Names.{arith, err_from_is_err_and, line_text}
use Rattle.pct_io.proofs.WritesInTurn.{Writes-last, Writes-next, Writes-next_fails}
use Rattle.pct_tallies.specs.TallyTexts.{stop_line}
use Rattle.pct_tallies.proofs.tally_text.write_stops.Goals as goal

pub loop-stop-preserved : goal.loop-stop-preserved
loop-stop-preserved g c = λ new r writes. c.loop-stop.invariant new r (Writes-next (λ s. line_text (stop_line s)) _ c.loop-stop.stop-index _ r (omega arith) c.in_ok-write_stop.ensures writes)

pub returns-in_err-write_stop : goal.returns-in_err-write_stop
returns-in_err-write_stop g c =
    let p = err_from_is_err_and c.from_residual.result c.from_residual.ensures.1 in
    rw p.1 (c.loop-stop.invariant _ _ (Writes-next_fails (λ s. line_text (stop_line s)) _ c.loop-stop.stop-index _ (omega arith) c.in_err-write_stop.ensures))

pub returns : goal.returns
returns g c = c.loop-stop.invariant _ _ (Writes-last (λ s. line_text (stop_line s)) _ c.loop-stop.stop-index _ (omega arith))
