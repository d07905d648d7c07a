use Rattle.pct_names.proofs.Names.{err_from_is_err_and, rules}
use Rattle.pct_io.proofs.BufferedWrites.{Writes-kept, Writes-through}
use Rattle.pct_io.proofs.WritesInTurn.{Writes-then, Writes-fails}
use Rattle.pct_tallies.proofs.TallyLines.{tally-text}
use Rattle.pct_tallies.proofs.tally_text.write_tally.Goals as goal

pub returns-in_err-write_number : goal.returns-in_err-write_number
returns-in_err-write_number g c =
    let p = err_from_is_err_and c.from_residual.result c.from_residual.ensures.1 in
    rw (tally-text c.args.seeds c.args.tally.now, p.1)
    (Writes-through _ c.new-out.ensures.sink (search rules) c.new-out.ensures.buffer tt (Writes-fails _ c.in_err-write_number.ensures))

pub returns-in_err-write_counts : goal.returns-in_err-write_counts
returns-in_err-write_counts g c =
    let p = err_from_is_err_and c.from_residual-in_err-write_counts.result c.from_residual-in_err-write_counts.ensures.1 in
    rw (tally-text c.args.seeds c.args.tally.now, p.1)
    (Writes-through _ c.new-out.ensures.sink (search rules) c.new-out.ensures.buffer tt (Writes-then _ c.in_ok-write_number.ensures c.in_err-write_counts.ensures))

pub returns : goal.returns
returns g c =
    rw (tally-text c.args.seeds c.args.tally.now)
    (Writes-through c.flush.result c.new-out.ensures.sink (search rules) c.new-out.ensures.buffer c.flush.ensures.buffer
    (Writes-kept c.flush.result (Writes-then _ c.in_ok-write_number.ensures c.in_ok-write_counts.ensures) c.flush.ensures.kept))
