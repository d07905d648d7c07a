use Rattle.pct_names.proofs.Names.{err_from_is_err_and}
use Rattle.pct_io.proofs.WritesInTurn.{Writes-then, Writes-fails}
use Rattle.pct_tallies.proofs.TallyLines.{subject-text}
use Rattle.pct_tallies.proofs.tally_text.write_subject.Goals as goal

pub returns-in_err-write_words : goal.returns-in_err-write_words
returns-in_err-write_words g c =
    let p = err_from_is_err_and c.from_residual.result c.from_residual.ensures.1 in
    rw (subject-text c.args.subject.now, p.1) (Writes-fails _ (rw (c.text.ensures, c.as_slice.ensures) at c.in_err-write_words.ensures))

pub returns : goal.returns
returns g c = rw (subject-text c.args.subject.now) (Writes-then _ (rw (c.text.ensures, c.as_slice.ensures) at c.in_ok-write_words.ensures) c.write_line.ensures)
