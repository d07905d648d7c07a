use Rattle.std.proofs.Common.{refl}
use Rattle.pct_names.proofs.Names.{err_from_is_err_and}
use Rattle.pct_tallies.specs.Readings.{subject_from}
use Rattle.pct_tallies.proofs.Binds.{refused_on}
use Rattle.pct_tallies.proofs.reader.read_subject.Goals as goal

pub returns-in_err-digest-clause-read : goal.returns-in_err-digest-clause-read
unfolding subject_from
returns-in_err-digest-clause-read c =
    let p = err_from_is_err_and c.from_residual.result c.from_residual.ensures.1 in
    rw (p.1, p.2) (refused_on c.in_err-digest.field-0.0 _ _ c.in_err-digest.ensures.read)

pub returns-in_err-limits-clause-read : goal.returns-in_err-limits-clause-read
unfolding subject_from
returns-in_err-limits-clause-read c =
    let p = err_from_is_err_and c.from_residual-in_err-limits.result c.from_residual-in_err-limits.ensures.1 in
    rw (p.1, p.2, c.in_ok-digest.ensures.read) (refused_on c.in_err-limits.field-0.0 _ _ c.in_err-limits.ensures.read)

pub returns-clause-read : goal.returns-clause-read
unfolding subject_from
returns-clause-read c = rw (c.in_ok-digest.ensures.read, c.in_ok-limits.ensures.read) refl
