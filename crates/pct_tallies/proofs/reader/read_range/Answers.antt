use Rattle.std.proofs.Common.{refl}
use Rattle.pct_names.proofs.Names.{err_from_is_err_and}
use Rattle.pct_tallies.specs.Readings.{range_from}
use Rattle.pct_tallies.proofs.Binds.{fails, fails_on}
use Rattle.pct_tallies.proofs.reader.read_range.Goals as goal

pub returns-in_err-seeds-clause-read : goal.returns-in_err-seeds-clause-read
unfolding range_from
returns-in_err-seeds-clause-read c =
    let p = err_from_is_err_and c.from_residual.result c.from_residual.ensures.1 in
    rw (p.1, p.2) (fails_on c.in_err-seeds.field-0.0 _ _ (fails c.in_err-seeds.field-0.0 _ c.in_err-seeds.ensures.read))

pub returns-in_err-subject-clause-read : goal.returns-in_err-subject-clause-read
unfolding range_from
returns-in_err-subject-clause-read c =
    let p = err_from_is_err_and c.from_residual-in_err-subject.result c.from_residual-in_err-subject.ensures.1 in
    rw (p.1, p.2, c.in_ok-seeds.ensures.read) (fails_on c.in_err-subject.field-0.0 _ _ (fails c.in_err-subject.field-0.0 _ c.in_err-subject.ensures.read))

pub returns-in_err-tally-clause-read : goal.returns-in_err-tally-clause-read
unfolding range_from
returns-in_err-tally-clause-read c =
    let p = err_from_is_err_and c.from_residual-in_err-tally.result c.from_residual-in_err-tally.ensures.1 in
    rw (p.1, p.2, c.in_ok-seeds.ensures.read, c.in_ok-subject.ensures.read) (fails_on c.in_err-tally.field-0.0 _ _ c.in_err-tally.ensures.read)

pub returns-clause-read : goal.returns-clause-read
unfolding range_from
returns-clause-read c = rw (c.in_ok-seeds.ensures.read, c.in_ok-subject.ensures.read, c.in_ok-tally.ensures.read) refl
