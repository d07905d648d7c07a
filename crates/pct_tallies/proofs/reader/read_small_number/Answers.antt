use Rattle.std.proofs.Common.{refl}
use Rattle.pct_tallies.specs.Readings.{small_number_for}
use Rattle.pct_tallies.proofs.LinesLeft.{next_is, none_next}
use Rattle.pct_tallies.proofs.reader.read_small_number.Goals as goal

pub returns-in-Some-clause-read : goal.returns-in-Some-clause-read
returns-in-Some-clause-read c =
    rw (next_is (small_number_for c.args.word) c.args.lines c.in-Some.after c.in-Some.line.now c.in-Some.ensures) (rw c.small_number_for.ensures at c.value_at.ensures.read)

pub returns-in-None-clause-read : goal.returns-in-None-clause-read
returns-in-None-clause-read c = rw (none_next (small_number_for c.args.word) c.args.lines c.in-None.ensures, c.bad_line.ensures) refl
