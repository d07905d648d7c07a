use Rattle.std.proofs.Common.{refl}
use Rattle.pct_tallies.specs.Readings.{limits_of}
use Rattle.pct_tallies.proofs.LinesLeft.{next_is, none_next}
use Rattle.pct_tallies.proofs.reader.read_limits.Goals as goal

pub returns-in-Some-clause-read : goal.returns-in-Some-clause-read
returns-in-Some-clause-read c =
    rw (next_is limits_of c.args.lines c.in-Some.after c.in-Some.line.now c.in-Some.ensures) (rw c.limits_of.ensures at c.value_at.ensures.read)

pub returns-in-None-clause-read : goal.returns-in-None-clause-read
returns-in-None-clause-read c = rw (none_next limits_of c.args.lines c.in-None.ensures, c.bad_line.ensures) refl
