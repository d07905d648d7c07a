use Rattle.std.proofs.Common.{refl}
use Rattle.pct_tallies.specs.Readings.{seeds_of}
use Rattle.pct_tallies.proofs.LinesLeft.{next_is, none_next}
use Rattle.pct_tallies.proofs.reader.read_seeds.Goals as goal

pub returns-in-Some-clause-read : goal.returns-in-Some-clause-read
returns-in-Some-clause-read c =
    rw (next_is seeds_of c.args.lines c.in-Some.after c.in-Some.line.now c.in-Some.ensures) (rw c.seeds_of.ensures at c.value_at.ensures.read)

pub returns-in-None-clause-read : goal.returns-in-None-clause-read
returns-in-None-clause-read c = rw (none_next seeds_of c.args.lines c.in-None.ensures, c.bad_line.ensures) refl
