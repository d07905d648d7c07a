use Rattle.std.proofs.Common.{sym}
use Rattle.pct_tallies.proofs.LinesLeft.{next_stop, no_stop}
use Rattle.pct_tallies.proofs.reader.read_stop.Goals as goal

pub returns-in-Some-clause-read : goal.returns-in-Some-clause-read
returns-in-Some-clause-read c =
    rw (next_stop c.args.why c.args.seeds c.args.lines c.in-Some.after c.in-Some.line.now c.in-Some.ensures)
    (rw (c.stop_count_for.ensures, c.in-Some.ensures.number) at c.with_lines.ensures.read)

pub returns-in-None-clause-read : goal.returns-in-None-clause-read
returns-in-None-clause-read c = sym (no_stop c.args.why c.args.seeds c.args.lines c.in-None.ensures)
