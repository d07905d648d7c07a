use Rattle.pct_names.proofs.Names.{arith, sym}
use Rattle.pct_schedule.proofs.LineLoops.{reads_line, header_found, header_later, no_header}
use Rattle.pct_schedule_reader.proofs.reader.find_header.Goals as goal

pub returns-then-begins_with-clause-found : goal.returns-then-begins_with-clause-found
returns-then-begins_with-clause-found c =
    let reads = reads_line c.loop-raw.rest.now c.in-Some.raw.now c.strip_cr-line.result.now c.in-Some.after.now c.in-Some.ensures c.strip_cr-line.ensures in
    header_found c.loop-raw.number _ _ _ _ reads (sym c.if-begins_with.ensures) c.loop-raw.invariant.found

pub loop-raw-preserved : goal.loop-raw-preserved
loop-raw-preserved c =
    let reads = reads_line c.loop-raw.rest.now c.in-Some.raw.now c.strip_cr-line.result.now c.in-Some.after.now c.in-Some.ensures c.strip_cr-line.ensures in
    record { found = header_later c.loop-raw.number _ _ _ _ reads (sym c.if-begins_with.ensures) c.loop-raw.invariant.found; bound = omega (arith, c.in-Some.ensures.shorter, c.loop-raw.invariant.bound) }

pub returns-clause-found : goal.returns-clause-found
returns-clause-found c = no_header c.loop-raw.number c.loop-raw.rest.now _ c.in_default.ensures c.loop-raw.invariant.found
