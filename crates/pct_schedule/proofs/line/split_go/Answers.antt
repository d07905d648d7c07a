use Rattle.pct_names.proofs.Names.{sym}
use Rattle.std.proofs.Common.{le-leb}
use Rattle.pct_schedule.proofs.GoLines.{go_line}
use Rattle.pct_schedule.proofs.line.split_go.Goals as goal

pub returns-then-worker-le-MAX_WORKER : goal.returns-then-worker-le-MAX_WORKER
returns-then-worker-le-MAX_WORKER c =
    let two = c.in_ok-worker.ensures in
    go_line c.args.text.now two.next c.in_ok-worker.words.now c.in_ok-tid.words.now c.in_ok-after.after.now c.in_ok-worker.worker c.in_ok-worker.pid c.in_ok-tid.tid
    two.first two.second (sym c.in_ok-tid.ensures) c.in_ok-after.ensures (le-leb c.in_ok-worker.worker 16 c.if-worker-le-MAX_WORKER.true)
