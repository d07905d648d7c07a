use Rattle.std.proofs.Common.{◌+◌, ◌^◌, arith, ltb-true}
use Rattle.pct_tallies.specs.Sums.{count_at, stop_fits}
use Rattle.pct_tallies.proofs.EachStop.{of_each_stop}
use Rattle.pct_tallies.proofs.sum.stop_sum.Goals as goal

pub sum_of_counts-requires : goal.sum_of_counts-requires
sum_of_counts-requires c =
    let fits = of_each_stop (stop_fits c.args.earlier.now c.args.later.now) c.args.why c.requires in
    rw (c.count_at.ensures, c.count_at-2.ensures) (ltb-true ((count_at c.args.why c.args.earlier.now).runs + (count_at c.args.why c.args.later.now).runs) (2 ^ 64) fits)
