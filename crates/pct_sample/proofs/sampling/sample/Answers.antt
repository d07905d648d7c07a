use Rattle.std.proofs.Common.{sym}
use Rattle.pct_sample.proofs.FirstSeeds.{are_first_seeds}
use Rattle.pct_sample.proofs.LongerTallies.{one_part_more, part_at, part_fits, whole_tally}
use Rattle.pct_sample.proofs.sampling.sample.Goals as goal

pub sum_of-requires : goal.sum_of-requires
sum_of-requires g c =
    let parts = c.as_slice-part-items in
    part_fits c.args.script.now c.args.seeds c.part_size-size.result c.loop-part.part-index c.loop-part.tally c.part-item.result c.requires.few c.loop-part.invariant
    (part_at c.args.script.now c.args.seeds c.part_size-size.result parts.result.now c.loop-part.part-index c.part-item.result (rw (sym parts.ensures.value) at c.in_ok-parts.ensures) c.loop-part-test.true c.part-item.is)

pub loop-part-preserved : goal.loop-part-preserved
loop-part-preserved g c =
    let parts = c.as_slice-part-items in
    one_part_more c.args.script.now c.args.seeds c.part_size-size.result c.loop-part.part-index c.loop-part.tally c.part-item.result c.in_ok-tally-2.tally c.loop-part.invariant
    (part_at c.args.script.now c.args.seeds c.part_size-size.result parts.result.now c.loop-part.part-index c.part-item.result (rw (sym parts.ensures.value) at c.in_ok-parts.ensures) c.loop-part-test.true c.part-item.is)
    c.in_ok-tally-2.ensures

pub returns-clause-tally : goal.returns-clause-tally
returns-clause-tally g c =
    let parts = c.as_slice-part-items in
    whole_tally c.args.script.now c.args.seeds c.part_size-size.result parts.result.now c.loop-part.part-index c.loop-part.tally (rw (sym parts.ensures.value) at c.in_ok-parts.ensures) c.loop-part-test.false
    c.loop-part.auto.part-index-end c.loop-part.invariant

pub returns-clause-first : goal.returns-clause-first
returns-clause-first g c =
    let parts = c.as_slice-part-items in
    are_first_seeds c.args.script.now c.args.seeds c.loop-part.tally c.requires.range.from_one
    (whole_tally c.args.script.now c.args.seeds c.part_size-size.result parts.result.now c.loop-part.part-index c.loop-part.tally (rw (sym parts.ensures.value) at c.in_ok-parts.ensures) c.loop-part-test.false
    c.loop-part.auto.part-index-end c.loop-part.invariant)
