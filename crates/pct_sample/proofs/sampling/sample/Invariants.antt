use Rattle.std.proofs.Common.{◌*◌, min}
use Rattle.pct_tallies.specs.Seeds.{seed_count}
use Rattle.pct_sample.specs.Parts.{TallyFrom}
use Rattle.pct_sample.proofs.sampling.sample.Given as goal

-- the parts so far are added
abbrev pub invariant-loop-part : goal.invariant-loop-part
invariant-loop-part g l = TallyFrom l.script l.fn.seeds.first (min (l.part-index * l.size) (seed_count l.fn.seeds)) l.tally
