use Rattle.std.proofs.Common.{◌≡◌, ◌+◌}
use Rattle.std.specs.List.{AllZip, range_with_len}
use Rattle.pct_sample.specs.SeedRuns.{IsRunOfSeed, config_of}
use Rattle.pct_sample.proofs.sampling.sample_part.Given as goal

abbrev pub invariant-loop-more : goal.invariant-loop-more
invariant-loop-more l = record {
  script : l.engine.script ≡ l.script;
  config : l.engine.config ≡ config_of l.script;
  rows : AllZip (IsRunOfSeed l.script) (range_with_len (l.seeds.first + l.before) l.more) l.runs.items;
}
