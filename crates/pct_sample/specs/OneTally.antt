-- A script has one tally for each range of seeds.
use Rattle.std.specs.Prelude.{◌≡◌}
use Rattle.pct_model.specs.declared.script.Script.{Script}
use Rattle.pct_tallies.specs.declared.seeds.Seeds.{Seeds}
use Rattle.pct_tallies.specs.declared.tally.Tally.{Tally}
use Rattle.pct_sample.specs.Samples.{TallyOf}

-- what is counted depends on the script and the seeds alone
abbrev pub TalliesAreOne : Type 0
TalliesAreOne = (script : Script) (seeds : Seeds) (one other : Tally) → TallyOf script seeds one → TallyOf script seeds other → one ≡ other
