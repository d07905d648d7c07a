-- The tally of the runs of a script under the seeds of a range.
use Rattle.pct_model.specs.declared.script.Script.{Script}
use Rattle.pct_tallies.specs.declared.seeds.Seeds.{Seeds}
use Rattle.pct_tallies.specs.declared.tally.Tally.{Tally}
use Rattle.pct_tallies.specs.Tallies.{IsTallyOf}
use Rattle.pct_sample.specs.SeedRuns.{IsRunOfSeed}

-- a tally is that of the runs of a script under the seeds of a range
abbrev pub TallyOf : Script → Seeds → Tally → Type 0
TallyOf script seeds tally = IsTallyOf (IsRunOfSeed script) seeds tally
