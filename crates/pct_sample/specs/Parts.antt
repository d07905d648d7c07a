-- The tallies of the parts of a range of seeds, each of which has so many seeds, but the last. No public clause cites this file.
use Rattle.std.specs.Prelude.{◌≡◌, ℕ, ◌+◌, ◌*◌, ◌-◌, ◌≤◌, min, List, length}
use Rattle.std.specs.List.{AllZip, range_with_len}
use Rattle.pct_model.specs.declared.script.Script.{Script}
use Rattle.pct_tallies.specs.declared.seed_run.SeedRun.{SeedRun}
use Rattle.pct_tallies.specs.declared.seeds.Seeds.{Seeds}
use Rattle.pct_tallies.specs.declared.tally.Tally.{Tally}
use Rattle.pct_tallies.specs.Seeds.{seed_count}
use Rattle.pct_tallies.specs.Tallies.{tally_of}
use Rattle.pct_sample.specs.SeedRuns.{IsRunOfSeed}

-- the tally of the runs of a script under so many seeds, from the first on
pub record TallyFrom (script : Script) (first count : ℕ) (tally : Tally) : Type 0 where
  pub runs : List SeedRun
  pub of_seeds : AllZip (IsRunOfSeed script) (range_with_len first count) runs
  pub counted : tally ≡ tally_of runs

-- the tally of the part with a number, counted from 0
abbrev pub IsPart : Script → Seeds → ℕ → ℕ → Tally → Type 0
IsPart script seeds size part tally = TallyFrom script (seeds.first + min (part * size) (seed_count seeds)) (min size (seed_count seeds - part * size)) tally

-- the tallies of all parts, in order
pub record AreParts (script : Script) (seeds : Seeds) (size : ℕ) (tallies : List Tally) : Type 0 where
  pub each : AllZip (IsPart script seeds size) (range_with_len 0 (length tallies)) tallies
  pub all : seed_count seeds ≤ length tallies * size
