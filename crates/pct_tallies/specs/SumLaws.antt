-- The laws of sums of tallies.
use Rattle.std.specs.Prelude.{◌≡◌, List, ◌++◌}
use Rattle.pct_tallies.specs.declared.seed_run.SeedRun.{SeedRun}
use Rattle.pct_tallies.specs.Sums.{sum_of}
use Rattle.pct_tallies.specs.Tallies.{tally_of}

-- the tally of some runs and of others is the sum of their tallies
abbrev pub SumsCountAll : Type 0
SumsCountAll = (earlier later : List SeedRun) → tally_of (earlier ++ later) ≡ sum_of (tally_of earlier) (tally_of later)
