-- Sums of the tallies of a script.
use Rattle.std.specs.Prelude.{ℕ, ◌+◌, ◌≤◌}
use Rattle.pct_model.specs.declared.script.Script.{Script}
use Rattle.pct_tallies.specs.declared.tally.Tally.{Tally}
use Rattle.pct_tallies.specs.Sums.{sum_of}
use Rattle.pct_sample.specs.Samples.{TallyOf}

-- the sum of the tallies for the seeds first to middle and middle + 1 to last is the tally for the seeds first to last
abbrev pub SumsAreTallies : Type 0
SumsAreTallies =
    (script : Script) (first middle last : ℕ) (earlier later : Tally) → first ≤ middle → middle + 1 ≤ last
    → TallyOf script (record { first = first; last = middle }) earlier → TallyOf script (record { first = middle + 1; last = last }) later
    → TallyOf script (record { first = first; last = last }) (sum_of earlier later)
