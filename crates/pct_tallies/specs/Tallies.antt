-- What is counted of the runs of many seeds.
use Rattle.std.specs.Prelude.{◌≡◌, ℕ, min, max, Bool, not, List, [], ◌∷◌, map, filter, find, fold, count_by, sum_by, nat_eq, option_map, unwrap_or}
use Rattle.std.specs.List.{AllZip}
use Rattle.pct_model.specs.declared.limits.TheConstants.{DEFAULT_BUDGET}
use Rattle.pct_model.specs.declared.stop.Why.{Why}
use Rattle.pct_model.specs.declared.stop.Why.TheVariants as why
use Rattle.pct_model.specs.declared.stop.Verdict.{Verdict}
use Rattle.pct_model.specs.declared.stop.Verdict.TheVariants as verdict
use Rattle.pct_model.specs.contracts.stop.VerdictPartialEq.TheImpl as verdict_eq
use Rattle.pct_tallies.specs.declared.seed_run.SeedRun.{SeedRun}
use Rattle.pct_tallies.specs.declared.count.Count.{Count}
use Rattle.pct_tallies.specs.declared.count.StopCount.{StopCount}
use Rattle.pct_tallies.specs.declared.seeds.Seeds.{Seeds}
use Rattle.pct_tallies.specs.declared.tally.Tally.{Tally}
use Rattle.pct_tallies.specs.Seeds.{seeds_in}

-- all stops, in the order in which they are listed
unfoldable pub all_stops : List Why
all_stops =
    why.ForkChildCall ∷ why.AsyncCall ∷ why.EnableInHandler ∷ why.ExitInEnding ∷ why.ThreadId ∷ why.JoinSelf ∷ why.NotJoinable ∷ why.JoinTwice
    ∷ why.DetachJoined ∷ why.KeyId ∷ why.NotOwner ∷ why.CondTwoMutexes ∷ why.ExitTwice ∷ why.ForkInEnding ∷ why.StackFull ∷ why.CleanupFull ∷ []

-- the run has this verdict, by the equality that `Verdict` derives
unfoldable pub has_verdict : Verdict → SeedRun → Bool
has_verdict v r = verdict_eq.ghosts.eq r.verdict v

-- how many runs have it
abbrev pub runs_with : Verdict → List SeedRun → ℕ
runs_with v runs = count_by (has_verdict v) runs

-- the seed of the first that has it, 0 if none has
abbrev pub first_with : Verdict → List SeedRun → ℕ
first_with v runs = unwrap_or (option_map (λ r. r.seed) (find (has_verdict v) runs)) 0

-- both
abbrev pub count_of : Verdict → List SeedRun → Count
count_of v runs = record { runs = runs_with v runs; first = first_with v runs }

-- the runs that a stop ended
abbrev pub stop_count : List SeedRun → Why → StopCount
stop_count runs w = record { why = w; count = count_of (verdict.Undefined w) runs }

-- it ended one
abbrev pub is_met : StopCount → Bool
is_met s = not (nat_eq s.count.runs 0)

-- those of these stops that ended a run, in order
unfoldable pub stops_among : List SeedRun → List Why → List StopCount
stops_among runs whys = filter is_met (map (stop_count runs) whys)

-- the least number of entries of a run, which is at most the budget
abbrev pub least_in : List SeedRun → ℕ
least_in runs = fold (λ least r. min least r.steps) DEFAULT_BUDGET runs

-- the greatest
abbrev pub most_in : List SeedRun → ℕ
most_in runs = fold (λ most r. max most r.steps) 0 runs

-- the tally of runs
abbrev pub tally_of : List SeedRun → Tally
tally_of runs = record {
  complete = count_of verdict.Complete runs;
  deadlock = count_of verdict.Deadlock runs;
  budget = count_of verdict.Budget runs;
  stops = stops_among runs all_stops;
  joined = sum_by (λ r. r.joined) runs;
  canceled = sum_by (λ r. r.canceled) runs;
  least = least_in runs;
  most = most_in runs;
}

-- the tally of runs under the seeds of a range, where `counts` says what is counted of the run of a seed
pub record IsTallyOf (counts : ℕ → SeedRun → Type 0) (seeds : Seeds) (tally : Tally) : Type 0 where
  pub runs : List SeedRun
  pub of_seeds : AllZip counts (seeds_in seeds) runs
  pub counted : tally ≡ tally_of runs
