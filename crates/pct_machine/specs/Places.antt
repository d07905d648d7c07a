-- How a machine keeps its processes.
use Rattle.std.specs.Prelude.{◌≡◌, ℕ, ◌<◌, ◌≤◌, List, [], ◌∷◌, length, map, take}
use Rattle.pct_model.specs.declared.limits.TheConstants.{MAX_PROCESSES}
use Rattle.pct_model.specs.declared.process.Relative.{Relative}
use Rattle.pct_model.specs.OtherProcesses.{Family, family_among}
use Rattle.pct_engine_laws.specs.Seen.{SeenProcess, relative_in}

-- the processes that are not reaped, and the number of processes ever made
pub record ProcessList : Type 0 where
  pub processes : List SeenProcess
  pub made : ℕ

-- the other processes, as the one with an id sees them
abbrev pub families : ProcessList → ℕ → Family
families list pid = family_among list.made (map relative_in list.processes) pid

-- the ids of processes rise, above one number and up to another
abbrev pub RiseWithin : ℕ → ℕ → List SeenProcess → Type 0
RiseWithin low high [] = low ≤ high
RiseWithin low high (p ∷ ps) = (low < p.pid) × RiseWithin p.pid high ps

-- there are eight places; the ids of the processes on those in use rise, up to the number of processes ever made; and their ids and ends are
-- these
pub record AreSound (live made : ℕ) (relatives : List Relative) (places : List SeenProcess) : Type 0 where
  pub all : length places ≡ MAX_PROCESSES
  pub within : live ≤ MAX_PROCESSES
  pub rising : RiseWithin 0 made (take live places)
  pub known : relatives ≡ map relative_in (take live places)
