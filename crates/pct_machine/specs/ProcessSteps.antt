-- What the processes of a machine need, so that each of them can step.
use Rattle.std.specs.Prelude.{◌≡◌, ℕ, ◌+◌, ◌<◌, ◌^◌, List, Some, slice_get}
use Rattle.pct_engine_laws.specs.Seen.{SeenProcess}
use Rattle.pct_place.specs.ProcessSteps.{CanStep}

-- each process can step
abbrev pub EachCanStep : ℕ → List SeenProcess → Type 0
EachCanStep slots processes = (i : ℕ) (p : SeenProcess) → slice_get processes i ≡ Some p → CanStep slots p

-- the same, and the number of one process more fits 32 bits
pub record AllCanStep (slots : ℕ) (processes : List SeenProcess) (made : ℕ) : Type 0 where
  pub each : EachCanStep slots processes
  pub few_made : made + 1 < 2 ^ 32
