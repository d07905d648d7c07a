-- The values of the maps of processes.
use Rattle.std.specs.Prelude.{ℕ}
use Rattle.pct_process_maps.specs.declared.process_maps.ProcessMaps.{ProcessMaps}
use Rattle.pct_process_maps.specs.Roots.{value_by}

-- the value at a key, a number of 32 bits, in the map of process pid
abbrev pub value_in : ProcessMaps → ℕ → ℕ → ℕ
value_in maps pid key = value_by maps.versions maps.roots pid key
