-- A run makes at most one process for each entry, beside the first one.
use Rattle.pct_names.proofs.Names.{◌+◌, Config, Entry, length, List, Run, run, Script, Some, ◌≡◌, ◌≤◌}
use Rattle.pct_engine_laws.specs.Seen.{seen}
use Rattle.pct_engine_laws.proofs.RunNumbers.{run_within}

pub few_processes_made : (script : Script) (config : Config) (entries : List Entry) (after : Run) → run script config entries ≡ Some after → (seen config.slots after.world).made ≤ 1 + length entries
few_processes_made script config entries after is = (run_within script config entries after is).state.few
