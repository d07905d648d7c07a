-- On each place, a run makes at most one key for each entry.
use Rattle.pct_names.proofs.Names.{◌+◌, All, All-filter, All-map, All-weaker, arith, Config, Entry, filter, KeyPlace, length, List, not}
use Rattle.pct_names.proofs.Names.{Process, Run, run, Script, Some, was_reaped, ◌≡◌, ◌≤◌}
use Rattle.pct_engine_laws.specs.Seen.{SeenProcess, seen_process, seen}
use Rattle.pct_engine_laws.specs.KeyCounts.{KeysAtMost}
use Rattle.pct_engine_laws.proofs.KeyNumbers.{HasFewOn}
use Rattle.pct_engine_laws.proofs.RunNumbers.{HasFewIn, run_within}

-- on each place
pub few_keys_made : (script : Script) (config : Config) (entries : List Entry) (after : Run) → run script config entries ≡ Some after → All (λ (p : SeenProcess). KeysAtMost (length entries) p.shared.keys) (seen config.slots after.world).processes
few_keys_made script config entries after is =
    let n = length entries in
    let m = 1 + length entries in
    let left : List Process = filter (λ p. not (was_reaped p.ended)) after.world.processes in
    let few : All (HasFewIn m) left = All-filter (λ (p : Process). not (was_reaped p.ended)) (HasFewIn m) after.world.processes (run_within script config entries after is).state.each in
    All-map (λ (p : SeenProcess). KeysAtMost n p.shared.keys) (seen_process config.slots) left
    (All-weaker (HasFewIn m) (λ (p : Process). KeysAtMost n p.shared.keys) (λ p each. All-weaker (HasFewOn m) (λ (place : KeyPlace). place.made ≤ n) (λ place has. omega (arith, has.made)) p.shared.keys each.keys_few) left few)
