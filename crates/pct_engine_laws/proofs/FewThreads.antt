-- A run makes at most one thread for each entry, beside the initial one.
use Rattle.pct_names.proofs.Names.{◌+◌, [], All, All-cons, All-filter, All-map, All-nil, All-weaker, arith, Config, count_by-le-length}
use Rattle.pct_names.proofs.Names.{Entry, filter, is_on, length, List, map, not, Process, range_with_len, Run, run, Script, Some, Thread}
use Rattle.pct_names.proofs.Names.{was_reaped, ℕ, ◌∷◌, ◌≡◌, ◌≤◌}
use Rattle.pct_engine_laws.specs.Seen.{SeenSlot, SeenProcess, seen_slot, seen_process, seen}
use Rattle.pct_engine_laws.specs.ThreadCounts.{MadeAtMost}
use Rattle.pct_engine_laws.proofs.RunNumbers.{HasFewIn, run_within}

made_few : (slots m : ℕ) (threads : List Thread) (indexes : List ℕ) → length threads ≤ m → MadeAtMost m (map (seen_slot slots threads) indexes)
made_few slots m threads [] few = All-nil (λ (s : SeenSlot). s.made ≤ m)
made_few slots m threads (i ∷ indexes) few =
    All-cons (λ (s : SeenSlot). s.made ≤ m) (seen_slot slots threads i) (map (seen_slot slots threads) indexes) (omega (arith, count_by-le-length (is_on slots i) threads, few)) (made_few slots m threads indexes few)

-- on each slot
pub few_made : (script : Script) (config : Config) (entries : List Entry) (after : Run) → run script config entries ≡ Some after → All (λ (p : SeenProcess). MadeAtMost (1 + length entries) p.slots) (seen config.slots after.world).processes
few_made script config entries after is =
    let m : ℕ = 1 + length entries in
    let left : List Process = filter (λ p. not (was_reaped p.ended)) after.world.processes in
    let few : All (HasFewIn m) left = All-filter (λ (p : Process). not (was_reaped p.ended)) (HasFewIn m) after.world.processes (run_within script config entries after is).state.each in
    All-map (λ (q : SeenProcess). MadeAtMost m q.slots) (seen_process config.slots) left
    (All-weaker (HasFewIn m) (λ p. MadeAtMost m (seen_process config.slots p).slots) (λ p each. made_few config.slots m p.threads (range_with_len 0 config.slots) each.few) left few)
