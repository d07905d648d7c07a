-- What holds of each state that a run reaches.
use Rattle.pct_names.proofs.Names.{◌*◌, ◌+◌, ◌<◌, ◌^◌, All, All-weaker, arith, Config, Entry, get_or_from_slice_get, KeyPlace, length, List}
use Rattle.pct_names.proofs.Names.{mul-le-mul, None, Option, option_map_or, refl, Run, run, Script, slice_get, slice_get_within, Some, subst}
use Rattle.pct_names.proofs.Names.{sym, ℕ, ◌≡◌, ◌≤◌}
use Rattle.pct_engine_laws.specs.Seen.{SeenProcess, Seen, seen}
use Rattle.pct_engine_laws.specs.ThreadCounts.{MadeAtMost}
use Rattle.pct_engine_laws.specs.KeyCounts.{KeysAtMost}
use Rattle.pct_engine_laws.proofs.FewKeys.{few_keys_made}
use Rattle.pct_engine_laws.proofs.FewProcesses.{few_processes_made}
use Rattle.pct_engine_laws.proofs.FewThreads.{few_made}
use Rattle.pct_engine_laws.proofs.LongerRuns.{run_parts}
use Rattle.pct_engine_laws.proofs.PlacedThreads.{HoldsSlot, processes_are_placed}
use Rattle.pct_engine_laws.proofs.RunNumbers.{run_limited}
use Rattle.pct_ending_laws.proofs.KeptStates.{every_state_is_kept}
use Rattle.pct_actions.specs.ProcessChanges.{IsOnSlot}
use Rattle.pct_step_context.specs.Programs.{ProgramValue}
use Rattle.pct_machine.specs.ProcessSteps.{EachCanStep, AllCanStep}
use Rattle.pct_machine.proofs.ConfigLimits.{slots_within}
use Rattle.pct_engine.specs.Traces.{TraceValue}
use Rattle.pct_engine.specs.EngineStates.{StandsFor}
use Rattle.pct_engine.proofs.ForkingThreads.{forks_have_room}

next_below : (slot slots made n : ℕ) → slot < slots → slots ≤ 64 → made ≤ 1 + n → n ≤ 200000 → 1 + slot + slots * made < 2 ^ 32
next_below slot slots made n low few made_few budget =
    let low_made : made ≤ 200001 = omega (arith, made_few, budget) in
    let many : slots * made ≤ 64 * 200001 = mul-le-mul few low_made in
    omega (arith, low, few, many)

key_below : (place made n : ℕ) → place < 128 → made ≤ n → n ≤ 200000 → 1 + place + 128 * made < 2 ^ 32
key_below place made n low made_few budget =
    let low_made : made ≤ 200000 = omega (arith, made_few, budget) in
    omega (arith, low, low_made)

made_by : (places : List KeyPlace) (place n : ℕ) → KeysAtMost n places → option_map_or (λ p. p.made) (slice_get places place) 0 ≤ n
made_by places place n few = by (slice_get places place) refl where
  by : (o : Option KeyPlace) → slice_get places place ≡ o → option_map_or (λ p. p.made) o 0 ≤ n
  by None at = omega arith
  by (Some p) at = subst (λ (p : KeyPlace). p.made ≤ n) (get_or_from_slice_get places place p p at) (few place p (slice_get_within places place p at))

item_has : {T : Type 0} (P : T → Type 0) (xs : List T) (i : ℕ) (x : T) → All P xs → slice_get xs i ≡ Some x → P x
item_has P xs i x each at = subst P (get_or_from_slice_get xs i x x at) (each i x (slice_get_within xs i x at))

-- each of its processes can step
each_can_step : (script : Script) (config : Config) (entries : List Entry) (after : Run) → run script config entries ≡ Some after → EachCanStep config.slots (seen config.slots after.world).processes
each_can_step script config entries after is = λ i p at.
    let n : ℕ = length entries in
    let limits = run_limited script config entries after is in
    let some : 0 < config.slots = (slots_within config (run_parts script config entries after is).limits).0 in
    let placed = processes_are_placed config.slots after.world i p at in
    let all : length p.slots ≡ config.slots = placed.all in
    let processes : List SeenProcess = (seen config.slots after.world).processes in
    let made : MadeAtMost (1 + n) p.slots = item_has (λ (q : SeenProcess). MadeAtMost (1 + n) q.slots) processes i p (few_made script config entries after is) at in
    let keys : KeysAtMost n p.shared.keys = item_has (λ (q : SeenProcess). KeysAtMost n q.shared.keys) processes i p (few_keys_made script config entries after is) at in
    record {
      all = all;
      on_slots = λ s row found.
          subst (λ (slots : ℕ). All (IsOnSlot slots s) row.here) (sym all) (All-weaker (HoldsSlot config.slots s) (IsOnSlot config.slots s) (λ t has. record { on = has.on; holds = has.holds }) row.here (placed.each s row found));
      numbers = record {
        ids = λ k low. next_below k (length p.slots) _ n low (omega (arith, all, limits.slots)) (made k _ low) limits.budget;
        keys_fit = λ place low. key_below place _ n low (made_by p.shared.keys place n keys) limits.budget;
      };
      forks = forks_have_room script config after.world after.events some (every_state_is_kept script config entries after is) i p at;
    }

pid_below : (made n : ℕ) → made ≤ 1 + n → n ≤ 200000 → made + 1 < 2 ^ 32
pid_below made n made_few budget = omega (arith, made_few, budget)

-- the machine of an engine
pub stands_can_step : (program : ProgramValue) (trace : TraceValue) (machine : Seen) → StandsFor program trace machine → AllCanStep program.config.slots machine.processes machine.made
stands_can_step program trace machine stands =
    subst (λ (v : Seen). AllCanStep program.config.slots v.processes v.made) (sym stands.state_is) (record {
      each = each_can_step program.script program.config trace.history stands.after stands.is_run;
      few_made = pid_below _ (length trace.history) (few_processes_made program.script program.config trace.history stands.after stands.is_run) (run_limited program.script program.config trace.history stands.after stands.is_run).budget;
    })
